-- What the definitions of rows and states give at a place of the list, and for a prefix of it.
use Rattle.std.proofs.Common.{◌≡◌, ℕ, zero, suc, ◌+◌, ◌<◌, ◌≤◌, List, [], ◌∷◌, ◌++◌, length, get_or, take, refl, sym, ap, ◌∙◌, arith}
use Rattle.std.proofs.lemmas.List.{take-append-le, take_more, get_or-take}
use Rattle.pr_conf_pipeline.specs.Rows.{Step, state_over, rows_over, rows, state_after}

pub state_over-append : {S R : Type 0} (m : Step S R) (st : S) (xs ys : List R) → state_over m st (xs ++ ys) ≡ state_over m (state_over m st xs) ys
state_over-append m st [] ys = refl
state_over-append m st (x ∷ xs) ys = state_over-append m (m.next st x) xs ys

pub length-rows_over : {S R : Type 0} (m : Step S R) (st : S) (xs : List R) → length (rows_over m st xs) ≡ length xs
length-rows_over m st [] = refl
length-rows_over m st (x ∷ xs) = ap suc (length-rows_over m (m.next st x) xs)

pub take-rows_over : {S R : Type 0} (m : Step S R) (st : S) (j : ℕ) (xs : List R) → take j (rows_over m st xs) ≡ rows_over m st (take j xs)
take-rows_over m st zero xs = refl
take-rows_over m st (suc j) [] = refl
take-rows_over m st (suc j) (x ∷ xs) = ap (λ ys. m.out st x ∷ ys) (take-rows_over m (m.next st x) j xs)

pub get_or-rows_over : {S R : Type 0} (m : Step S R) (st : S) (j : ℕ) (xs : List R) (d : R) → j < length xs → get_or (rows_over m st xs) j d ≡ m.out (state_over m st (take j xs)) (get_or xs j d)
get_or-rows_over m st j [] d h = absurd (omega arith)
get_or-rows_over m st zero (x ∷ xs) d h = refl
get_or-rows_over m st (suc j) (x ∷ xs) d h = get_or-rows_over m (m.next st x) j xs d (omega arith)

-- ---- over all stages
pub length-rows : {S R : Type 0} (M : ℕ → Step S R) (s : ℕ) (xs : List R) → length (rows M s xs) ≡ length xs
unfolding rows
length-rows M zero xs = refl
length-rows M (suc s) xs = length-rows_over (M s) (M s).init (rows M s xs) ∙ length-rows M s xs

pub take-rows : {S R : Type 0} (M : ℕ → Step S R) (s j : ℕ) (xs : List R) → take j (rows M s xs) ≡ rows M s (take j xs)
unfolding rows
take-rows M zero j xs = refl
take-rows M (suc s) j xs = take-rows_over (M s) (M s).init j (rows M s xs) ∙ ap (rows_over (M s) (M s).init) (take-rows M s j xs)

-- what is offered later changes nothing
pub rows_more : {S R : Type 0} (M : ℕ → Step S R) (s j : ℕ) (xs ys : List R) → j ≤ length xs → take j (rows M s (xs ++ ys)) ≡ take j (rows M s xs)
rows_more M s j xs ys h = take-rows M s j (xs ++ ys) ∙ (ap (rows M s) (take-append-le j xs ys h) ∙ sym (take-rows M s j xs))

-- a row that stage s + 1 reads is what stage s makes of its own at its state
pub row_step : {S R : Type 0} (M : ℕ → Step S R) (s j : ℕ) (xs : List R) (d : R) → j < length xs → get_or (rows M (suc s) xs) j d ≡ (M s).out (state_after M s j xs) (get_or (rows M s xs) j d)
unfolding rows state_after
row_step M s j xs d h = get_or-rows_over (M s) (M s).init j (rows M s xs) d (let e = length-rows M s xs in omega arith)

pub state_step : {S R : Type 0} (M : ℕ → Step S R) (s j : ℕ) (xs : List R) (d : R) → j < length xs → state_after M s (j + 1) xs ≡ (M s).next (state_after M s j xs) (get_or (rows M s xs) j d)
unfolding state_after
state_step M s j xs d h =
    let l : j < length (rows M s xs) = let e = length-rows M s xs in omega arith in
    ap (state_over (M s) (M s).init) (take_more (rows M s xs) j d l) ∙ state_over-append (M s) (M s).init (take j (rows M s xs)) (get_or (rows M s xs) j d ∷ [])

pub state_first : {S R : Type 0} (M : ℕ → Step S R) (s : ℕ) (xs : List R) → state_after M s 0 xs ≡ (M s).init
unfolding state_after
state_first M s xs = refl

pub state_more : {S R : Type 0} (M : ℕ → Step S R) (s j : ℕ) (xs ys : List R) → j ≤ length xs → state_after M s j (xs ++ ys) ≡ state_after M s j xs
unfolding state_after
state_more M s j xs ys h = ap (state_over (M s) (M s).init) (rows_more M s j xs ys h)

pub row_more : {S R : Type 0} (M : ℕ → Step S R) (s j : ℕ) (xs ys : List R) (d : R) → j < length xs → get_or (rows M s (xs ++ ys)) j d ≡ get_or (rows M s xs) j d
row_more M s j xs ys d h =
    sym (get_or-take (j + 1) (rows M s (xs ++ ys)) j d (omega arith)) ∙ (ap (λ zs. get_or zs j d) (rows_more M s (j + 1) xs ys (omega arith)) ∙ get_or-take (j + 1) (rows M s xs) j d (omega arith))

pub row_first : {S R : Type 0} (M : ℕ → Step S R) (xs : List R) → rows M 0 xs ≡ xs
unfolding rows
row_first M xs = refl
