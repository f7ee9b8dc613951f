-- Samples that come after others: each stage goes on from the state in which the first ones left it.
use Rattle.std.proofs.Common.{◌≡◌, ℕ, zero, suc, ◌+◌, ◌<◌, ◌≤◌, List, [], ◌∷◌, ◌++◌, length, take, map, refl, sym, ap, ◌∙◌, arith}
use Rattle.std.proofs.lemmas.List.{map-append, take-map}
use Rattle.std.proofs.Math.Seq.{take-append-add, take-length}
use Rattle.pr_conf_pipeline.specs.Rows.{Step, state_over, rows_over, rows, state_after, through, resumed}
use Rattle.pr_conf_pipeline.proofs.RowLaws.{state_over-append, length-rows, take-rows}

pub rows_over-append : {S R : Type 0} (m : Step S R) (st : S) (xs ys : List R) → rows_over m st (xs ++ ys) ≡ rows_over m st xs ++ rows_over m (state_over m st xs) ys
rows_over-append m st [] ys = refl
rows_over-append m st (x ∷ xs) ys = ap (λ zs. m.out st x ∷ zs) (rows_over-append m (m.next st x) xs ys)

-- with another first state a stage still works alike
rows_over-init : {S R : Type 0} (m : Step S R) (first st : S) (xs : List R) → rows_over (record m { init = first }) st xs ≡ rows_over m st xs
rows_over-init m first st [] = refl
rows_over-init m first st (x ∷ xs) = ap (λ zs. m.out st x ∷ zs) (rows_over-init m first (m.next st x) xs)

state_over-init : {S R : Type 0} (m : Step S R) (first st : S) (xs : List R) → state_over (record m { init = first }) st xs ≡ state_over m st xs
state_over-init m first st [] = refl
state_over-init m first st (x ∷ xs) = state_over-init m first (m.next st x) xs

-- the state after all samples
pub state_whole : {S R : Type 0} (M : ℕ → Step S R) (s : ℕ) (xs : List R) → state_after M s (length xs) xs ≡ state_over (M s) (M s).init (rows M s xs)
unfolding state_after
state_whole M s xs = ap (λ n. state_over (M s) (M s).init (take n (rows M s xs))) (sym (length-rows M s xs)) ∙ ap (state_over (M s) (M s).init) (take-length (rows M s xs))

-- ---- over all stages
pub rows-append : {S R : Type 0} (M : ℕ → Step S R) (s : ℕ) (xs ys : List R) → rows M s (xs ++ ys) ≡ rows M s xs ++ rows (resumed M xs) s ys
unfolding rows
rows-append M zero xs ys = refl
rows-append M (suc s) xs ys =
    ap (rows_over (M s) (M s).init) (rows-append M s xs ys)
    ∙ rows_over-append (M s) (M s).init (rows M s xs) (rows (resumed M xs) s ys)
    ∙ ap (λ zs. rows_over (M s) (M s).init (rows M s xs) ++ zs)
    (ap (λ st. rows_over (M s) st (rows (resumed M xs) s ys)) (sym (state_whole M s xs))
    ∙ sym (rows_over-init (M s) (state_after M s (length xs) xs) (state_after M s (length xs) xs) (rows (resumed M xs) s ys)))

pub state_after-append : {S R : Type 0} (M : ℕ → Step S R) (s j : ℕ) (xs ys : List R) → state_after M s (length xs + j) (xs ++ ys) ≡ state_after (resumed M xs) s j ys
unfolding state_after
state_after-append M s j xs ys =
    ap (λ zs. state_over (M s) (M s).init (take (length xs + j) zs)) (rows-append M s xs ys)
    ∙ ap (λ n. state_over (M s) (M s).init (take (n + j) (rows M s xs ++ rows (resumed M xs) s ys))) (sym (length-rows M s xs))
    ∙ ap (state_over (M s) (M s).init) (take-append-add (rows M s xs) (rows (resumed M xs) s ys) j)
    ∙ state_over-append (M s) (M s).init (rows M s xs) (take j (rows (resumed M xs) s ys))
    ∙ ap (λ st. state_over (M s) st (take j (rows (resumed M xs) s ys))) (sym (state_whole M s xs))
    ∙ sym (state_over-init (M s) (state_after M s (length xs) xs) (state_after M s (length xs) xs) (take j (rows (resumed M xs) s ys)))

pub through-append : {S R B : Type 0} (M : ℕ → Step S R) (v : ℕ) (tap : R → B) (xs ys : List R) → through M v tap (xs ++ ys) ≡ through M v tap xs ++ through (resumed M xs) v tap ys
through-append M v tap xs ys = ap (map tap) (rows-append M v xs ys) ∙ map-append tap (rows M v xs) (rows (resumed M xs) v ys)

-- the results of the first samples are the first results
pub take-through : {S R B : Type 0} (M : ℕ → Step S R) (v : ℕ) (tap : R → B) (j : ℕ) (xs : List R) → take j (through M v tap xs) ≡ through M v tap (take j xs)
take-through M v tap j xs = take-map tap j (rows M v xs) ∙ ap (map tap) (take-rows M v j xs)

-- ---- pipelines that have the same stages below v
pub rows_alike : {S R : Type 0} (M K : ℕ → Step S R) (v : ℕ) (xs : List R) → ((s : ℕ) → s < v → M s ≡ K s) → rows M v xs ≡ rows K v xs
unfolding rows
rows_alike M K zero xs same = refl
rows_alike M K (suc v) xs same =
    ap (rows_over (M v) (M v).init) (rows_alike M K v xs (λ s h. same s (omega arith)))
    ∙ ap (λ m. rows_over m m.init (rows K v xs)) (same v (omega arith))

pub state_alike : {S R : Type 0} (M K : ℕ → Step S R) (s j : ℕ) (xs : List R) → ((r : ℕ) → r ≤ s → M r ≡ K r) → state_after M s j xs ≡ state_after K s j xs
unfolding state_after
state_alike M K s j xs same =
    ap (λ zs. state_over (M s) (M s).init (take j zs)) (rows_alike M K s xs (λ r h. same r (omega arith)))
    ∙ ap (λ m. state_over m m.init (take j (rows K s xs))) (same s (omega arith))
