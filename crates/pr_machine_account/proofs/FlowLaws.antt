-- What a stage reads and keeps, from one cycle to the next.
use Rattle.std.proofs.Common.{◌≡◌, ℕ, zero, suc, ◌+◌, ◌-◌, ◌<◌, ◌≤◌, true, false, cond, List, [], ◌∷◌, ◌++◌, length, take, refl, sym, ap, ◌∙◌, arith, inl, inr, None, slice_get, ltb}
use Rattle.std.proofs.lemmas.Bool.{cases_Bool}
use Rattle.std.proofs.lemmas.List.Sums.{count_by-le-length}
use Rattle.pr_conf_pipeline.specs.Rows.{Step, state_over, rows_over, rows, state_after}
use Rattle.pr_machine_account.specs.Account.{below, enters, IsEntries}
use Rattle.pr_machine_account.specs.Flow.{state_at, read_at, state_with, row_with}
use Rattle.pr_conf_pipeline.proofs.RowLaws.{state_more, state_first, rows_more}
use Rattle.pr_machine_account.proofs.AccountLaws.{done_step, below_zero}

-- ---- one stage over a list, at any index
get-rows_over : {S R : Type 0} (m : Step S R) (st : S) (j : ℕ) (xs : List R) → slice_get (rows_over m st xs) j ≡ row_with m (state_over m st (take j xs)) (slice_get xs j)
get-rows_over m st zero [] = refl
get-rows_over m st (suc j) [] = refl
get-rows_over m st zero (x ∷ xs) = refl
get-rows_over m st (suc j) (x ∷ xs) = get-rows_over m (m.next st x) j xs

state-more_over : {S R : Type 0} (m : Step S R) (st : S) (j : ℕ) (xs : List R) → state_over m st (take (suc j) xs) ≡ state_with m (state_over m st (take j xs)) (slice_get xs j)
state-more_over m st zero [] = refl
state-more_over m st (suc j) [] = refl
state-more_over m st zero (x ∷ xs) = refl
state-more_over m st (suc j) (x ∷ xs) = state-more_over m (m.next st x) j xs

-- ---- the two laws of the flow
pub read_next : {S R : Type 0} (M : ℕ → Step S R) (xs : List R) (es : List ℕ) (s x : ℕ) → read_at M xs es (suc s) x ≡ row_with (M s) (state_at M xs es s x) (read_at M xs es s x)
unfolding read_at state_at rows state_after
read_next M xs es s x = elim (cases_Bool (enters x es)) [
  | inl e ↦ rw e (get-rows_over (M s) (M s).init (below x es) (rows M s xs))
  | inr e ↦ rw e refl
]

pub state_next : {S R : Type 0} (M : ℕ → Step S R) (xs : List R) (es : List ℕ) (v p n s t : ℕ) → IsEntries v p n es → state_at M xs es s (t + 1 - s) ≡ state_with (M s) (state_at M xs es s (t - s)) (read_at M xs es s (t - s))
unfolding read_at state_at state_after
state_next M xs es v p n s t h = elim (cases_Bool (enters (t - s) es)) [
  | inl e ↦ (
      let d : below (t + 1 - s) es ≡ suc (below (t - s) es) = omega (arith, done_step v p n t s es h, ap (λ b. cond {A = ℕ} b 1 0) e) in
      rw (e, d) (state-more_over (M s) (M s).init (below (t - s) es) (rows M s xs)))
  | inr e ↦ (
      let d : below (t + 1 - s) es ≡ below (t - s) es = omega (arith, done_step v p n t s es h, ap (λ b. cond {A = ℕ} b 1 0) e) in
      rw (e, d) refl)
]

-- where no sample entered, the state stays and a bubble is read
pub read_none : {S R : Type 0} (M : ℕ → Step S R) (xs : List R) (es : List ℕ) (s x : ℕ) → enters x es ≡ false → read_at M xs es s x ≡ None
unfolding read_at
read_none M xs es s x e = rw e refl

pub state_same : {S R : Type 0} (M : ℕ → Step S R) (xs : List R) (es : List ℕ) (v p n s t : ℕ) → IsEntries v p n es → enters (t - s) es ≡ false → state_at M xs es s (t + 1 - s) ≡ state_at M xs es s (t - s)
state_same M xs es v p n s t h e = state_next M xs es v p n s t h ∙ ap (state_with (M s) (state_at M xs es s (t - s))) (read_none M xs es s (t - s) e)

-- stage 0 reads the sample that enters
pub read_first : {S R : Type 0} (M : ℕ → Step S R) (xs : List R) (es : List ℕ) (x : ℕ) → read_at M xs es 0 x ≡ cond (enters x es) (slice_get xs (below x es)) None
unfolding read_at rows
read_first M xs es x = refl

-- a state before all entries
pub state_start : {S R : Type 0} (M : ℕ → Step S R) (xs : List R) (es : List ℕ) (s : ℕ) → state_at M xs es s 0 ≡ (M s).init
unfolding state_at
state_start M xs es s = ap (λ j. state_after M s j xs) (below_zero es) ∙ state_first M s xs

-- ---- what is offered later changes nothing that was done
pub inside_entries : (v p n x : ℕ) (es : List ℕ) → IsEntries v p n es → enters x es ≡ true → below x es < length es
unfolding below
inside_entries v p n x es h e = let o = h.once x in let l = count_by-le-length (λ y. ltb y (x + 1)) es in let c = ap (λ b. cond {A = ℕ} b 1 0) e in omega arith

pub below_few : (x : ℕ) (es : List ℕ) → below x es ≤ length es
unfolding below
below_few x es = count_by-le-length (λ y. ltb y x) es

pub state_offered : {S R : Type 0} (M : ℕ → Step S R) (xs ys : List R) (es : List ℕ) (s x : ℕ) → length es ≤ length xs → state_at M (xs ++ ys) es s x ≡ state_at M xs es s x
unfolding state_at
state_offered M xs ys es s x h = let l = below_few x es in state_more M s (below x es) xs ys (omega arith)

get_take_suc : {R : Type 0} (j : ℕ) (xs : List R) → slice_get (take (suc j) xs) j ≡ slice_get xs j
get_take_suc zero [] = refl
get_take_suc (suc j) [] = refl
get_take_suc zero (x ∷ xs) = refl
get_take_suc (suc j) (x ∷ xs) = get_take_suc j xs

get_take : {R : Type 0} (j : ℕ) (xs : List R) → slice_get (take (j + 1) xs) j ≡ slice_get xs j
get_take j xs = let a : j + 1 ≡ suc j = omega arith in rw a (get_take_suc j xs)

get_more : {R : Type 0} (j : ℕ) (xs ys : List R) → take (j + 1) xs ≡ take (j + 1) ys → slice_get xs j ≡ slice_get ys j
get_more j xs ys e = sym (get_take j xs) ∙ (ap (λ zs. slice_get zs j) e ∙ get_take j ys)

pub read_offered : {S R : Type 0} (M : ℕ → Step S R) (xs ys : List R) (es : List ℕ) (v p n s x : ℕ) → IsEntries v p n es → length es ≤ length xs → read_at M (xs ++ ys) es s x ≡ read_at M xs es s x
unfolding read_at
read_offered M xs ys es v p n s x h l = elim (cases_Bool (enters x es)) [
  | inl e ↦ (let k = inside_entries v p n x es h e in rw e (get_more (below x es) (rows M s (xs ++ ys)) (rows M s xs) (rows_more M s (below x es + 1) xs ys (omega arith))))
  | inr e ↦ rw e refl
]
