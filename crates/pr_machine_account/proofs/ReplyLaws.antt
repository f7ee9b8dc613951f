-- The results that a history is given are the first results over the pieces that it offered.
use Rattle.std.proofs.Common.{◌≡◌, ℕ, ◌+◌, ◌-◌, ◌<◌, ◌≤◌, Bool, true, false, ltb, List, [], ◌∷◌, ◌++◌, length, take, map, cond, refl, sym, ap, ◌∙◌, arith, inl, inr, Some, slice_get, get_or, append_assoc, append-nil}
use Rattle.std.proofs.lemmas.Bool.{cases_lt, cond-true, cond-false, cond_both, lt-ltb, le-ltb}
use Rattle.std.proofs.lemmas.List.{take_more, take-map, length-map, take_all}
use Rattle.std.proofs.lemmas.Option.{slice_get-get_or}
use Rattle.pr_conf_pipeline.specs.Rows.{Step, rows, through}
use Rattle.pr_conf_pipeline.proofs.RowLaws.{length-rows, rows_more}
use Rattle.pr_machine_account.specs.Account.{Account, Event, Offer, Take, Cycle, left, after, account_from, account, start, stalled, entered, IsLawful}
use Rattle.pr_machine_account.specs.Replies.{Reply, Accepted, InFull, Given, OutEmpty, Advanced, Stalled, given, reply, replies_from, result_in, results_in}
use Rattle.pr_machine_account.proofs.AccountLaws.{lawful_after, lawful_start, done_below}
use Rattle.pr_machine_account.proofs.FlowLaws.{below_few}

pub length-through : {S R B : Type 0} (M : ℕ → Step S R) (v : ℕ) (tap : R → B) (xs : List R) → length (through M v tap xs) ≡ length xs
length-through M v tap xs = length-map (rows M v xs) tap ∙ length-rows M v xs

through_more : {S R B : Type 0} (M : ℕ → Step S R) (v j : ℕ) (tap : R → B) (xs ys : List R) → j ≤ length xs → take j (through M v tap (xs ++ ys)) ≡ take j (through M v tap xs)
through_more M v j tap xs ys h = take-map tap j (rows M v (xs ++ ys)) ∙ (ap (map tap) (rows_more M v j xs ys h) ∙ sym (take-map tap j (rows M v xs)))

-- the results taken so far
abbrev so_far : {S R B : Type 0} → (ℕ → Step S R) → ℕ → (R → B) → Account R → List B
so_far M v tap a = take a.taken (through M v tap a.offered)

-- no more results leave than samples were offered
pub left_inside : {R : Type 0} (v p : ℕ) (a : Account R) → IsLawful v p a → left v a ≤ length a.offered
left_inside v p a h = let d = done_below (v - 1) a.time a.entries in let b = below_few (a.time - (v - 1)) a.entries in let f = h.few in omega arith

there : {B : Type 0} (xs : List B) (i : ℕ) → i < length xs → (x : B) × (slice_get xs i ≡ Some x)
there [] i k = absurd (omega arith)
there (x ∷ xs) i k = (get_or (x ∷ xs) i x, slice_get-get_or (x ∷ xs) i x k)

-- the result of a Take is there
pub given_one : {S R B : Type 0} (M : ℕ → Step S R) (v p : ℕ) (tap : R → B) (a : Account R) → IsLawful v p a → a.taken < left v a
    → (result : B) × (slice_get (through M v tap a.offered) a.taken ≡ Some result) × (reply M v p tap a Take ≡ Given result)
given_one M v p tap a h l =
    let i = left_inside v p a h in
    let n = length-through M v tap a.offered in
    let g = there (through M v tap a.offered) a.taken (omega arith) in
    (g.0, g.1, ap given (cond-true (ltb a.taken (left v a)) _ _ (lt-ltb a.taken (left v a) l) ∙ g.1))

pub none_given : {S R B : Type 0} (M : ℕ → Step S R) (v p : ℕ) (tap : R → B) (a : Account R) → left v a ≤ a.taken → reply M v p tap a Take ≡ OutEmpty
none_given M v p tap a l = ap given (cond-false (ltb a.taken (left v a)) _ _ (le-ltb a.taken (left v a) l))

-- ---- one event more
more_taken : {B : Type 0} (xs : List B) (i : ℕ) → i < length xs → take (i + 1) xs ≡ take i xs ++ result_in (given (slice_get xs i))
more_taken [] i h = absurd (omega arith)
more_taken (x ∷ xs) i h = let e = slice_get-get_or (x ∷ xs) i x h in take_more (x ∷ xs) i x h ∙ ap (λ o. take i (x ∷ xs) ++ result_in (given o)) (sym e)

step_take : {S R B : Type 0} (M : ℕ → Step S R) (v p : ℕ) (tap : R → B) (a : Account R) → IsLawful v p a → so_far M v tap (after v p a Take) ≡ so_far M v tap a ++ result_in (reply M v p tap a Take)
step_take M v p tap a h = elim (cases_lt a.taken (left v a)) [
  | inl l ↦ (
      let i = left_inside v p a h in
      let n = length-through M v tap a.offered in
      let k : a.taken < length (through M v tap a.offered) = omega arith in
      let b = lt-ltb a.taken (left v a) l in
      ap (λ x. so_far M v tap x) (cond-true (ltb a.taken (left v a)) _ _ b) ∙ (more_taken (through M v tap a.offered) a.taken k ∙ sym (ap (λ o. so_far M v tap a ++ result_in (given o)) (cond-true (ltb a.taken (left v a)) _ _ b))))
  | inr g ↦ (
      let b = le-ltb a.taken (left v a) g in
      ap (λ x. so_far M v tap x) (cond-false (ltb a.taken (left v a)) _ _ b) ∙ (sym (append-nil (so_far M v tap a)) ∙ sym (ap (λ o. so_far M v tap a ++ result_in (given o)) (cond-false (ltb a.taken (left v a)) _ _ b))))
]

-- an offer and a cycle give no result
no_result : {B : Type 0} (b : Bool) (r s : Reply B) → result_in r ≡ [] → result_in s ≡ [] → result_in (cond b r s) ≡ []
no_result true r s h k = h
no_result false r s h k = k

step_offer : {S R B : Type 0} (M : ℕ → Step S R) (v p : ℕ) (tap : R → B) (a : Account R) (x : R) → IsLawful v p a → so_far M v tap (after v p a (Offer x)) ≡ so_far M v tap a
step_offer M v p tap a x h = cond_both (ltb (length a.offered - length a.entries) 16) (record a { offered = a.offered ++ x ∷ [] }) a (λ b. so_far M v tap b ≡ so_far M v tap a)
    (λ e. let i = left_inside v p a h in let t = h.taken in through_more M v a.taken tap a.offered (x ∷ []) (omega arith)) (λ e. refl)

step_cycle : {S R B : Type 0} (M : ℕ → Step S R) (v p : ℕ) (tap : R → B) (a : Account R) → so_far M v tap (after v p a Cycle) ≡ so_far M v tap a
step_cycle M v p tap a = cond_both (stalled v p a) a (record a { entries = entered v p a; time = a.time + 1 }) (λ b. so_far M v tap b ≡ so_far M v tap a) (λ e. refl) (λ e. refl)

step_reply : {S R B : Type 0} (M : ℕ → Step S R) (v p : ℕ) (tap : R → B) (a : Account R) (e : Event R) → IsLawful v p a → so_far M v tap (after v p a e) ≡ so_far M v tap a ++ result_in (reply M v p tap a e)
step_reply M v p tap a (Offer x) h = step_offer M v p tap a x h ∙ sym (ap (λ r. so_far M v tap a ++ r) (no_result (ltb (length a.offered - length a.entries) 16) Accepted InFull refl refl) ∙ append-nil (so_far M v tap a))
step_reply M v p tap a Take h = step_take M v p tap a h
step_reply M v p tap a Cycle h = step_cycle M v p tap a ∙ sym (ap (λ r. so_far M v tap a ++ r) (no_result (stalled v p a) Stalled Advanced refl refl) ∙ append-nil (so_far M v tap a))

-- ---- the whole history
results_are : {S R B : Type 0} (M : ℕ → Step S R) (v p : ℕ) (tap : R → B) (a : Account R) (es : List (Event R)) → 0 < v → IsLawful v p a → so_far M v tap a ++ results_in (replies_from M v p tap a es) ≡ so_far M v tap (account_from v p a es)
results_are M v p tap a [] hv h = append-nil (so_far M v tap a)
results_are M v p tap a (e ∷ es) hv h =
    sym (append_assoc (so_far M v tap a) (result_in (reply M v p tap a e)) (results_in (replies_from M v p tap (after v p a e) es)))
    ∙ (ap (λ x. x ++ results_in (replies_from M v p tap (after v p a e) es)) (sym (step_reply M v p tap a e h)) ∙ results_are M v p tap (after v p a e) es hv (lawful_after v p a e hv h))

pub results_prefix : {S R B : Type 0} (M : ℕ → Step S R) (v p : ℕ) (tap : R → B) (h : List (Event R)) → 0 < v → results_in (replies_from M v p tap start h) ≡ take (account v p h).taken (through M v tap (account v p h).offered)
unfolding account
results_prefix M v p tap h hv = results_are M v p tap start h hv (lawful_start v p)

-- where all are taken they are all
pub results_whole : {S R B : Type 0} (M : ℕ → Step S R) (v p : ℕ) (tap : R → B) (h : List (Event R)) → 0 < v → (account v p h).taken ≡ length (account v p h).offered
    → results_in (replies_from M v p tap start h) ≡ through M v tap (account v p h).offered
results_whole M v p tap h hv e =
    let n = length-through M v tap (account v p h).offered in
    results_prefix M v p tap h hv ∙ take_all (account v p h).taken (through M v tap (account v p h).offered) (omega arith)
