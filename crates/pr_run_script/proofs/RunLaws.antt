-- What holds of a run before and after each of its turns.
use Rattle.std.proofs.Common.{◌≡◌, ℕ, zero, suc, ◌+◌, ◌-◌, ◌<◌, ◌≤◌, Bool, true, false, cond, ◌&&◌, not, ltb, List, [], ◌∷◌, ◌++◌, length, replicate, refl, sym, ap, ap₂, ◌∙◌, subst, arith, inl, inr, append_assoc, add-one}
use Rattle.std.proofs.lemmas.Bool.{cond-true, cond_both, cond-false, cases_Bool, false≢true}
use Rattle.std.proofs.lemmas.List.Sums.{sum_by-append}
use Rattle.pr_machine_account.specs.Account.{Account, Event, Offer, Take, Cycle, left, stalled, entered, account, start}
use Rattle.pr_machine_account.proofs.AccountLaws.{lawful, account_push, account-append}
use Rattle.pr_machine_account.proofs.DrainLaws.{takes}
use Rattle.pr_run_script.specs.Script.{Held, Run, begun, waiting, reads, read_next, fed, emptied, is_finished, closed, turned, turns, held_at}
use Rattle.pr_run_script.specs.Counts.{is_cycle, cycles_in}

-- ---- tests
pub both_true : (a b : Bool) → (a && b) ≡ true → (a ≡ true) × (b ≡ true)
both_true true true e = (refl, refl)
both_true true false e = absurd (false≢true e)
both_true false b e = absurd (false≢true e)

pub not_both : (b : Bool) → b ≡ true → b ≡ false → ⊥
not_both b e f = false≢true (sym f ∙ e)

-- ---- how many cycles
pub cycles-append : {R : Type 0} (g h : List (Event R)) → cycles_in (g ++ h) ≡ cycles_in g + cycles_in h
unfolding cycles_in
cycles-append g h = sum_by-append (λ e. cond {A = ℕ} (is_cycle e) 1 0) g h

pub cycles_nil : (R : Type 0) → cycles_in {R = R} [] ≡ 0
unfolding cycles_in
cycles_nil R = refl

pub cycles_one : (R : Type 0) → cycles_in {R = R} (Cycle ∷ []) ≡ 1
unfolding cycles_in
cycles_one R = refl

pub cycles_offer : {R : Type 0} (x : R) → cycles_in (Offer x ∷ []) ≡ 0
unfolding cycles_in
cycles_offer x = refl

cycles_take : (R : Type 0) → cycles_in {R = R} (Take ∷ []) ≡ 0
unfolding cycles_in
cycles_take R = refl

pub cycles_takes : (R : Type 0) (n : ℕ) → cycles_in {R = R} (replicate n Take) ≡ 0
cycles_takes R zero = cycles_nil R
cycles_takes R (suc n) = cycles-append {R = R} (Take ∷ []) (replicate n Take) ∙ ap₂ (λ x y. x + y) (cycles_take R) (cycles_takes R n)

pub cycles_and_offer : {R : Type 0} (h : List (Event R)) (x : R) → cycles_in (h ++ Offer x ∷ []) ≡ cycles_in h
cycles_and_offer h x = let a = cycles-append h (Offer x ∷ []) in let b = cycles_offer x in omega arith

pub cycles_and_takes : {R : Type 0} (h : List (Event R)) (n : ℕ) → cycles_in (h ++ replicate n Take) ≡ cycles_in h
cycles_and_takes {R} h n = let a = cycles-append h (replicate n Take) in let b = cycles_takes R n in omega arith

pub cycles_and_cycle : {R : Type 0} (h : List (Event R)) → cycles_in (h ++ Cycle ∷ []) ≡ cycles_in h + 1
cycles_and_cycle {R} h = let a = cycles-append h (Cycle ∷ []) in let b = cycles_one R in omega arith

-- ---- accounts after the steps
pub account_nil : {R : Type 0} (v p : ℕ) → account {R = R} v p [] ≡ start
unfolding account
account_nil v p = refl

pub offered_account : {R : Type 0} (v p : ℕ) (h : List (Event R)) (x : R) → ltb (length (account v p h).offered - length (account v p h).entries) 16 ≡ true
    → account v p (h ++ Offer x ∷ []) ≡ record (account v p h) { offered = (account v p h).offered ++ x ∷ [] }
offered_account v p h x room = account_push v p h (Offer x) ∙ cond-true (ltb (length (account v p h).offered - length (account v p h).entries) 16) _ _ room

pub taken_account : {R : Type 0} (v p : ℕ) (h : List (Event R)) → 0 < v
    → account v p (h ++ replicate (waiting v (account v p h)) Take) ≡ record (account v p h) { taken = left v (account v p h) }
taken_account v p h hv =
    let l = lawful v p h hv in
    let t = l.taken in
    account-append v p h (replicate (waiting v (account v p h)) Take) ∙ takes v p (waiting v (account v p h)) (account v p h) (omega arith)

pub offered_cycle : {R : Type 0} (v p : ℕ) (h : List (Event R)) → (account v p (h ++ Cycle ∷ [])).offered ≡ (account v p h).offered
offered_cycle v p h =
    let a = account v p h in
    ap (λ b. b.offered) (account_push v p h Cycle)
    ∙ cond_both (stalled v p a) a (record a { entries = entered v p a; time = a.time + 1 }) (λ b. b.offered ≡ a.offered) (λ e. refl) (λ e. refl)

-- ---- between two steps of turn k
pub record IsMid {R : Type 0} (v p k : ℕ) (xs : List R) (r : Run R) : Type 0 where
  pub total : (account v p r.history).offered ++ r.rest ≡ xs
  pub none : r.ended ≡ true → r.rest ≡ []
  pub count : cycles_in r.history ≡ k
  pub going : r.over ≡ false

-- after k turns
pub record IsRun {R : Type 0} (v p k : ℕ) (xs : List R) (r : Run R) : Type 0 where
  pub total : (account v p r.history).offered ++ r.rest ≡ xs
  pub none : r.ended ≡ true → r.rest ≡ []
  pub few : cycles_in r.history + cond {A = ℕ} r.over 1 0 ≤ k
  pub exact : r.over ≡ false → cycles_in r.history ≡ k
  pub finished : r.over ≡ true → is_finished v p r ≡ true

next_mid : {R : Type 0} (v p k : ℕ) (xs : List R) (r : Run R) (rest : List R) → r.rest ≡ rest → IsMid v p k xs r
    → ltb (length (account v p r.history).offered - length (account v p r.history).entries) 16 ≡ true → IsMid v p k xs (read_next r rest)
next_mid v p k xs r [] e h room = record { total = h.total; none = λ z. e; count = h.count; going = h.going }
next_mid {R} v p k xs r (x ∷ rest) e h room = record {
  total = ap (λ (b : Account R). b.offered ++ rest) (offered_account v p r.history x room)
      ∙ (append_assoc (account v p r.history).offered (x ∷ []) rest ∙ (ap (λ ys. (account v p r.history).offered ++ ys) (sym e) ∙ h.total));
  none = λ z. absurd (let n = h.none z in let w : x ∷ rest ≡ [] = sym e ∙ n in cc);
  count = cycles_and_offer r.history x ∙ h.count;
  going = h.going;
}

pub fed_mid : {R : Type 0} (v p k : ℕ) (xs : List R) (held : Held) (r : Run R) → IsMid v p k xs r → IsMid v p k xs (fed v p held r)
fed_mid v p k xs held r h = cond_both (reads v p held r) (read_next r r.rest) r (IsMid v p k xs)
    (λ e. next_mid v p k xs r r.rest refl h (both_true (not held.input && not r.ended) _ e).1) (λ e. h)

pub emptied_mid : {R : Type 0} (v p k : ℕ) (xs : List R) (held : Held) (r : Run R) → 0 < v → IsMid v p k xs r → IsMid v p k xs (emptied v p held r)
emptied_mid {R} v p k xs held r hv h = cond_both held.output r (record r { history = r.history ++ replicate (waiting v (account v p r.history)) Take }) (IsMid v p k xs)
    (λ e. h)
    (λ e. record {
      total = ap (λ (b : Account R). b.offered ++ r.rest) (taken_account v p r.history hv) ∙ h.total;
      none = h.none;
      count = cycles_and_takes r.history (waiting v (account v p r.history)) ∙ h.count;
      going = h.going;
    })

pub closed_run : {R : Type 0} (v p k : ℕ) (xs : List R) (r : Run R) → IsMid v p k xs r → IsRun v p (k + 1) xs (closed v p r)
closed_run {R} v p k xs r h = cond_both (is_finished v p r) (record r { over = true }) (record r { history = r.history ++ Cycle ∷ [] }) (IsRun v p (k + 1) xs)
    (λ e. record {
      total = h.total;
      none = h.none;
      few = (let c = h.count in omega arith);
      exact = λ z. absurd (false≢true (sym z));
      finished = λ z. e;
    })
    (λ e. record {
      total = ap (λ ys. ys ++ r.rest) (offered_cycle v p r.history) ∙ h.total;
      none = h.none;
      few = (let c = h.count in let n = cycles_and_cycle r.history in let o = ap (λ b. cond {A = ℕ} b 1 0) h.going in omega arith);
      exact = λ z. (let c = h.count in let n = cycles_and_cycle r.history in omega arith);
      finished = λ z. absurd (not_both r.over z h.going);
    })

pub run_mid : {R : Type 0} (v p k : ℕ) (xs : List R) (r : Run R) → IsRun v p k xs r → r.over ≡ false → IsMid v p k xs r
run_mid v p k xs r h going = record { total = h.total; none = h.none; count = h.exact going; going = going }

pub turned_run : {R : Type 0} (v p k : ℕ) (xs : List R) (held : Held) (r : Run R) → 0 < v → IsRun v p k xs r → IsRun v p (k + 1) xs (turned v p held r)
turned_run v p k xs held r hv h = cond_both r.over r (closed v p (emptied v p held (fed v p held r))) (IsRun v p (k + 1) xs)
    (λ e. record { total = h.total; none = h.none; few = (let f = h.few in omega arith); exact = λ z. absurd (not_both r.over e z); finished = h.finished })
    (λ e. closed_run v p k xs (emptied v p held (fed v p held r)) (emptied_mid v p k xs held (fed v p held r) hv (fed_mid v p k xs held r (run_mid v p k xs r h e))))

pub turns_suc : {R : Type 0} (v p : ℕ) (stall : List Held) (k : ℕ) (r : Run R) → turns v p stall (k + 1) r ≡ turned v p (held_at stall k) (turns v p stall k r)
unfolding turns
turns_suc v p stall k r = rw add-one refl

pub turns_none : {R : Type 0} (v p : ℕ) (stall : List Held) (r : Run R) → turns v p stall 0 r ≡ r
unfolding turns
turns_none v p stall r = refl

pub turns_run : {R : Type 0} (v p : ℕ) (stall : List Held) (k : ℕ) (xs : List R) → 0 < v → IsRun v p k xs (turns v p stall k (begun xs))
turns_run {R} v p stall zero xs hv = subst (IsRun v p 0 xs) (sym (turns_none v p stall (begun xs))) (record {
  total = ap (λ (b : Account R). b.offered ++ xs) (account_nil v p);
  none = λ e. absurd (false≢true e);
  few = (let c = cycles_nil R in omega arith);
  exact = λ z. cycles_nil R;
  finished = λ z. absurd (false≢true z);
})
turns_run v p stall (suc k) xs hv =
    let one : k + 1 ≡ suc k = omega arith in
    subst (λ n. IsRun v p n xs (turns v p stall n (begun xs))) one
    (subst (IsRun v p (k + 1) xs) (sym (turns_suc v p stall k (begun xs))) (turned_run v p k xs (held_at stall k) (turns v p stall k (begun xs)) hv (turns_run v p stall k xs hv)))

-- ---- a run that is over stays as it is
pub turned_over : {R : Type 0} (v p : ℕ) (held : Held) (r : Run R) → r.over ≡ true → turned v p held r ≡ r
turned_over v p held r e = cond-true r.over _ _ e

pub turned_going : {R : Type 0} (v p : ℕ) (held : Held) (r : Run R) → r.over ≡ false → turned v p held r ≡ closed v p (emptied v p held (fed v p held r))
turned_going v p held r e = cond-false r.over _ _ e

pub turns_stay : {R : Type 0} (v p : ℕ) (stall : List Held) (k j : ℕ) (r : Run R) → (turns v p stall k r).over ≡ true → turns v p stall (k + j) r ≡ turns v p stall k r
turns_stay v p stall k zero r e = let z : k + 0 ≡ k = omega arith in ap (λ n. turns v p stall n r) z
turns_stay v p stall k (suc j) r e =
    let z : k + suc j ≡ (k + j) + 1 = omega arith in
    let ih = turns_stay v p stall k j r e in
    ap (λ n. turns v p stall n r) z ∙ (turns_suc v p stall (k + j) r ∙ (ap (turned v p (held_at stall (k + j))) ih ∙ turned_over v p (held_at stall (k + j)) (turns v p stall k r) e))

-- so it was not over before a turn after which it is not
pub going_before : {R : Type 0} (v p : ℕ) (stall : List Held) (k : ℕ) (r : Run R) → (turns v p stall (k + 1) r).over ≡ false → (turns v p stall k r).over ≡ false
going_before v p stall k r e = elim (cases_Bool (turns v p stall k r).over) [
  | inl over ↦ absurd (not_both (turns v p stall k r).over over (sym (ap (λ s. s.over) (turns_stay v p stall k 1 r over)) ∙ e))
  | inr going ↦ going
]
