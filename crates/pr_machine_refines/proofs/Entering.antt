-- What enters in a cycle.
use Rattle.std.proofs.Common.{◌≡◌, ℕ, zero, suc, ◌+◌, ◌<◌, ◌≤◌, Bool, true, false, cond, ◌&&◌, ltb, eqb, List, [], ◌∷◌, ◌++◌, length, drop, refl, sym, ap, ap₂, ◌∙◌, subst, arith, inl, inr, Option, Some, None, slice_get, is_some, length-drop}
use Rattle.std.proofs.lemmas.Bool.{cases_lt, lt-ltb, le-ltb, eq-eqb, or_right}
use Rattle.std.proofs.lemmas.List.{drop_all, drop-drop, length_push}
use Rattle.std.proofs.Math.Nat.{sub-zero}
use Rattle.pr_control.specs.Time.{turn, IsActive}
use Rattle.pr_conf_pipeline.specs.Rows.{Step}
use Rattle.pr_machine_account.specs.Account.{Account, below, enters, entered, IsLawful}
use Rattle.pr_machine_account.specs.Flow.{read_at}
use Rattle.pr_machine_account.proofs.AccountLaws.{entered_below, enters_push}
use Rattle.pr_machine_account.proofs.FlowLaws.{read_first, read_none}
use Rattle.pr_machine_refines.specs.Cycle.{will_enter, bus_of, rest_of}

-- the cycle's own entry, where stage 0 does not compute, where it does and a sample waits, and where none waits
entered_idle : {R : Type 0} (v p : ℕ) (a : Account R) → turn v p a.time ≡ false → entered v p a ≡ a.entries
entered_idle v p a h = ap (λ b. cond (b && ltb (length a.entries) (length a.offered)) (a.entries ++ a.time ∷ []) a.entries) h

entered_some : {R : Type 0} (v p : ℕ) (a : Account R) → turn v p a.time ≡ true → length a.entries < length a.offered → entered v p a ≡ a.entries ++ a.time ∷ []
entered_some v p a h k = ap₂ (λ b c. cond (b && c) (a.entries ++ a.time ∷ []) a.entries) h (lt-ltb (length a.entries) (length a.offered) k)

entered_empty : {R : Type 0} (v p : ℕ) (a : Account R) → turn v p a.time ≡ true → length a.offered ≤ length a.entries → entered v p a ≡ a.entries
entered_empty v p a h k = ap₂ (λ b c. cond (b && c) (a.entries ++ a.time ∷ []) a.entries) h (le-ltb (length a.entries) (length a.offered) k)

pub get_drop : {R : Type 0} (n : ℕ) (xs : List R) → slice_get (drop n xs) 0 ≡ slice_get xs n
get_drop zero xs = refl
get_drop (suc n) [] = refl
get_drop (suc n) (x ∷ xs) = get_drop n xs

-- inside the list there is an element
pub some_at : {R : Type 0} (xs : List R) (i : ℕ) → i < length xs → (x : R) × (slice_get xs i ≡ Some x)
some_at [] i h = absurd (omega arith)
some_at (x ∷ xs) zero h = (x, refl)
some_at (x ∷ xs) (suc i) h = some_at xs i (omega arith)

-- what enters
pub record IsEntering {S R : Type 0} (M : ℕ → Step S R) (v p : ℕ) (a : Account R) (will : Bool) (bus : Option R) (rest : List R) : Type 0 where
  pub will_is : will ≡ enters a.time (entered v p a)
  pub bus_is : bus ≡ read_at M a.offered (entered v p a) 0 a.time
  pub rest_is : rest ≡ drop (length (entered v p a)) a.offered
  pub count : length (entered v p a) ≡ length a.entries + cond (is_some bus) 1 0
  pub some : is_some bus ≡ will

entering_none : {S R : Type 0} (M : ℕ → Step S R) (v p : ℕ) (a : Account R) → IsLawful v p a → entered v p a ≡ a.entries → IsEntering M v p a false None (drop (length a.entries) a.offered)
entering_none M v p a h e =
    let f : enters a.time (entered v p a) ≡ false = ap (enters a.time) e ∙ h.entries.past a.time (omega arith) in
    record {
      will_is = sym f;
      bus_is = sym (read_none M a.offered (entered v p a) 0 a.time f);
      rest_is = ap (λ es. drop (length es) a.offered) (sym e);
      count = ap length e ∙ (let z : length a.entries ≡ length a.entries + 0 = omega arith in z);
      some = refl;
    }

entering_some : {S R : Type 0} (M : ℕ → Step S R) (v p : ℕ) (a : Account R) → IsLawful v p a → turn v p a.time ≡ true → length a.entries < length a.offered → IsEntering M v p a true (slice_get (drop (length a.entries) a.offered) 0) (drop 1 (drop (length a.entries) a.offered))
entering_some M v p a h k l =
    let e = entered_some v p a k l in
    let n = length_push a.entries a.time in
    let f : enters a.time (entered v p a) ≡ true = ap (enters a.time) e ∙ (enters_push a.time a.time a.entries ∙ or_right (enters a.time a.entries) (eqb a.time a.time) (eq-eqb a.time a.time refl)) in
    let b : below a.time (entered v p a) ≡ length a.entries = entered_below v p a a.time (omega arith) ∙ h.entries.total in
    let g = get_drop (length a.entries) a.offered in
    let w = some_at a.offered (length a.entries) l in
    let s : slice_get (drop (length a.entries) a.offered) 0 ≡ Some w.0 = g ∙ w.1 in
    record {
      will_is = sym f;
      bus_is = g ∙ sym (read_first M a.offered (entered v p a) a.time ∙ (ap (λ c. cond c (slice_get a.offered (below a.time (entered v p a))) None) f ∙ ap (slice_get a.offered) b));
      rest_is = drop-drop 1 (length a.entries) a.offered ∙ ap (λ m. drop m a.offered) (sym (ap length e ∙ n));
      count = ap length e ∙ (n ∙ ap (λ o. length a.entries + cond (is_some o) 1 0) (sym s));
      some = ap is_some s;
    }

entering_empty : {S R : Type 0} (M : ℕ → Step S R) (v p : ℕ) (a : Account R) → IsLawful v p a → turn v p a.time ≡ true → length a.offered ≤ length a.entries → IsEntering M v p a false (slice_get (drop (length a.entries) a.offered) 0) (drop 1 (drop (length a.entries) a.offered))
entering_empty {R = R} M v p a h k l =
    let z : drop (length a.entries) a.offered ≡ [] = drop_all (length a.entries) a.offered l in
    let i = entering_none M v p a h (entered_empty v p a k l) in
    let none : Option R = None in
    let bus : none ≡ slice_get (drop (length a.entries) a.offered) 0 = ap (λ xs. slice_get xs 0) (sym z) in
    let rest : drop (length a.entries) a.offered ≡ drop 1 (drop (length a.entries) a.offered) = z ∙ ap (drop 1) (sym z) in
    subst (λ o. IsEntering M v p a false o (drop 1 (drop (length a.entries) a.offered))) bus (subst (IsEntering M v p a false None) rest i)

entering_at : {S R : Type 0} (M : ℕ → Step S R) (v p : ℕ) (a : Account R) (first : Option ℕ) → IsLawful v p a → IsActive v p a.time 0 first
    → IsEntering M v p a (will_enter (length (drop (length a.entries) a.offered)) first) (bus_of (drop (length a.entries) a.offered) first) (rest_of (drop (length a.entries) a.offered) first)
entering_at M v p a None h k = entering_none M v p a h (entered_idle v p a (ap (turn v p) (sym (sub-zero a.time)) ∙ k))
entering_at M v p a (Some at) h k =
    let on : turn v p a.time ≡ true = ap (turn v p) (sym (sub-zero a.time)) ∙ k.3 in
    let n = length-drop (length a.entries) a.offered in
    elim (cases_lt (length a.entries) (length a.offered)) [
      | inl l ↦ subst (λ b. IsEntering M v p a b (slice_get (drop (length a.entries) a.offered) 0) (drop 1 (drop (length a.entries) a.offered))) (sym (lt-ltb 0 (length (drop (length a.entries) a.offered)) (omega arith))) (entering_some M v p a h on l)
      | inr g ↦ subst (λ b. IsEntering M v p a b (slice_get (drop (length a.entries) a.offered) 0) (drop 1 (drop (length a.entries) a.offered))) (sym (le-ltb 0 (length (drop (length a.entries) a.offered)) (omega arith))) (entering_empty M v p a h on g)
    ]

pub entering : {S R : Type 0} (M : ℕ → Step S R) (v p : ℕ) (a : Account R) (waiting : List R) (first : Option ℕ) → waiting ≡ drop (length a.entries) a.offered → IsLawful v p a → IsActive v p a.time 0 first
    → IsEntering M v p a (will_enter (length waiting) first) (bus_of waiting first) (rest_of waiting first)
entering M v p a waiting first e h k =
    subst (λ w. IsEntering M v p a (will_enter (length w) first) (bus_of w first) (rest_of w first)) (sym e) (entering_at M v p a first h k)
