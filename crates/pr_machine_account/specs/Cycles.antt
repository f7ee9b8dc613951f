-- The clause on cycles once more, in plain words about activity and entries.
use Rattle.std.specs.Prelude.{◌≡◌, ℕ, ◌+◌, ◌-◌, ◌<◌, [], ◌∷◌, ◌++◌, length, Contains}
use Rattle.pr_control.specs.Residents.{Active}
use Rattle.pr_machine_account.specs.Account.{Account, Cycle, left, entered, after}

-- the sample of some entry would leave in this cycle, and 16 results wait
pub record IsHeld {R : Type 0} (v p : ℕ) (a : Account R) : Type 0 where
  pub entry : ℕ
  pub entered_then : Contains (entered v p a) entry
  pub leaves_now : entry + v ≡ a.time + 1
  pub full : left v a - a.taken ≡ 16

-- what a cycle does to the account
pub record IsCycle {R : Type 0} (v p : ℕ) (a : Account R) : Type 0 where
  pub enters : Active v p a.time 0 → length a.entries < length a.offered → entered v p a ≡ a.entries ++ a.time ∷ []
  pub none_enters : (Active v p a.time 0 → length a.entries < length a.offered → ⊥) → entered v p a ≡ a.entries
  pub stalls : IsHeld v p a → after v p a Cycle ≡ a
  pub advances : (IsHeld v p a → ⊥) → after v p a Cycle ≡ record a { entries = entered v p a; time = a.time + 1 }
