-- The same by stripes, as a cycle goes over them, and said of what stage 0 did as many cycles before as the stage's number.
use Rattle.std.proofs.Common.{◌≡◌, ℕ, suc, ◌-◌, ◌<◌, List, length, take, drop, Option, Some, None}
use Rattle.pr_control.specs.Time.{occupant}
use Rattle.pr_conf_pipeline.specs.Rows.{Step, through}
use Rattle.pr_machine_account.specs.Account.{Account, left}
use Rattle.pr_machine_account.specs.Flow.{state_at, read_at}
use Rattle.pr_machine_refines.specs.Spots.{Spot, Bare, Held}

-- the stripe of a resident stage at t: it holds the stage's state after the samples that the stage has done, and shows
-- what the next stage reads. A stripe without a stage shows a bubble
abbrev pub spot_for : {S R : Type 0} → (ℕ → Step S R) → List R → List ℕ → ℕ → Option ℕ → Spot S R
spot_for M xs es t None = Bare None
spot_for M xs es t (Some s) = Held s (state_at M xs es s (t - s)) (read_at M xs es (suc s) (t - suc s))

-- the stripes and the store at t
pub record Fits {S R : Type 0} (M : ℕ → Step S R) (v p t : ℕ) (xs : List R) (es : List ℕ) (spots : ℕ → Spot S R) (store : ℕ → S) : Type 0 where
  pub each : (i : ℕ) → i < p → spots i ≡ spot_for M xs es t (occupant v p i t)
  pub rows : (s : ℕ) → s < v → ((i : ℕ) → i < p → occupant v p i t ≡ Some s → ⊥) → store s ≡ state_at M xs es s (t - s)

-- the parts of a machine stand for an account
pub record StandsAt {S R B : Type 0} (M : ℕ → Step S R) (tap : R → B) (v p : ℕ) (spots : ℕ → Spot S R) (store : ℕ → S) (t entered gone : ℕ) (waiting : List R) (ready : List B) (a : Account R) : Type 0 where
  pub time : t ≡ a.time
  pub come : entered ≡ length a.entries
  pub went : gone ≡ left v a
  pub input : waiting ≡ drop (length a.entries) a.offered
  pub output : ready ≡ drop a.taken (take (left v a) (through M v tap a.offered))
  pub fits : Fits M v p a.time a.offered a.entries spots store
