-- What a machine of v stages on p stripes stands for. M gives each stage number its step, tap reads a result from a row.
-- The stripes and the store are functions of their numbers.
use Rattle.std.specs.Prelude.{◌≡◌, ℕ, suc, ◌+◌, ◌<◌, List, length, take, drop, slice_get, Some, None}
use Rattle.pr_control.specs.Residents.{Resides}
use Rattle.pr_conf_pipeline.specs.Rows.{Step, rows, state_after, through}
use Rattle.pr_machine_account.specs.Account.{Account, left, done}
use Rattle.pr_machine_refines.specs.Spots.{Spot, Bare, Held, shows}

-- the parts of a machine stand for an account
pub record IsStanding {S R B : Type 0} (M : ℕ → Step S R) (tap : R → B) (v p : ℕ) (spots : ℕ → Spot S R) (store : ℕ → S) (now came went : ℕ) (waiting : List R) (ready : List B) (a : Account R) : Type 0 where
  -- time, entered samples and left results are the account's
  pub time : now ≡ a.time
  pub entered : came ≡ length a.entries
  pub gone : went ≡ left v a
  -- the offered samples that have not entered wait, and so do the results that left and were not taken
  pub input : waiting ≡ drop (length a.entries) a.offered
  pub output : ready ≡ drop a.taken (take (left v a) (through M v tap a.offered))
  -- a resident stage is in its stripe, in its state after the samples that it has done, and the store has the states of the others
  pub resident : (s i : ℕ) → Resides v p a.time s i → spots i ≡ Held s (state_after M s (done s a.time a.entries) a.offered) (shows (spots i))
  pub away : (s : ℕ) → s < v → ((i : ℕ) → Resides v p a.time s i → ⊥) → store s ≡ state_after M s (done s a.time a.entries) a.offered
  -- the stripe of a resident stage s shows a row exactly where some sample entered s + 1 cycles before, and it is the stage's row of that sample
  pub row : (s i j e : ℕ) → Resides v p a.time s i → slice_get a.entries j ≡ Some e → e + s + 1 ≡ a.time → shows (spots i) ≡ slice_get (rows M (suc s) a.offered) j
  pub bubble : (s i : ℕ) → Resides v p a.time s i → ((j e : ℕ) → slice_get a.entries j ≡ Some e → e + s + 1 ≡ a.time → ⊥) → shows (spots i) ≡ None
  -- a stripe without a stage is blank and shows a bubble
  pub blank : (i : ℕ) → i < p → ((s : ℕ) → Resides v p a.time s i → ⊥) → spots i ≡ Bare None

-- what stripe i shows is its stage's row of some sample, which entered as many cycles before as the stage's number and one
pub record IsRowOf {S R : Type 0} (M : ℕ → Step S R) (v p : ℕ) (a : Account R) (i : ℕ) (x : R) : Type 0 where
  pub stage : ℕ
  pub sample : ℕ
  pub entry : ℕ
  pub resides : Resides v p a.time stage i
  pub entered : slice_get a.entries sample ≡ Some entry
  pub when : entry + stage + 1 ≡ a.time
  pub row : slice_get (rows M (suc stage) a.offered) sample ≡ Some x
