-- One cycle, by its parts.
use Rattle.std.specs.Prelude.{◌≡◌, ℕ, ◌+◌, ◌-◌, ◌<◌, ◌%◌, ◌&&◌, Bool, false, nat_lt, nat_le, List, [], ◌∷◌, ◌++◌, length, drop, slice_get, Option, Some, None, is_some, if◌then◌else◌}
use Rattle.std.specs.Option.{option_map}
use Rattle.pr_control.specs.Time.{before, turned}
use Rattle.pr_conf_pipeline.specs.Rows.{Step}
use Rattle.pr_machine_account.specs.Account.{Account, left, enters, entered}
use Rattle.pr_machine_refines.specs.Spots.{Spot, Held, shows, stage_in, stepped, saved}

-- whether a sample would enter, where `first` is the stripe in which stage 0 computes
abbrev pub will_enter : ℕ → Option ℕ → Bool
will_enter waiting None = false
will_enter waiting (Some at) = nat_lt 0 waiting

-- whether the last stage would compute a valid row, where `last` is the stripe in which it computes
abbrev pub will_leave : {S R : Type 0} → ℕ → (ℕ → Spot S R) → Bool → Bool → Option ℕ → Bool
will_leave p spots single entering None = false
will_leave p spots single entering (Some at) = if single then entering else is_some (shows (spots (before p at)))

-- what enters, and what then waits
abbrev pub bus_of : {R : Type 0} → List R → Option ℕ → Option R
bus_of waiting None = None
bus_of waiting (Some at) = slice_get waiting 0

abbrev pub rest_of : {R : Type 0} → List R → Option ℕ → List R
rest_of waiting None = waiting
rest_of waiting (Some at) = drop 1 waiting

-- the row that leaves
abbrev pub leaves : {S R : Type 0} → (ℕ → Spot S R) → Option ℕ → Option R
leaves spots None = None
leaves spots (Some at) = shows (spots at)

-- the results that wait after one more or none
abbrev pub pushed : {B : Type 0} → List B → Option B → List B
pushed ready None = ready
pushed ready (Some x) = ready ++ x ∷ []

-- the queue takes it
abbrev pub HasRoom : {B : Type 0} → List B → Option B → Type 0
HasRoom ready None = Unit {0}
HasRoom ready (Some x) = length ready < 16

-- each stripe but q has computed, from what the one before it showed at the start
pub record IsRingStep {S R : Type 0} (M : ℕ → Step S R) (bus : Option R) (p q : ℕ) (old mid : ℕ → Spot S R) : Type 0 where
  pub step : (i : ℕ) → i < p → (i ≡ q → ⊥) → mid i ≡ stepped M bus (old i) (shows (old (before p i)))
  pub kept : mid q ≡ old q

-- each stripe has computed, and the first one last
pub record IsLineStep {S R : Type 0} (M : ℕ → Step S R) (bus : Option R) (p : ℕ) (old mid : ℕ → Spot S R) : Type 0 where
  pub step : (i : ℕ) → i < p → (i ≡ 0 → ⊥) → mid i ≡ stepped M bus (old i) (shows (old (before p i)))
  pub first : mid 0 ≡ stepped M bus (old 0) (shows (mid (p - 1)))

-- the same by the stripe of an event that comes in every cycle, if there is one
abbrev pub AreStepped : {S R : Type 0} → (ℕ → Step S R) → Option R → ℕ → Option ℕ → (ℕ → Spot S R) → (ℕ → Spot S R) → Type 0
AreStepped M bus p None old mid = IsLineStep M bus p old mid
AreStepped M bus p (Some q) old mid = IsRingStep M bus p q old mid

-- what an event makes of the stripes and the store: the stripe q that it meets is saved, and then armed with stage m
pub record IsTurnover {S R : Type 0} (v m q : ℕ) (mid new : ℕ → Spot S R) (store store' : ℕ → S) : Type 0 where
  pub others : (j : ℕ) → (j ≡ q → ⊥) → new j ≡ mid j
  pub save : (s : ℕ) → s < v → store' s ≡ saved store (mid q) s
  pub armed : new q ≡ Held m (store' m) None

-- nothing changes without an event
pub record IsQuiet {S R : Type 0} (v : ℕ) (mid new : ℕ → Spot S R) (store store' : ℕ → S) : Type 0 where
  pub spots : (j : ℕ) → new j ≡ mid j
  pub rows : (s : ℕ) → s < v → store' s ≡ store s

-- the event as (stage, stripe)
abbrev pub IsTurned : {S R : Type 0} → ℕ → Option (ℕ × ℕ) → (ℕ → Spot S R) → (ℕ → Spot S R) → (ℕ → S) → (ℕ → S) → Type 0
IsTurned v None mid new store store' = IsQuiet v mid new store store'
IsTurned v (Some e) mid new store store' = IsTurnover v e.0 e.1 mid new store store'

-- the stage that an event, given as (stage, stripe), puts out of its stripe
abbrev pub saved_by : {S R : Type 0} → (ℕ → Spot S R) → Option (ℕ × ℕ) → Option ℕ
saved_by spots None = None
saved_by spots (Some e) = stage_in (spots e.1)

-- a whole cycle of the stripes and the store, with the event as (stripe, stage): all compute, what leaves is read, and
-- the event follows
pub record IsPass {S R B : Type 0} (M : ℕ → Step S R) (tap : R → B) (v p : ℕ) (ring last : Option ℕ) (brings : Option (ℕ × ℕ)) (bus : Option R) (old new : ℕ → Spot S R) (store store' : ℕ → S) (byte : Option B) (out : Option ℕ) : Type 0 where
  pub mid : ℕ → Spot S R
  pub computed : AreStepped M bus p ring old mid
  pub result : byte ≡ option_map tap (leaves mid last)
  pub saved : out ≡ saved_by mid (turned brings)
  pub event : IsTurned v (turned brings) mid new store store'

-- the stage that is saved in cycle t
abbrev pub evicted_stage : ℕ → ℕ → ℕ → Option ℕ
evicted_stage v p t = if nat_lt p v && nat_le p t then Some ((t - p) % v) else None

-- the number of the sample that enters in the next cycle, where it is not stalled
abbrev pub entering_sample : {R : Type 0} → ℕ → ℕ → Account R → Option ℕ
entering_sample v p a = if enters a.time (entered v p a) then Some (length a.entries) else None

-- the number of the result that leaves in the next cycle, where it is not stalled
abbrev pub leaving_result : {R : Type 0} → ℕ → ℕ → Account R → Option ℕ
leaving_result v p a = if enters (a.time + 1 - v) (entered v p a) then Some (left v a) else None
