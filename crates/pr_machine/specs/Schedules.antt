-- What one cycle is to do.
use Rattle.std.specs.Prelude.{ℕ, ◌-◌, ◌<◌, ◌≤◌, List, length, IfSome}
use Rattle.pr_control.specs.Time.{IsActive, IsRing}
use Rattle.pr_machine.specs.declared.places.StripePlace.{StripePlace}
use Rattle.pr_machine.specs.declared.places.Schedule.{Schedule}
use Rattle.pr_machine.specs.Places.{spots_of, AreIdle}

-- the schedule of cycle t, for v stages on p stripes
pub record IsScheduled (v p t : ℕ) (schedule : Schedule) : Type 0 where
  pub ring : IsRing v p t schedule.ring
  pub first : IsActive v p t 0 schedule.first
  pub last : IsActive v p t (v - 1) schedule.last

-- a schedule for these 2 to 256 places: it names none that is not there, and from its place `live` on none has a stage
pub record IsFor {N P : ℕ} (places : List (StripePlace N P)) (schedule : Schedule) : Type 0 where
  pub two : 2 ≤ length places
  pub small : length places ≤ 256
  pub live : schedule.live ≤ length places
  pub idle : AreIdle schedule.live (spots_of places)
  pub ring : IfSome schedule.ring (λ q. q < length places)
  pub last : IfSome schedule.last (λ i. i < length places)
