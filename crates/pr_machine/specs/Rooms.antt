-- How much the lists of a machine have room for. A call that leaves the rooms as they were has let none of these lists
-- grow. The queues and the stripes are no part of this, since by its type each of them has one room for good. Nor is the
-- store, which clauses see as the list of its rows.
use Rattle.std.specs.Prelude.{ℕ, List, Option, vec_capacity}
use Rattle.pr_stripe_prepared.specs.declared.stages.Prepared.{Prepared}
use Rattle.pr_machine.specs.declared.buffers.Buffers.{Buffers}
use Rattle.pr_machine.specs.declared.loaded.Loaded.{Loaded}
use Rattle.pr_machine.specs.declared.machine.Machine.{Machine}
use Rattle.pr_machine.specs.declared.machine.Running.{Running}
use Rattle.pr_machine.specs.declared.machine.Bare.{Bare}
use Rattle.pr_machine.specs.declared.machine.Idle.{Idle}
use Rattle.pr_machine.specs.declared.parking.Parked.{Parked}

-- the rooms of the list of places, of the buffers for a sample and for a result, and of the list of prepared stages; and
-- these stages, in which there are lists too
pub record Rooms : Type 0 where
  pub places : ℕ
  pub sample : ℕ
  pub result : ℕ
  pub prepared : ℕ
  pub stages : List (Option Prepared)

abbrev pub rooms_with : {N : ℕ} → ℕ → Buffers N → Rooms
rooms_with places b = record { places = places; sample = vec_capacity b.sample; result = vec_capacity b.result; prepared = vec_capacity b.prepared; stages = b.prepared.items }

-- the rooms of a running machine's parts
abbrev pub rooms_in : {N P : ℕ} → Loaded N P → Rooms
rooms_in l = rooms_with (vec_capacity l.places) l.buffers

-- the rooms of a running machine
abbrev pub rooms_of : {N P : ℕ} → Machine N P Running (Loaded N P) → Rooms
rooms_of m = rooms_in m.parts

-- the rooms of a bare machine and of a configuration that is parked beside it
abbrev pub rooms_apart : {N P : ℕ} → Machine N P Bare (Idle N P) → Parked N P → Rooms
rooms_apart m parked = rooms_with (vec_capacity m.parts.places) parked.buffers
