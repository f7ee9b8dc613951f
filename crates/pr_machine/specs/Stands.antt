-- What a running machine stands for: a configuration, a number of stripes, and the history of its calls.
use Rattle.std.specs.Prelude.{◌≡◌, ◌<◌, ◌≤◌, ◌⊎◌, ℕ, Bool, List, length, Option, Some, None, true, false, if◌then◌else◌}
use Rattle.pr_control.specs.Time.{event}
use Rattle.pr_control.specs.Residents.{Resides}
use Rattle.pr_conf_pipeline.specs.Rows.{state_after}
use Rattle.pr_machine_account.specs.Account.{Event, Account, account, done, stalled}
use Rattle.pr_machine_account.specs.Replies.{Reply, Accepted, InFull, Given, OutEmpty, Advanced, Stalled, reply}
use Rattle.pr_conf.specs.declared.turns.Turn.{Turn}
use Rattle.pr_conf.specs.Shape.{Shape}
use Rattle.pr_conf.specs.Configuration.{shape_of}
use Rattle.pr_conf.specs.Rules.{bytes_in}
use Rattle.pr_conf.specs.Through.{steps_of, tapped, output_widths}
use Rattle.pr_machine_refines.specs.Stands.{IsStanding}
use Rattle.pr_machine_refines.specs.Cycle.{evicted_stage, entering_sample, leaving_result}
use Rattle.pr_machine.specs.declared.machine.Machine.{Machine}
use Rattle.pr_machine.specs.declared.machine.Running.{Running}
use Rattle.pr_machine.specs.declared.loaded.Loaded.{Loaded}
use Rattle.pr_machine.specs.declared.machine.Bare.{Bare}
use Rattle.pr_machine.specs.declared.machine.Idle.{Idle}
use Rattle.pr_machine.specs.Places.{spots_of, rows_of}

-- the calls of offer, take and cycle, in their order
abbrev pub History : Type 0
History = List (Event (List ℕ))

-- the account of a history, for a configuration on p stripes
abbrev pub account_of : Shape → ℕ → History → Account (List ℕ)
account_of c p h = account (length c.stages) p h

-- the stripes of a machine that is not loaded
abbrev pub bare_stripes : {N P : ℕ} → Machine N P Bare (Idle N P) → ℕ
bare_stripes m = length m.parts.places.items

abbrev pub stripes_of : {N P : ℕ} → Machine N P Running (Loaded N P) → ℕ
stripes_of m = length m.parts.places.items

abbrev pub conf_of : {N P : ℕ} → Machine N P Running (Loaded N P) → Shape
conf_of m = shape_of m.parts.conf

abbrev pub time_of : {N P : ℕ} → Machine N P Running (Loaded N P) → ℕ
time_of m = m.parts.plan.time

-- the bytes of a sample, and of a result
abbrev pub sample_bytes_of : {N P : ℕ} → Machine N P Running (Loaded N P) → ℕ
sample_bytes_of m = bytes_in (conf_of m).inputs

abbrev pub result_bytes_of : {N P : ℕ} → Machine N P Running (Loaded N P) → ℕ
result_bytes_of m = bytes_in (output_widths (conf_of m))

-- the samples that wait, and the results
abbrev pub waiting_samples : {N P : ℕ} → Machine N P Running (Loaded N P) → List (List ℕ)
waiting_samples m = m.parts.buffers.input.waiting

abbrev pub waiting_results : {N P : ℕ} → Machine N P Running (Loaded N P) → List (List ℕ)
waiting_results m = m.parts.buffers.output.waiting

-- the machine has this configuration and this many stripes, and its parts are those of the account of the history
pub record PartsStand {N P : ℕ} (m : Loaded N P) (c : Shape) (p : ℕ) (h : History) : Type 0 where
  pub conf : shape_of m.conf ≡ c
  pub stripes : length m.places.items ≡ p
  pub parts : IsStanding (steps_of N P c) (tapped N c) (length c.stages) p (spots_of m.places.items) (rows_of m.buffers.store) m.plan.time m.entered m.left m.buffers.input.waiting m.buffers.output.waiting (account_of c p h)

abbrev pub Stands : {N P : ℕ} → Machine N P Running (Loaded N P) → Shape → ℕ → History → Type 0
Stands m c p h = PartsStand m.parts c p h

-- the account's reply to an event after a history
abbrev pub reply_of : ℕ → ℕ → Shape → ℕ → History → Event (List ℕ) → Reply (List ℕ)
reply_of N P c p h event = reply (steps_of N P c) (length c.stages) p (tapped N c) (account_of c p h) event

-- what offer, take and cycle answer, as replies
abbrev pub offer_reply : Bool → Reply (List ℕ)
offer_reply accepted = if accepted then Accepted else InFull

abbrev pub take_reply : Bool → List ℕ → Reply (List ℕ)
take_reply gives result = if gives then Given result else OutEmpty

abbrev pub cycle_reply : Bool → Reply (List ℕ)
cycle_reply advanced = if advanced then Advanced else Stalled

-- all but the queues is as it was
pub record IsKept {N P : ℕ} (old new : Machine N P Running (Loaded N P)) : Type 0 where
  pub conf : new.parts.conf ≡ old.parts.conf
  pub places : new.parts.places ≡ old.parts.places
  pub store : new.parts.buffers.store ≡ old.parts.buffers.store
  pub plan : new.parts.plan ≡ old.parts.plan
  pub entered : new.parts.entered ≡ old.parts.entered
  pub left : new.parts.left ≡ old.parts.left

-- what a stalled cycle tells
abbrev pub held_turn : Turn
held_turn = record { advanced = false; configured = None; saved = None; entered = None; left = None }

-- what a cycle of v stages on p stripes tells that is not stalled
abbrev pub next_turn : ℕ → ℕ → Account (List ℕ) → Turn
next_turn v p a = record { advanced = true; configured = event v p a.time; saved = evicted_stage v p a.time; entered = entering_sample v p a; left = leaving_result v p a }

-- what a cycle of v stages on p stripes tells
abbrev pub turn_of : ℕ → ℕ → Account (List ℕ) → Turn
turn_of v p a = if stalled v p a then held_turn else next_turn v p a

-- the state row of a stage that is in the store; none where a stripe has the stage, or there is no such stage
abbrev pub IsStored : ℕ → ℕ → Shape → ℕ → Account (List ℕ) → ℕ → Option (List ℕ) → Type 0
IsStored N P c p a s None = (length c.stages ≤ s) ⊎ ((i : ℕ) × Resides (length c.stages) p a.time s i)
IsStored N P c p a s (Some row) =
    (s < length c.stages)
    × ((i : ℕ) → Resides (length c.stages) p a.time s i → ⊥)
    × (row ≡ state_after (steps_of N P c) s (done s a.time a.entries) a.offered)
