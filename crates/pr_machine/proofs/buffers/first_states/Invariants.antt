use Rattle.std.proofs.Common.{◌≡◌, map, take}
use Rattle.std.specs.List.{flat_map}
use Rattle.pr_machine.proofs.buffers.first_states.Given as goal

abbrev pub invariant-loop-stage : goal.invariant-loop-stage
invariant-loop-stage g l = l.bytes.items ≡ flat_map (λ s. map (λ pe. pe.init) s.pes.items) (take l.stage-index l.stages)
