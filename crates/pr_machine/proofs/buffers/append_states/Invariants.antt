use Rattle.std.proofs.Common.{◌≡◌, ◌++◌, map, take}
use Rattle.pr_machine.proofs.buffers.append_states.Given as goal

abbrev pub invariant-loop-pe : goal.invariant-loop-pe
invariant-loop-pe g l = l.bytes.items ≡ l.fn.bytes.items ++ map (λ pe. pe.init) (take l.pe-index l.stage.pes.items)
