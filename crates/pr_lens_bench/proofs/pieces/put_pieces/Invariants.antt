use Rattle.std.proofs.Common.{◌≡◌, ◌++◌, take}
use Rattle.pr_lens_bench.specs.Pieces.{pieces_text}
use Rattle.pr_lens_bench.proofs.pieces.put_pieces.Given as goal

abbrev pub invariant-loop-port : goal.invariant-loop-port
invariant-loop-port l = l.text.items ≡ l.fn.text.items ++ pieces_text l.piece l.count (take l.port-index l.ports)
