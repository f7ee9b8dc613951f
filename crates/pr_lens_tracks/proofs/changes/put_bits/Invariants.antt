use Rattle.std.proofs.Common.{◌≡◌, ◌++◌}
use Rattle.pr_lens_tracks.specs.Waves.{bits_text}
use Rattle.pr_lens_tracks.proofs.changes.put_bits.Given as goal

abbrev pub invariant-loop-left : goal.invariant-loop-left
invariant-loop-left l = l.text.items ++ bits_text l.left l.number ≡ l.fn.text.items ++ bits_text l.width l.number

abbrev pub decreases-loop-left : goal.decreases-loop-left
decreases-loop-left l = l.left
