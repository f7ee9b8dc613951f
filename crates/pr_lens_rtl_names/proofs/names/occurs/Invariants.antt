use Rattle.std.proofs.Common.{◌≡◌, drop}
use Rattle.pr_lens_rtl_names.specs.Names.{occurs}
use Rattle.pr_lens_rtl_names.proofs.names.occurs.Given as goal

abbrev pub invariant-loop-at : goal.invariant-loop-at
invariant-loop-at l = occurs (drop l.at l.text) l.piece ≡ occurs l.text l.piece
