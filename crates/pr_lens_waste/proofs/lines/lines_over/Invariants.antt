use Rattle.std.proofs.Common.{◌≡◌}
use Rattle.pr_flat.specs.Flats.{equations_of}
use Rattle.pr_lens_waste.specs.Lines.{lines_in, lines_over, no_lines}
use Rattle.pr_lens_waste.proofs.LineLemmas.{lines_from}
use Rattle.pr_lens_waste.proofs.lines.lines_over.Given as goal

abbrev pub invariant-loop-at : goal.invariant-loop-at
invariant-loop-at l = lines_from (equations_of l.flat) l.needed l.at l.instances l.operands (lines_in l.lines) ≡ lines_over (equations_of l.flat) l.needed l.instances l.operands no_lines
