use Rattle.std.proofs.Common.{◌∙◌, sym, arith}
use Rattle.pr_flat.specs.Flats.{equations_of}
use Rattle.pr_lens_waste.specs.Lines.{lines_in}
use Rattle.pr_lens_waste.proofs.LineLemmas.{lines_none}
use Rattle.pr_lens_waste.proofs.lines.lines_over.Goals as goal

pub returns : goal.returns
returns c =
    sym (lines_none (equations_of c.args.flat.now) c.args.needed.now c.loop-at.at c.args.instances.now c.args.operands.now (lines_in c.loop-at.lines) (omega (arith, c.loop-at-test.false, c.min-at-end.ensures)))
    ∙ c.loop-at.invariant
