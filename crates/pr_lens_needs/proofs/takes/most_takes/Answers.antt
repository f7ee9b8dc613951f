use Rattle.std.proofs.Common.{◌∙◌}
use Rattle.pr_net.specs.Whole.{shape_of}
use Rattle.pr_cut_units.specs.Flats.{flat_plan}
use Rattle.pr_lens_needs.proofs.NeedLemmas.{takes_more}
use Rattle.pr_lens_needs.proofs.takes.most_takes.Goals as goal

pub loop-number-preserved : goal.loop-number-preserved
loop-number-preserved c =
    let g = c.args.group.now in
    c.in_ok-put_take.ensures
    ∙ takes_more (flat_plan g.flat.now g.widths.now) (shape_of g.net.now) g.units.now c.loop-number.number c.loop-number.takes.items c.take_of.result c.loop-number.invariant c.take_of.ensures
