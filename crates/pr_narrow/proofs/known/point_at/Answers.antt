use Rattle.std.proofs.Common.{arith, length, sym, ◌∙◌}
use Rattle.std.proofs.lemmas.Option.{slice_get_read}
use Rattle.pr_narrow.proofs.BodyLemmas.{point_lawful, one_within}
use Rattle.pr_narrow.proofs.known.point_at.Goals as goal

pub returns-clause-lawful : goal.returns-clause-lawful
returns-clause-lawful c =
    let args = c.args.equation.now.args in
    let there = slice_get_read args.items (length args.items) c.args.place c.index-operand.result.now (omega arith) (omega (arith, args.ok.0, c.requires.args)) c.index-operand.ensures in
    point_lawful c.args.widths.now c.args.known.now c.index-operand.result.now c.index.result.now c.in_ok-number.number c.from.result c.from-2.result
    (one_within (length c.args.widths.now) c.args.place args.items c.index-operand.result.now c.requires.within there)
    c.requires.wide c.requires.bits (let few = c.from-2.type_inv in omega (arith, c.from-2.ensures)) (sym c.in_ok-number.ensures) (c.from.ensures ∙ c.operand_width.ensures) c.from-2.ensures
