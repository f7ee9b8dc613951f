use Rattle.std.proofs.Common.{◌∙◌, List, length, map, ap, sym, subst, arith}
use Rattle.pr_flat.specs.declared.equations.Operand.{Operand}
use Rattle.pr_flat.specs.Shape.{EquationShape}
use Rattle.pr_flat.specs.Widths.{AreWidths}
use Rattle.pr_expand_correct.proofs.AgreedPrograms.{widths-exist}
use Rattle.pr_lens_probe.specs.Kinds.{is_wide, last_of}
use Rattle.pr_lens_probe.proofs.Answered.{kinds-lawful, kinds-long, kinds-told, kinds-widths}
use Rattle.pr_lens_probe.proofs.kinds.kinds_of.Goals as goal

pub solved-requires : goal.solved-requires
solved-requires c =
    let a = c.in_ok-asked.ensures.answered in
    let have = widths-exist a.asked (kinds-lawful c.args.program c.args.most c.args.some.now c.requires.able a.asked a.are) (kinds-widths c.args.program c.args.most c.args.some.now c.requires.able a.asked a.are) in
    (have.widths, subst (λ (es : List EquationShape). AreWidths es have.widths) (sym a.equations) have.are)

pub wide_outputs-requires-clause-count : goal.wide_outputs-requires-clause-count
wide_outputs-requires-clause-count c =
    let a = c.in_ok-asked.ensures.answered in
    let long = kinds-long c.args.program c.args.most c.args.some.now c.requires.able a.asked a.are in
    omega (arith, long, ap length a.outputs, c.in_ok-asked.asked.flat.outputs.ok.0)

pub returns-clause-kinds : goal.returns-clause-kinds
returns-clause-kinds c =
    let a = c.in_ok-asked.ensures.answered in
    let some = c.args.some.now in
    kinds-told c.args.program c.args.most some c.requires.able a.asked a.are c.in_ok-widths.widths c.in_ok-kinds.kinds.items c.requires.room
    (subst (λ (es : List EquationShape). AreWidths es c.in_ok-widths.widths) a.equations c.in_ok-widths.ensures)
    (c.in_ok-kinds.ensures ∙ ap (λ (os : List Operand). map (is_wide c.in_ok-widths.widths) (last_of (length some) os)) a.outputs)
