use Rattle.std.proofs.Common.{◌∙◌, ◌&&◌, ℕ, nat_lt, sym, ap, arith}
use Rattle.pr_cut_units.specs.Counts.{one_where}
use Rattle.pr_lens_fits.proofs.MakerLemmas.{no_form, one_form}
use Rattle.pr_lens_fits.proofs.makers.widening.Goals as goal

pub returns-then-min-ne1 : goal.returns-then-min-ne1
returns-then-min-ne1 c =
    let equation = c.args.equation.now in
    sym (no_form c.args.widths.now equation.args.items equation.kinds.items c.args.to (λ one. c.if-min-ne1.true (omega (arith, one, c.min.ensures, c.len.ensures, c.len-2.ensures, equation.args.ok.0, equation.kinds.ok.0))))

pub returns : goal.returns
returns c =
    let equation = c.args.equation.now in
    let signed = c.index-signed.result.now in
    one_form c.args.widths.now equation.args.items equation.kinds.items c.args.to c.widened.result c.index-operand.result.now signed (omega (arith, c.if-min-ne1.false, c.min.ensures, c.len.ensures, c.len-2.ensures, equation.args.ok.0, equation.kinds.ok.0))
    c.index-operand.ensures c.index-signed.ensures (c.widened.ensures ∙ ap (λ (width : ℕ). one_where (signed && nat_lt width c.args.to)) c.width_of.ensures)
