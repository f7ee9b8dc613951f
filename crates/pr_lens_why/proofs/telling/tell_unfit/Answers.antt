use Rattle.std.proofs.Common.{arith}
use Rattle.std.proofs.lemmas.Result.{on_ok_weaker}
use Rattle.pr_lens_why.proofs.TellingLemmas.{columns_told}
use Rattle.pr_lens_why.proofs.telling.tell_unfit.Goals as goal

pub returns : goal.returns
returns g c =
    let source = c.args.source.now in
    let needs = c.in_ok-needs in
    on_ok_weaker c.tell_columns.result (λ h. columns_told g.row.N g.row.P c.args.narrowed source.text.now source.tokens.now source.spans.now c.args.unit c.args.unfit.now needs.needs _ _ (omega (arith, c.if-unfit.false)) needs.ensures.some needs.ensures.none h) c.tell_columns.ensures
