use Rattle.std.proofs.lemmas.Result.{IfOk-weaker}
use Rattle.pr_lens_find.proofs.OffenceLemmas.{found_in}
use Rattle.pr_lens_find.proofs.offences.offending.Goals as goal

pub returns : goal.returns
returns c =
    let source = c.args.source.now in
    IfOk-weaker c.token_of.result _ _ (λ o is. found_in source.text.now source.tokens.now source.spans.now c.args.rule c.args.number c.in-Some.item (rw c.in-Some.is at c.in_ok-item.ensures) o is) c.token_of.ensures
