use Rattle.std.proofs.Common.{◌∙◌, ◌++◌, [], Bool, true, cond, codes, sym, ap}
use Rattle.std.proofs.lemmas.Result.{on_ok_weaker}
use Rattle.pr_lens_text.proofs.PutLemmas.{three_put}
use Rattle.pr_lens_why.specs.Syntax.{expected_pieces, joined, listed_text}
use Rattle.pr_lens_why.proofs.syntax.put_expected.Goals as goal

pub returns : goal.returns
unfolding listed_text
returns c =
    let old = c.args.message.now.items in
    let pieces = expected_pieces c.args.expected.now in
    let some = sym c.is_nothing.ensures ∙ c.if-is_nothing.false in
    on_ok_weaker c.put-2.result (λ h. three_put old (codes "What could: ") (joined true pieces) (codes ".\n") c.in_ok-put.ensures c.in_ok-put_pieces.ensures h
    ∙ ap (λ (b : Bool). old ++ cond b [] (codes "What could: " ++ joined true pieces ++ codes ".\n")) (sym some)) c.put-2.ensures
