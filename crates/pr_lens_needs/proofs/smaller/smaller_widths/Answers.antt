use Rattle.std.proofs.Common.{◌≡◌}
use Rattle.std.proofs.lemmas.Result.{IfOk-weaker}
use Rattle.pr_lens_source.specs.Tokens.{first_of}
use Rattle.pr_lens_needs.specs.Smaller.{NoToken, Told, searched_to}
use Rattle.pr_lens_needs.proofs.smaller.smaller_widths.Goals as goal

pub returns-in-None : goal.returns-in-None
returns-in-None c =
    let source = c.args.asked.now.source in
    let first : c.first-first.result ≡ first_of source.tokens.now source.spans.now c.args.item = c.first-first.ensures in
    let to : c.searched_to-to.result ≡ searched_to source.tokens.now source.spans.now c.args.item = c.searched_to-to.ensures in
    NoToken (rw to at (rw first at (rw c.in-None.is at c.in_ok-width_token.ensures.none))) c.new.ensures.items

pub returns-in-Some : goal.returns-in-Some
returns-in-Some c =
    let source = c.args.asked.now.source in
    let first : c.first-first.result ≡ first_of source.tokens.now source.spans.now c.args.item = c.first-first.ensures in
    let to : c.searched_to-to.result ≡ searched_to source.tokens.now source.spans.now c.args.item = c.searched_to-to.ensures in
    let token = rw to at (rw first at (rw c.in-Some.is at c.in_ok-width_token.ensures.some)) in
    IfOk-weaker c.three_smaller.result _ _ (λ found is. Told c.in-Some.token token is) c.three_smaller.ensures
