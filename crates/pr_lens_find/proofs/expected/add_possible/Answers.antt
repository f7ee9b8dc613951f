use Rattle.pr_lens_source.specs.Tokens.{text_before}
use Rattle.pr_lens_find.proofs.Possible.{spelled, left_out, pushed}
use Rattle.pr_lens_find.proofs.expected.add_possible.Goals as goal

pub returns-then-not-branch : goal.returns-then-not-branch
returns-then-not-branch g c =
    let front = text_before c.args.source.now.text.now c.args.source.now.tokens.now c.args.at in
    left_out front c.args.at g.T.Spelled.spelling c.args.one c.args.all.now.items
    (spelled front c.args.at c.bytes.result.now (g.T.Spelled.spelling c.args.one) c.in_ok-could_stand.field-0 _ c.in_ok-could_stand.ensures c.bytes.ensures c.if-not-branch.true)

pub returns : goal.returns
returns g c =
    let front = text_before c.args.source.now.text.now c.args.source.now.tokens.now c.args.at in
    pushed front c.args.at g.T.Spelled.spelling c.args.one c.args.all.now.items c.push.new.self.items c.in_ok-push.ensures.items
    (spelled front c.args.at c.bytes.result.now (g.T.Spelled.spelling c.args.one) c.in_ok-could_stand.field-0 _ c.in_ok-could_stand.ensures c.bytes.ensures c.if-not-branch.false)
