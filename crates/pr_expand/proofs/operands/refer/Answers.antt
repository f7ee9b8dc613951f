use Rattle.std.proofs.Common.{◌≡◌, ◌∙◌, ap}
use Rattle.pr_scope_names.specs.Names.{known_in}
use Rattle.pr_expand_spec.specs.Expressions.{place, referred}
use Rattle.pr_expand.specs.Code.{shapes_in, streams_in}
use Rattle.pr_expand.proofs.operands.refer.Goals as goal

pub returns-in-None : goal.returns-in-None
returns-in-None c =
    let p = place c.args.target.now (known_in c.args.statics.now) in
    let there : c.get-in-None.result ≡ streams_in c.args.env.now c.args.target.now.name p = c.get-in-None.ensures ∙ ap (streams_in c.args.env.now c.args.target.now.name) c.place_at-at.ensures in
    c.refer_stream.ensures p ∙ (λ i. referred (c.in-None.ensures i) p (there i) (shapes_in c.args.ledger))
