use Rattle.pr_stripe_prepared.proofs.RoundLaws.{right_more}
use Rattle.pr_stripe_prepared.proofs.rounds.round.Goals as goal

pub returns-clause-a : goal.returns-clause-a
returns-clause-a g c = c.operands.ensures.a.long

pub returns-clause-right : goal.returns-clause-right
returns-clause-right g c = λ pes count r p right.
    right_more c.args.q.now pes count p c.args.row.now c.args.state c.operands.result.0 c.operands.result.1 c.operands.result.2 c.results-made.result.output c.results-made.result.carries c.args.before.a c.args.before.output c.args.before.carries r c.requires.state
    c.operands.ensures.a c.operands.ensures.b c.operands.ensures.c c.results-made.ensures.outputs c.results-made.ensures.carries c.results-made.ensures.operands c.results-made.ensures.found c.results-made.ensures.halves right
