use Rattle.pr_lens_find.proofs.OffenceLemmas.{held_told}
use Rattle.pr_lens_find.proofs.offences.find_offence.Goals as goal

pub returns-clause-found : goal.returns-clause-found
returns-clause-found c =
    let source = c.args.source.now in
    held_told source.text.now source.tokens.now source.spans.now c.args.rule c.args.number c.held.result c.in_ok-found.found c.in_ok-found.ensures c.held.ensures.other c.held.ensures.left
