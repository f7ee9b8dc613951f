use Rattle.pr_lens_find.specs.Fronts.{spot_of}
use Rattle.pr_lens_find.proofs.OffenceLemmas.{both_ok, turned}
use Rattle.pr_lens_find.proofs.offences.first_count.Goals as goal

pub returns : goal.returns
returns c =
    let broken = c.args.broken.now in
    both_ok _ _ _ c.turn_between.result (λ o some none. turned (spot_of broken.part) broken.rule c.args.by c.args.most o some none) c.turn_between.ensures.some c.turn_between.ensures.none
