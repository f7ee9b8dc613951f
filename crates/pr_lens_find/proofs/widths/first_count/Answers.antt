use Rattle.pr_lens_find.specs.Fronts.{spot_of}
use Rattle.pr_lens_find.proofs.MissingLemmas.{first_lack_if}
use Rattle.pr_lens_find.proofs.widths.first_count.Goals as goal

pub returns : goal.returns
returns c = first_lack_if (spot_of c.args.part.now) c.args.most c.turn_between.result c.turn_between.ensures.some c.turn_between.ensures.none
