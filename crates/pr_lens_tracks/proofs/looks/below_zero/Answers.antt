use Rattle.pr_lens_tracks.proofs.TextLemmas.{below-none}
use Rattle.pr_lens_tracks.proofs.looks.below_zero.Goals as goal

pub returns-in-None : goal.returns-in-None
returns-in-None c = below-none c.args.look c.args.number c.ranges.number.fits c.in-None.ensures.none
