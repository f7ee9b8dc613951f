use Rattle.pr_lens_tracks.proofs.TextLemmas.{bit-none}
use Rattle.pr_lens_tracks.proofs.changes.bit_digit.Goals as goal

pub returns-else-place-lt128 : goal.returns-else-place-lt128
returns-else-place-lt128 c = bit-none c.args.number c.args.place c.ranges.number.fits c.if-place-lt128.false
