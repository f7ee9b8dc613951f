use Rattle.pr_stripe_prepared.proofs.PadLaws.{front_padded}
use Rattle.pr_stripe_prepared.proofs.steps.pad.Goals as goal

pub returns-clause-bytes : goal.returns-clause-bytes
returns-clause-bytes g c = rw c.requires.zeros (front_padded g.row.LONG c.args.bus.now _ c.copy_row.ensures)
