use Rattle.pr_lens_why.proofs.Refused.{refusal_of}
use Rattle.pr_lens_why.proofs.helps.not_fitting.Goals as goal

pub returns-in_default : goal.returns-in_default
returns-in_default g c = record { fault = c.args.fault; refused = refusal_of g.row.N g.row.P c.args.narrowed c.args.text.now c.args.fault c.in_default.not-Memory c.requires }
