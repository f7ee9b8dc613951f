use Rattle.pr_lens_why.proofs.Refused.{refusal_of}
use Rattle.pr_lens_why.proofs.explaining.refused.Goals as goal

pub explained-requires-clause-refused : goal.explained-requires-clause-refused
explained-requires-clause-refused g c = refusal_of g.row.N g.row.P c.args.narrowed c.args.text.now c.args.fault c.in_default.not-Memory c.requires.answer
