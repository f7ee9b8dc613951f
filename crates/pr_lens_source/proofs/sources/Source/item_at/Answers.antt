use Rattle.pr_lens_source.proofs.SpanLemmas.{item_at}
use Rattle.pr_lens_source.proofs.sources.Source.item_at.Goals as goal

pub returns-clause-is : goal.returns-clause-is
returns-clause-is c = rw c.unwrap_or.ensures (item_at c.args.self.now.spans.now c.args.token c.first_ending.result c.first_ending.ensures)
