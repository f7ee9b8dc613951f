use Rattle.pr_scope_names.specs.Names.{built_in}
use Rattle.pr_lens_origins.proofs.CountLaws.{items_counted}
use Rattle.pr_lens_origins.proofs.laws.numbers_law.Goals as goal

pub returns : goal.returns
returns c = λ program. items_counted 0 program.items.items 0 built_in
