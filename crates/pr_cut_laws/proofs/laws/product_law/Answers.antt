use Rattle.pr_cut_laws.proofs.Products.{product_shows}
use Rattle.pr_cut_laws.proofs.RowsLaws.{earlier_operands}
use Rattle.pr_cut_laws.proofs.laws.product_law.Goals as goal

pub returns : goal.returns
returns c = λ r u bits wa wb a b some sb bytes ka kb la lb has. (product_shows r u bits wa wb a b some sb bytes (earlier_operands u a ka) (earlier_operands u b kb) la lb has).0
