use Rattle.pr_lens_rtl.proofs.Tables.{table_law}
use Rattle.pr_lens_rtl.proofs.laws.table_law.Goals as goal

pub returns : goal.returns
returns c = λ now a b ha hb table c. table_law now a b ha hb table c
