use Rattle.pr_compile_front.proofs.OneRefusal.{one-refusal, no-refusal, one-tree, one-widths}
use Rattle.pr_compile_front.proofs.laws.front_law.Goals as goal

pub returns : goal.returns
returns c = record { one = one-refusal; none = no-refusal; tree = one-tree; widths = one-widths }
