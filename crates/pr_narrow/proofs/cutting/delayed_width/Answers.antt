use Rattle.std.proofs.Common.{[], ◌∷◌, sym, ◌∙◌, ap, arith}
use Rattle.pr_width.proofs.OperandLemmas.{const_width}
use Rattle.pr_narrow.specs.Narrowed.{delayed_width}
use Rattle.pr_narrow.proofs.cutting.delayed_width.Goals as goal

pub returns-in-Const : goal.returns-in-Const
returns-in-Const c = const_width c.in-Const.c c.from.result c.bits_of.result.bits c.get.result c.from.ensures c.bits_of.ensures c.get.ensures (omega arith) ∙ ap (λ a. delayed_width c.args.demand.now c.args.news.now (a ∷ [])) (sym c.in-Const.is)
