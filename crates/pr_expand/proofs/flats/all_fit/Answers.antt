use Rattle.std.proofs.Common.{arith}
use Rattle.pr_flat.specs.declared.equations.Operand.TheVariants.{Const}
use Rattle.pr_scope_facts.specs.Numbers.{is_number}
use Rattle.pr_expand.proofs.Fitting.{all_more}
use Rattle.pr_expand.proofs.flats.all_fit.Goals as goal

pub loop-operand-preserved : goal.loop-operand-preserved
loop-operand-preserved c = all_more is_number c.args.operands.now c.loop-operand.operand-index (Const 0) (omega arith) c.loop-operand.invariant c.fits.ensures
