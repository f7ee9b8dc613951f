use Rattle.std.proofs.Common.{subst, sym, arith}
use Rattle.pr_flat.specs.declared.equations.Op.{Op}
use Rattle.pr_cut_units.specs.Table.{operator_units}
use Rattle.pr_cut_cells.specs.Arguments.{pair_of}
use Rattle.pr_cut_ops.specs.Makes.{Makes}
use Rattle.pr_cut_ops.proofs.LastCalls.{more_made}
use Rattle.pr_cut_ops.proofs.table.operator_two.Goals as goal

pub returns-in-Less : goal.returns-in-Less
returns-in-Less c = subst (λ (op : Op). Makes 20000 (operator_units c.args.e op (pair_of c.args.a.now c.args.b.now)) c.args.units.now c.less.new.units c.less.result) (sym c.in-Less.is) (more_made 60 20000 _ _ _ _ c.less.ensures (omega arith))

pub returns-in-GreaterEqual : goal.returns-in-GreaterEqual
returns-in-GreaterEqual c = subst (λ (op : Op). Makes 20000 (operator_units c.args.e op (pair_of c.args.a.now c.args.b.now)) c.args.units.now c.greater_equal.new.units c.greater_equal.result) (sym c.in-GreaterEqual.is) (more_made 60 20000 _ _ _ _ c.greater_equal.ensures (omega arith))

pub returns-in-Greater : goal.returns-in-Greater
returns-in-Greater c = subst (λ (op : Op). Makes 20000 (operator_units c.args.e op (pair_of c.args.a.now c.args.b.now)) c.args.units.now c.less-in-Greater.new.units c.less-in-Greater.result) (sym c.in-Greater.is) (more_made 60 20000 _ _ _ _ c.less-in-Greater.ensures (omega arith))

pub returns-in-LessEqual : goal.returns-in-LessEqual
returns-in-LessEqual c = subst (λ (op : Op). Makes 20000 (operator_units c.args.e op (pair_of c.args.a.now c.args.b.now)) c.args.units.now c.greater_equal-in-LessEqual.new.units c.greater_equal-in-LessEqual.result) (sym c.in-LessEqual.is) (more_made 60 20000 _ _ _ _ c.greater_equal-in-LessEqual.ensures (omega arith))
