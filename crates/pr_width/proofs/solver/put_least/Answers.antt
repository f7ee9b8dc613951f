use Rattle.std.proofs.Common.{arith}
use Rattle.std.proofs.lemmas.Bool.{OnTrue_at}
use Rattle.pr_flat.specs.Shape.{shapes_of}
use Rattle.pr_width.proofs.SolverLemmas.{holds_more, found_least, agree_along}
use Rattle.pr_width.proofs.solver.put_least.Goals as goal

pub holds_at-requires-clause-initial : goal.holds_at-requires-clause-initial
holds_at-requires-clause-initial c = holds_more c.from.result c.args.recurrence.init c.bits_of.result.bits c.get-least.result c.loop-width.width c.from.ensures c.bits_of.ensures.holds c.get-least.ensures (omega arith)

pub returns-then-holds_at-clause-found : goal.returns-then-holds_at-clause-found
returns-then-holds_at-clause-found c = found_least (shapes_of c.args.flat.now.equations.items) c.args.recurrence c.args.widths.now c.holds_at.new.widths c.loop-width.width c.requires.there (OnTrue_at c.if-holds_at.true c.holds_at.ensures.holds) (agree_along c.args.recurrence.first c.args.widths.now c.loop-width.widths c.holds_at.new.widths c.loop-width.invariant.before c.holds_at.ensures.before) c.loop-width.invariant.from
