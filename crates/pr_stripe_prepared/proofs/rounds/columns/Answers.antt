use mathlib.Core.Bool.{not}
use Rattle.std.proofs.Common.{ap, arith}
use Rattle.std.proofs.lemmas.Bool.{ne_eqb}
use Rattle.pr_stripe_prepared.proofs.rounds.columns.Goals as goal

-- before the first round no column has to be right
pub returns-then-this-ne0-clause-columns : goal.returns-then-this-ne0-clause-columns
returns-then-this-ne0-clause-columns g c = λ pes count k d p l.
    let one = c.requires.once (ap not (ne_eqb g.row.ONCE 0 c.if-this-ne0.true)) in
    let o = (p.ordered k d l).before in
    (c.round.ensures.right pes count 0 p (record { columns = λ j e m below. absurd (omega arith); carried = λ j e m sums chain below. absurd (omega arith) })).columns k d l (omega (arith, one, o))
