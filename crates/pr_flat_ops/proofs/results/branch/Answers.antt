use Rattle.std.proofs.Common.{cond, ap, sym}
use Rattle.std.proofs.lemmas.Bool.{eq-eqb, ne_eqb}
use Rattle.pr_flat_ops.proofs.Values.{point_bits}
use Rattle.pr_flat_ops.proofs.TestLemmas.{wrapped_choice}
use Rattle.pr_flat_ops.proofs.results.branch.Goals as goal

pub returns-then-c-eq1 : goal.returns-then-c-eq1
returns-then-c-eq1 c =
    wrapped_choice c.args.c c.args.a c.args.b c.args.a c.whole_of.result.bits c.requires.a c.requires.b (sym (ap (λ t. cond t c.args.a c.args.b) (eq-eqb c.args.c.number 1 c.if-c-eq1.true)))
    (point_bits c.args.a c.whole_of.result.bits c.requires.a c.whole_of.ensures.bits)

pub returns : goal.returns
returns c =
    wrapped_choice c.args.c c.args.a c.args.b c.args.b c.whole_of-2.result.bits c.requires.a c.requires.b (sym (ap (λ t. cond t c.args.a c.args.b) (ne_eqb c.args.c.number 1 c.if-c-eq1.false)))
    (point_bits c.args.b c.whole_of-2.result.bits c.requires.b c.whole_of-2.ensures.bits)
