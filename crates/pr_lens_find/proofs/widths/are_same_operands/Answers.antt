use Rattle.std.proofs.Common.{refl, arith}
use Rattle.std.proofs.lemmas.List.{same_lists}
use Rattle.pr_lens_find.proofs.widths.are_same_operands.Goals as goal

pub returns : goal.returns
returns c = (λ _. same_lists c.args.one.now c.args.other.now (omega (arith, c.if-one-other.false)) (λ k d less. c.loop-place.invariant k d (omega (arith, c.loop-place-test.false, c.loop-place.auto.place-end, less))), λ _. refl)
