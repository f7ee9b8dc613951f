use Rattle.std.proofs.Common.{◌∙◌, sym}
use Rattle.pr_lens_source.proofs.RangeLemmas.{first_none, first_here, first_later}
use Rattle.pr_lens_products.specs.Bits.{is_power, only_bit}
use Rattle.pr_lens_products.proofs.bits.only_bit.Goals as goal

pub returns-then-is_power-clause-value : goal.returns-then-is_power-clause-value
unfolding only_bit
returns-then-is_power-clause-value c =
    sym (first_here (is_power c.args.number) c.loop-place.place 65 c.loop-place-test.true (sym c.is_power.ensures ∙ c.if-is_power.true)) ∙ c.loop-place.invariant

pub loop-place-preserved : goal.loop-place-preserved
loop-place-preserved c =
    sym (first_later (is_power c.args.number) c.loop-place.place 65 c.loop-place-test.true (sym c.is_power.ensures ∙ c.if-is_power.false)) ∙ c.loop-place.invariant

pub returns-clause-value : goal.returns-clause-value
unfolding only_bit
returns-clause-value c = sym (first_none (is_power c.args.number) c.loop-place.place 65 c.loop-place-test.false) ∙ c.loop-place.invariant
