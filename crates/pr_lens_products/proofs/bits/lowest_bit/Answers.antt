use Rattle.std.proofs.Common.{◌∙◌, sym}
use Rattle.pr_lens_source.proofs.RangeLemmas.{first_none, first_here, first_later}
use Rattle.pr_lens_products.specs.Bits.{has_bit, lowest_bit}
use Rattle.pr_lens_products.proofs.bits.lowest_bit.Goals as goal

pub returns-then-has_bit-clause-value : goal.returns-then-has_bit-clause-value
unfolding lowest_bit
returns-then-has_bit-clause-value c =
    sym (first_here (has_bit c.args.number) c.loop-place.place 64 c.loop-place-test.true (sym c.has_bit.ensures ∙ c.if-has_bit.true)) ∙ c.loop-place.invariant

pub loop-place-preserved : goal.loop-place-preserved
loop-place-preserved c =
    sym (first_later (has_bit c.args.number) c.loop-place.place 64 c.loop-place-test.true (sym c.has_bit.ensures ∙ c.if-has_bit.false)) ∙ c.loop-place.invariant

pub returns-clause-value : goal.returns-clause-value
unfolding lowest_bit
returns-clause-value c = sym (first_none (has_bit c.args.number) c.loop-place.place 64 c.loop-place-test.false) ∙ c.loop-place.invariant
