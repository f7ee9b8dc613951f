use Rattle.std.proofs.Common.{◌≡◌}
use Rattle.pr_lens_source.specs.Ranges.{first_between}
use Rattle.pr_lens_products.specs.Bits.{has_bit}
use Rattle.pr_lens_products.proofs.bits.lowest_bit.Given as goal

abbrev pub invariant-loop-place : goal.invariant-loop-place
invariant-loop-place l = first_between (has_bit l.number) l.place 64 ≡ first_between (has_bit l.number) 0 64
