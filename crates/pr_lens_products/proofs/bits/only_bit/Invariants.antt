use Rattle.std.proofs.Common.{◌≡◌}
use Rattle.pr_lens_source.specs.Ranges.{first_between}
use Rattle.pr_lens_products.specs.Bits.{is_power}
use Rattle.pr_lens_products.proofs.bits.only_bit.Given as goal

abbrev pub invariant-loop-place : goal.invariant-loop-place
invariant-loop-place l = first_between (is_power l.number) l.place 65 ≡ first_between (is_power l.number) 0 65
