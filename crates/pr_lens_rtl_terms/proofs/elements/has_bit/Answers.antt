use Rattle.std.proofs.Common.{◌≡◌, ◌<◌, ◌≤◌, ◌==◌, ◌%◌, ◌^◌, ℕ, false, ap, sym, lt_of_lt_of_le}
use Rattle.std.proofs.Math.Nat.{div-eq_of_lt}
use Rattle.std.proofs.Math.Pow.{pow_mono}
use Rattle.pr_lens_rtl.specs.Module.{is_one_at}
use Rattle.pr_lens_rtl_terms.proofs.elements.has_bit.Goals as goal

none_above : (n k : ℕ) → n < 2 ^ 8 → 8 ≤ k → is_one_at n k ≡ false
none_above n k small above = ap (λ q. q % 2 == 1) (div-eq_of_lt (lt_of_lt_of_le small (pow_mono above)))

pub returns-else-place-lt8 : goal.returns-else-place-lt8
returns-else-place-lt8 c = sym (none_above c.args.byte c.args.place c.ranges.byte.fits c.if-place-lt8.false)
