use Rattle.std.proofs.Common.{◌^◌, ◌≤◌, arith}
use Rattle.std.proofs.Math.Nat.{pow-le-pow_right}
use Rattle.std.proofs.lemmas.Bool.{ltb-true}
use Rattle.pr_samples.proofs.DigitLemmas.{low_width}
use Rattle.pr_samples.proofs.digits.is_low.Goals as goal

pub returns-then-width-gt63 : goal.returns-then-width-gt63
returns-then-width-gt63 c = λ low.
    let many : 64 ≤ c.args.width = omega (arith, c.if-width-gt63.true) in
    let wide : 2 ^ 64 ≤ 2 ^ c.args.width = pow-le-pow_right (omega arith) many in
    omega (arith, wide, c.ranges.n.fits)

pub returns : goal.returns
returns c = λ low. low_width c.args.n c.args.width c.args.width (omega arith) (omega (arith, c.if-width-gt63.false)) (ltb-true _ _ low)
