use Rattle.std.proofs.Common.{◌≤◌, ◌<◌, ◌^◌, sym, arith, pow_mono, lt-ltb, lt_of_lt_of_le}
use Rattle.pr_scope.proofs.statements.has_bits.Goals as goal

pub returns-then-bits-ge64 : goal.returns-then-bits-ge64
returns-then-bits-ge64 c =
    let bits : 64 ≤ c.args.bits = omega arith in
    let number : c.args.number < 2 ^ 64 = omega arith in
    sym (lt-ltb c.args.number (2 ^ c.args.bits) (lt_of_lt_of_le number (pow_mono bits)))
