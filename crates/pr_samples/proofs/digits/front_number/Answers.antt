use Rattle.std.proofs.Common.{◌≡◌, ◌<◌, true, take, length, get_or, ◌∙◌, arith}
use Rattle.std.specs.List.{list_all}
use Rattle.std.proofs.lemmas.Bool.Decides.{nat_tests}
use Rattle.std.proofs.lemmas.Bool.{and_from}
use Rattle.std.proofs.lemmas.List.Folds.{list_all_more}
use Rattle.pr_samples.specs.Fed.{is_digit}
use Rattle.pr_samples.proofs.DigitLemmas.{value_after-more, low_front, low_more}
use Rattle.pr_samples.proofs.digits.front_number.Goals as goal

pub overflow_mul-n : goal.overflow_mul-n
overflow_mul-n c =
    let low = low_front c.loop-i.n c.loop-i.i c.loop-i.invariant.low (omega (arith, c.min-most.ensures, c.loop-i-test.true)) in
    omega (arith, low)

pub overflow_add-n : goal.overflow_add-n
overflow_add-n c =
    let low = low_front c.loop-i.n c.loop-i.i c.loop-i.invariant.low (omega (arith, c.min-most.ensures, c.loop-i-test.true)) in
    omega (arith, low, c.from.ensures, c.if-digit-gt9.false)

pub loop-i-preserved : goal.loop-i-preserved
loop-i-preserved c =
    let i = c.loop-i.i in
    let bytes = c.args.bytes.now in
    let within : i < length bytes = omega (arith, c.min-most.ensures, c.loop-i-test.true) in
    let digit : is_digit (get_or bytes i 0) ≡ true = grind (arith, nat_tests) in
    record {
      digits = list_all_more is_digit bytes i 0 within ∙ and_from (list_all is_digit (take i bytes)) (is_digit (get_or bytes i 0)) c.loop-i.invariant.digits digit;
      number = omega (arith, c.from.ensures, c.loop-i.invariant.number, value_after-more bytes i within);
      low = low_more c.loop-i.n c.from.result i c.loop-i.invariant.low (omega (arith, c.from.ensures, c.if-digit-gt9.false));
    }
