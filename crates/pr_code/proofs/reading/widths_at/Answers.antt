use Rattle.std.proofs.Common.{◌≡◌, ◌+◌, drop, arith, true, false, nat_le}
use Rattle.std.proofs.lemmas.Result.{err_from_is_err_and}
use Rattle.std.proofs.lemmas.Bool.{leb-true}
use Rattle.pr_base.specs.Numbers.{slices_of}
use Rattle.pr_code.specs.Reading.{words_of_bytes}
use Rattle.pr_code.proofs.BreakLemmas.{refused, part_refused, step_breaks, step_keeps}
use Rattle.pr_code.proofs.ReadLemmas.{one_more_left, take_step, found_more, width_refused, width_step, width_kept, width_too_many}
use Rattle.pr_code.proofs.reading.widths_at.Goals as goal

pub returns-in_err-width : goal.returns-in_err-width
returns-in_err-width c =
    let p = err_from_is_err_and c.from_residual.result c.from_residual.ensures.1 in
    let n = one_more_left c.args.count c.loop.counter c.loop-test.true in
    part_refused c.from_residual.result _ _ _ _ _ p c.in_err-width.ensures (width_refused c.args.widest c.args.columns _ _ c.loop.used c.loop.at (drop c.loop.at (words_of_bytes c.args.bytes.now)) _ n c.loop.invariant.rules)

pub returns-in_err-demand : goal.returns-in_err-demand
returns-in_err-demand c =
    let p = err_from_is_err_and c.from_residual-in_err-demand.result c.from_residual-in_err-demand.ensures.1 in
    let n = one_more_left c.args.count c.loop.counter c.loop-test.true in
    let w = c.in_ok-width.field-0 in
    let is = c.in_ok-width.ensures.1.0 in
    let many : nat_le (c.loop.used + slices_of w) c.args.columns ≡ false = rw (← c.slices.ensures) c.in_err-demand.ensures.0 in
    refused c.from_residual-in_err-demand.result _ _ _ _ _ p c.in_err-demand.ensures.1
    (step_breaks _ _ _ c.loop.at _ w _ 4 _ (width_step c.args.widest c.args.columns _ _ c.loop.used w _ _ n is) is
    (width_too_many c.args.widest c.args.columns c.loop.used w c.loop.at _ _ is c.in_ok-width.ensures.0 many) c.loop.invariant.rules)

pub loop-preserved : goal.loop-preserved
loop-preserved c =
    let n = one_more_left c.args.count c.loop.counter c.loop-test.true in
    let w = c.in_ok-width.field-0 in
    let is = c.in_ok-width.ensures.1.0 in
    let fits : nat_le (c.loop.used + slices_of w) c.args.columns ≡ true = rw (← c.slices.ensures) c.in_ok-demand.ensures in
    record {
      place = omega arith;
      count = omega (arith, c.in_ok-push.ensures.len, c.loop.invariant.count);
      within = leb-true _ _ c.in_ok-demand.ensures;
      rules = rw c.slices.ensures (step_keeps _ _ _ c.loop.at _ w _ _ (width_step c.args.widest c.args.columns _ _ c.loop.used w _ _ n is) is (width_kept c.args.widest c.args.columns c.loop.used w c.loop.at _ _ is c.in_ok-width.ensures.0 fits) c.loop.invariant.rules);
      found = rw c.in_ok-push.ensures.items (found_more c.loop.widths.items _ _ _ w (take_step _ _ w _ _ n is) c.loop.invariant.found);
    }
