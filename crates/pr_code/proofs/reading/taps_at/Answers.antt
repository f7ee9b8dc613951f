use Rattle.std.proofs.Common.{◌≡◌, map, replicate, arith, ap, sym, ◌∙◌, true, false}
use Rattle.std.proofs.lemmas.Result.{err_from_is_err_and}
use Rattle.pr_code.specs.Reading.{tap_of}
use Rattle.pr_code.specs.Rules.{tap_rule, is_tap}
use Rattle.pr_code.proofs.BreakLemmas.{refused, step_misses, step_breaks, step_keeps, demanded, not_demanded}
use Rattle.pr_code.proofs.ReadLemmas.{one_more_left, take_step, found_more}
use Rattle.pr_code.proofs.reading.taps_at.Goals as goal

pub returns-in_err-word : goal.returns-in_err-word
returns-in_err-word c =
    let p = err_from_is_err_and c.from_residual.result c.from_residual.ensures.1 in
    let r = tap_rule c.args.columns c.args.registers in
    let left = ap (λ k. replicate k r) (one_more_left c.args.count c.loop.counter c.loop-test.true) in
    refused c.from_residual.result _ _ _ _ _ p c.in_err-word.ensures.1 (step_misses _ _ r c.loop.at _ _ left c.in_err-word.ensures.0 c.loop.invariant.rules)

pub returns-in_err-demand : goal.returns-in_err-demand
returns-in_err-demand c =
    let p = err_from_is_err_and c.from_residual-in_err-demand.result c.from_residual-in_err-demand.ensures.1 in
    let r = tap_rule c.args.columns c.args.registers in
    let left = ap (λ k. replicate k r) (one_more_left c.args.count c.loop.counter c.loop-test.true) in
    let not_tap : is_tap c.args.columns c.args.registers c.in_ok-word.word ≡ false = sym c.is_tap.ensures ∙ c.in_err-demand.ensures.0 in
    refused c.from_residual-in_err-demand.result _ _ _ _ _ p c.in_err-demand.ensures.1 (step_breaks _ _ r c.loop.at _ c.in_ok-word.word _ 5 _ left c.in_ok-word.ensures (not_demanded 5 _ not_tap) c.loop.invariant.rules)

pub loop-preserved : goal.loop-preserved
loop-preserved c =
    let r = tap_rule c.args.columns c.args.registers in
    let n = one_more_left c.args.count c.loop.counter c.loop-test.true in
    let left = ap (λ k. replicate k r) n in
    let tap : is_tap c.args.columns c.args.registers c.in_ok-word.word ≡ true = sym c.is_tap.ensures ∙ c.in_ok-demand.ensures in
    record {
      place = omega arith;
      count = omega (arith, c.in_ok-push.ensures.len);
      rules = step_keeps _ _ r c.loop.at _ c.in_ok-word.word _ _ left c.in_ok-word.ensures (demanded 5 _ tap) c.loop.invariant.rules;
      found = rw (c.in_ok-push.ensures.items, c.tap_of.ensures) (found_more c.loop.taps.items _ _ _ (tap_of c.in_ok-word.word) (ap (map tap_of) (take_step _ _ c.in_ok-word.word _ _ n c.in_ok-word.ensures)) c.loop.invariant.found);
    }
