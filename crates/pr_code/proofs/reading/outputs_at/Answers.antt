use Rattle.std.proofs.Common.{◌≡◌, ◌+◌, ◌++◌, ◌∷◌, [], map, drop, arith, ap, ◌∙◌}
use Rattle.std.proofs.lemmas.Result.{err_from_is_err_and}
use Rattle.std.proofs.lemmas.List.{map_push}
use Rattle.pr_conf.specs.Shape.{output_shape}
use Rattle.pr_code.specs.Reading.{words_of_bytes, output_of, output_length}
use Rattle.pr_code.proofs.BreakLemmas.{part_refused}
use Rattle.pr_code.proofs.ReadLemmas.{one_more_left, found_more, output_refused, output_kept, output_found, output_next}
use Rattle.pr_code.proofs.reading.outputs_at.Goals as goal

pub returns-in_err-output : goal.returns-in_err-output
returns-in_err-output c =
    let p = err_from_is_err_and c.from_residual.result c.from_residual.ensures.1 in
    let n = one_more_left c.args.count c.loop.counter c.loop-test.true in
    part_refused c.from_residual.result _ _ _ _ _ p c.in_err-output.ensures (output_refused c.args.bounds.widest c.args.bounds.columns c.args.bounds.registers _ _ c.loop.at (drop c.loop.at (words_of_bytes c.args.bytes.now)) _ n c.loop.invariant.rules)

pub loop-preserved : goal.loop-preserved
loop-preserved c =
    let n = one_more_left c.args.count c.loop.counter c.loop-test.true in
    let all = words_of_bytes c.args.bytes.now in
    let output = c.in_ok-output.ensures in
    let k : 1 + c.len.result ≡ output_length (drop c.loop.at all) = ap (λ x. 1 + x) c.len.ensures ∙ output.1.1 in
    let pushed : map output_shape c.push.new.self.items ≡ map output_shape c.loop.outputs.items ++ output_of (drop c.loop.at all) ∷ [] =
    ap (map output_shape) c.in_ok-push.ensures.items ∙ (map_push output_shape c.loop.outputs.items c.in_ok-output.output ∙ ap (λ o. map output_shape c.loop.outputs.items ++ o ∷ []) output.1.0) in
    record {
      place = omega (arith, output.1.2, c.len.ensures);
      rules = output_kept c.args.bounds.widest c.args.bounds.columns c.args.bounds.registers _ _ c.loop.at (1 + c.len.result) all _ n k output.0 c.loop.invariant.rules;
      found = rw pushed (found_more (map output_shape c.loop.outputs.items) _ _ _ (output_of (drop c.loop.at all)) (output_found _ _ c.loop.at (1 + c.len.result) all n k) c.loop.invariant.found);
      next = output_next _ _ c.loop.at (1 + c.len.result) _ all n k c.loop.invariant.next;
    }
