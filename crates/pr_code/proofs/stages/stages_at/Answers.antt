use Rattle.std.proofs.Common.{◌≡◌, ◌++◌, ◌∷◌, [], drop, map, arith, ap, ◌∙◌}
use Rattle.std.proofs.lemmas.Result.{err_from_is_err_and}
use Rattle.std.proofs.lemmas.List.{map_push}
use Rattle.pr_conf.specs.Configuration.{pes_of}
use Rattle.pr_code.specs.Reading.{words_of_bytes, stage_of}
use Rattle.pr_code.proofs.BreakLemmas.{part_refused}
use Rattle.pr_code.proofs.ReadLemmas.{one_more_left, found_more}
use Rattle.pr_code.proofs.StageLemmas.{stage_refused, stage_kept, stage_found, stage_next}
use Rattle.pr_code.proofs.stages.stages_at.Goals as goal

pub returns-in_err-stage : goal.returns-in_err-stage
returns-in_err-stage g c =
    let p = err_from_is_err_and c.from_residual.result c.from_residual.ensures.1 in
    let n = one_more_left c.args.count c.loop-number.number c.loop-number-test.true in
    part_refused c.from_residual.result _ _ _ _ _ p c.in_err-stage.ensures (stage_refused c.args.packed g.row.N g.row.P c.args.bus c.loop-number.number _ _ c.loop-number.at (drop c.loop-number.at (words_of_bytes c.args.bytes.now)) _ n c.loop-number.invariant.rules)

pub loop-number-preserved : goal.loop-number-preserved
loop-number-preserved g c =
    let n = one_more_left c.args.count c.loop-number.number c.loop-number-test.true in
    let all = words_of_bytes c.args.bytes.now in
    let at = c.loop-number.at in
    let stage = c.in_ok-stage.ensures in
    let pushed : map (pes_of {N = g.row.N}) c.push.new.self.items ≡ map pes_of c.loop-number.stages.items ++ stage_of c.args.packed g.row.N (drop at all) ∷ [] =
    ap (map (pes_of {N = g.row.N})) c.in_ok-push.ensures.items ∙ (map_push (pes_of {N = g.row.N}) c.loop-number.stages.items c.in_ok-stage.stage ∙ ap (λ s. map (pes_of {N = g.row.N}) c.loop-number.stages.items ++ s ∷ []) stage.1.0) in
    record {
      place = omega (arith, c.loop-number.invariant.place, stage.1.2);
      count = omega (arith, c.in_ok-push.ensures.len, c.loop-number.invariant.count);
      rules = stage_kept c.args.packed g.row.N g.row.P c.args.bus c.loop-number.number _ _ at c.in_ok-stage.next all _ n stage.1.1 stage.0 c.loop-number.invariant.rules;
      found = rw pushed (found_more (map (pes_of {N = g.row.N}) c.loop-number.stages.items) _ _ _ (stage_of c.args.packed g.row.N (drop at all)) (stage_found c.args.packed g.row.N _ _ at c.in_ok-stage.next all n stage.1.1) c.loop-number.invariant.found);
      next = stage_next c.args.packed g.row.N _ _ at c.in_ok-stage.next _ all n stage.1.1 c.loop-number.invariant.next;
    }
