use Rattle.std.proofs.Common.{◌+◌, ◌∷◌, [], slice_index, drop}
use Rattle.std.proofs.lemmas.Result.{err_from_is_err_and}
use Rattle.pr_code.specs.Reading.{words_of_bytes}
use Rattle.pr_code.specs.Rules.{sources_rule, choice_rule, last_rule}
use Rattle.pr_code.proofs.StageLemmas.{rules_1, rules_2, pe_1, pe_2, pe_3, pe_4, pe_refused, pe_taken}
use Rattle.pr_code.proofs.stages.pe_at.Goals as goal

pub returns-in_err-first : goal.returns-in_err-first
returns-in_err-first c =
    let p = err_from_is_err_and c.from_residual.result c.from_residual.ensures.1 in
    let all = words_of_bytes c.args.bytes.now in
    pe_refused c.from_residual.result _ c.args.packed c.args.site c.args.place all (sources_rule c.args.site) (rules_1 c.args.packed c.args.site (drop c.args.place all)) c.args.place _ (pe_1 c.args.packed c.args.site c.args.place all) p c.in_err-first.ensures

pub returns-in_err-second : goal.returns-in_err-second
returns-in_err-second c =
    let p = err_from_is_err_and c.from_residual-in_err-second.result c.from_residual-in_err-second.ensures.1 in
    let all = words_of_bytes c.args.bytes.now in
    pe_refused c.from_residual-in_err-second.result _ c.args.packed c.args.site c.args.place all (sources_rule c.args.site) (choice_rule (slice_index (drop c.args.place all) 1) ∷ rules_2 c.args.packed c.args.site (drop c.args.place all)) (c.args.place + 1) _ (pe_2 c.args.packed c.args.site c.args.place c.in_ok-first.first all c.in_ok-first.ensures) p c.in_err-second.ensures

pub returns-in_err-third : goal.returns-in_err-third
returns-in_err-third c =
    let p = err_from_is_err_and c.from_residual-in_err-third.result c.from_residual-in_err-third.ensures.1 in
    let all = words_of_bytes c.args.bytes.now in
    pe_refused c.from_residual-in_err-third.result _ c.args.packed c.args.site c.args.place all (choice_rule c.in_ok-second.second) (rules_2 c.args.packed c.args.site (drop c.args.place all)) (c.args.place + 2) _ (pe_3 c.args.packed c.args.site c.args.place c.in_ok-first.first c.in_ok-second.second all c.in_ok-first.ensures c.in_ok-second.ensures) p c.in_err-third.ensures

pub returns-in_err-fourth : goal.returns-in_err-fourth
returns-in_err-fourth c =
    let p = err_from_is_err_and c.from_residual-in_err-fourth.result c.from_residual-in_err-fourth.ensures.1 in
    let all = words_of_bytes c.args.bytes.now in
    pe_refused c.from_residual-in_err-fourth.result _ c.args.packed c.args.site c.args.place all (last_rule c.args.packed c.args.site c.in_ok-first.first c.in_ok-second.second c.in_ok-third.third) [] (c.args.place + 3) _ (pe_4 c.args.packed c.args.site c.args.place c.in_ok-first.first c.in_ok-second.second c.in_ok-third.third all c.in_ok-first.ensures c.in_ok-second.ensures c.in_ok-third.ensures) p c.in_err-fourth.ensures

pub returns : goal.returns
returns c =
    rw c.pe_from.ensures (pe_taken c.args.packed c.args.site c.args.place c.in_ok-first.first c.in_ok-second.second c.in_ok-third.third c.in_ok-fourth.fourth (words_of_bytes c.args.bytes.now) c.in_ok-first.ensures c.in_ok-second.ensures c.in_ok-third.ensures c.in_ok-fourth.ensures)
