use Rattle.std.proofs.Common.{◌≡◌, ◌+◌, ◌-◌, ◌%◌, ◌==◌, drop, arith, ap, refl, sym, ◌∙◌}
use Rattle.std.proofs.lemmas.Result.{err_from_is_err_and}
use Rattle.std.proofs.lemmas.List.{append-nil}
use Rattle.std.proofs.Math.Facts.{Fits-of_lt}
use Rattle.pr_code.specs.Reading.{words_of_bytes, column_of}
use Rattle.pr_code.proofs.BreakLemmas.{part_refused}
use Rattle.pr_code.proofs.ReadLemmas.{one_more_left, found_more}
use Rattle.pr_code.proofs.StageLemmas.{flags_step, column_refused, column_kept, column_found, column_next, column_few}
use Rattle.pr_code.proofs.stages.pes_at.Goals as goal

pub loop-init : goal.loop-init
loop-init c =
    let none : c.args.site.columns - 0 ≡ c.args.site.columns = omega arith in
    record { col = c.requires.col; place = omega arith; count = c.in_ok-pes.ensures.len; rules = rw none refl; found = rw (none, c.in_ok-pes.ensures.items) refl; next = rw none refl }

pub column_at-requires : goal.column_at-requires
column_at-requires c = omega (arith, c.loop.invariant.place, c.requires.columns, c.requires.place, c.loop-test.true)

pub overflow_add-here : goal.overflow_add-here
overflow_add-here c = Fits-of_lt (omega (arith, c.loop.invariant.col, c.requires.columns, c.loop-test.true))

pub returns-in_err-pe : goal.returns-in_err-pe
returns-in_err-pe c =
    let p = err_from_is_err_and c.from_residual-in_err-pe.result c.from_residual-in_err-pe.ensures.1 in
    let n = one_more_left c.args.site.columns c.loop.counter c.loop-test.true in
    part_refused c.from_residual-in_err-pe.result _ _ _ _ _ p c.in_err-pe.ensures (column_refused c.args.packed c.loop.here (c.loop.left % 2 == 1) _ _ c.loop.at (drop c.loop.at (words_of_bytes c.args.bytes.now)) _ (flags_step _ _ c.loop.left n) c.loop.invariant.rules)

pub loop-preserved : goal.loop-preserved
loop-preserved c =
    let n = one_more_left c.args.site.columns c.loop.counter c.loop-test.true in
    let all = words_of_bytes c.args.bytes.now in
    let flag = c.loop.left % 2 == 1 in
    let e = flags_step _ _ c.loop.left n in
    let pe = c.in_ok-pe.ensures in
    let few = column_few flag in
    record {
      col = ap (λ k. k + 1) c.loop.invariant.col;
      place = omega (arith, c.loop.invariant.place, pe.1.1, few);
      count = omega (arith, c.in_ok-push.ensures.len, c.loop.invariant.count);
      rules = column_kept c.args.packed c.loop.here flag _ _ c.loop.at c.in_ok-pe.next all _ e pe.1.1 pe.0 c.loop.invariant.rules;
      found = rw (c.in_ok-push.ensures.items, pe.1.0) (found_more c.loop.pes.items _ _ _ (column_of flag (drop c.loop.at all)) (column_found flag _ _ c.loop.at c.in_ok-pe.next all e pe.1.1) c.loop.invariant.found);
      next = column_next flag _ _ c.loop.at c.in_ok-pe.next _ e pe.1.1 c.loop.invariant.next;
    }

pub returns : goal.returns
returns c =
    let none : c.args.site.columns - c.loop.counter ≡ 0 = omega (arith, c.loop-test.false) in
    let whole : c.loop.counter ≡ c.args.site.columns = omega (arith, c.loop-test.false, c.loop.auto.counter-end) in
    let next = rw none at c.loop.invariant.next in
    (sym (rw none at c.loop.invariant.rules), (sym (append-nil c.loop.pes.items) ∙ rw none at c.loop.invariant.found, c.loop.invariant.count ∙ whole, omega (arith, next), omega (arith, c.loop.invariant.place, whole)))
