use Rattle.std.proofs.Common.{◌≡◌, ◌∙◌, ap, ◌-◌, ◌+◌, ◌++◌, List, length, subst, arith}
use Rattle.std.proofs.lemmas.Result.{IfOk-from_err, err_from_is_err_and}
use Rattle.pr_cut_cells.specs.Prefixes.{IsPrefix}
use Rattle.pr_cut_cells.proofs.PrefixLemmas.{prefix_turn}
use Rattle.pr_net.specs.declared.cells.Slice.{Slice}
use Rattle.pr_cut_units.specs.Shifts.{shift_row}
use Rattle.pr_cut_units.proofs.TurnLemmas.{turn_units, turn_slices}
use Rattle.pr_cutmul.proofs.shifts.shifted_by.Goals as goal

pub loop-j-preserved : goal.loop-j-preserved
loop-j-preserved c =
    let l = c.loop-j in
    let e = c.in_ok-before-2.ensures in
    let step = shift_row c.args.shift.now.left c.args.shift.now.w c.args.shift.now.by.now in
    let n = c.args.shift.now.bits - (l.j + 1) in
    let new : c.shift_row.new.units.items ≡ l.units.items ++ (step l.j l.before.items (length l.units.items)).units = e.units ∙ ap (λ (x : List Slice). l.units.items ++ (step l.j x (length l.units.items)).units) c.deref.ensures.value in
    let now : c.in_ok-before-2.before.items ≡ (step l.j l.before.items (length l.units.items)).slices = e.slices ∙ ap (λ (x : List Slice). (step l.j x (length l.units.items)).slices) c.deref.ensures.value in
    record {
      kept = omega (arith, e.kept, l.invariant.kept);
      grows = omega (arith, e.grows, l.invariant.grows);
      units = turn_units step l.j (c.args.shift.now.bits - l.j) n l.before.items c.in_ok-before-2.before.items l.units.items c.shift_row.new.units.items _ (omega (arith, c.loop-j-test.true)) new now l.invariant.units;
      slices = turn_slices step l.j (c.args.shift.now.bits - l.j) n l.before.items c.in_ok-before-2.before.items _ l.units.items c.shift_row.new.units.items (omega (arith, c.loop-j-test.true)) new now l.invariant.slices;
    }

pub returns-in_err-before-2-clause-part : goal.returns-in_err-before-2-clause-part
returns-in_err-before-2-clause-part c =
    let l = c.loop-j in
    let step = shift_row c.args.shift.now.left c.args.shift.now.w c.args.shift.now.by.now in
    let front : IsPrefix c.shift_row.new.units.items (l.units.items ++ (step l.j l.before.items (length l.units.items)).units) = subst (λ (x : List Slice). IsPrefix c.shift_row.new.units.items (l.units.items ++ (step l.j x (length l.units.items)).units)) c.deref.ensures.value c.in_err-before-2.ensures.part in
    let p = err_from_is_err_and c.from_residual-in_err-before-2.result c.from_residual-in_err-before-2.ensures.1 in
    rw (p.1) (prefix_turn step l.j (c.args.shift.now.bits - l.j) (c.args.shift.now.bits - (l.j + 1)) l.before.items l.units.items c.shift_row.new.units.items _ (omega (arith, c.loop-j-test.true)) front l.invariant.units)

pub returns-in_err-before-clause-grows : goal.returns-in_err-before-clause-grows
returns-in_err-before-clause-grows c = IfOk-from_err _ _ c.from_residual.ensures.0

pub returns-in_err-before-clause-units : goal.returns-in_err-before-clause-units
returns-in_err-before-clause-units c = IfOk-from_err _ _ c.from_residual.ensures.0

pub returns-in_err-before-clause-slices : goal.returns-in_err-before-clause-slices
returns-in_err-before-clause-slices c = IfOk-from_err _ _ c.from_residual.ensures.0

pub returns-in_err-before-2-clause-grows : goal.returns-in_err-before-2-clause-grows
returns-in_err-before-2-clause-grows c = IfOk-from_err _ _ c.from_residual-in_err-before-2.ensures.0

pub returns-in_err-before-2-clause-units : goal.returns-in_err-before-2-clause-units
returns-in_err-before-2-clause-units c = IfOk-from_err _ _ c.from_residual-in_err-before-2.ensures.0

pub returns-in_err-before-2-clause-slices : goal.returns-in_err-before-2-clause-slices
returns-in_err-before-2-clause-slices c = IfOk-from_err _ _ c.from_residual-in_err-before-2.ensures.0
