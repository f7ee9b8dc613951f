use Rattle.std.proofs.Common.{◌≡◌, ◌∙◌, ap, ◌-◌, ◌+◌, ◌++◌, List, length, subst, arith, min}
use Rattle.std.proofs.lemmas.Result.{err_from_is_err_and}
use Rattle.pr_cut_cells.specs.Prefixes.{IsPrefix}
use Rattle.pr_cut_cells.proofs.PrefixLemmas.{prefix_turn}
use Rattle.pr_net.specs.declared.cells.Slice.{Slice}
use Rattle.pr_cut_units.specs.Products.{product_row}
use Rattle.pr_cut_units.proofs.TurnLemmas.{turn_units, turn_slices}
use Rattle.pr_cutmul.proofs.products.product.Goals as goal

pub loop-j-preserved : goal.loop-j-preserved
loop-j-preserved c =
    let l = c.loop-j in
    let e = c.in_ok-before.ensures in
    let step = product_row c.args.e c.args.factors.now.wa c.args.factors.now.a.now c.args.factors.now.b.now in
    let all = min c.args.factors.now.wb c.args.e in
    let n = all - (l.j + 1) in
    let new : c.product_row.new.units.items ≡ l.units.items ++ (step l.j l.before.items (length l.units.items)).units = e.units ∙ ap (λ (x : List Slice). l.units.items ++ (step l.j x (length l.units.items)).units) c.deref.ensures.value in
    let now : c.in_ok-before.before.items ≡ (step l.j l.before.items (length l.units.items)).slices = e.slices ∙ ap (λ (x : List Slice). (step l.j x (length l.units.items)).slices) c.deref.ensures.value in
    record {
      kept = omega (arith, e.kept, l.invariant.kept);
      grows = omega (arith, e.grows, l.invariant.grows);
      units = turn_units step l.j (all - l.j) n l.before.items c.in_ok-before.before.items l.units.items c.product_row.new.units.items _ (omega (arith, c.loop-j-test.true)) new now l.invariant.units;
      slices = turn_slices step l.j (all - l.j) n l.before.items c.in_ok-before.before.items _ l.units.items c.product_row.new.units.items (omega (arith, c.loop-j-test.true)) new now l.invariant.slices;
    }

pub returns-in_err-before-clause-part : goal.returns-in_err-before-clause-part
returns-in_err-before-clause-part c =
    let l = c.loop-j in
    let step = product_row c.args.e c.args.factors.now.wa c.args.factors.now.a.now c.args.factors.now.b.now in
    let all = min c.args.factors.now.wb c.args.e in
    let front : IsPrefix c.product_row.new.units.items (l.units.items ++ (step l.j l.before.items (length l.units.items)).units) = subst (λ (x : List Slice). IsPrefix c.product_row.new.units.items (l.units.items ++ (step l.j x (length l.units.items)).units)) c.deref.ensures.value c.in_err-before.ensures.part in
    let p = err_from_is_err_and c.from_residual.result c.from_residual.ensures.1 in
    rw (p.1) (prefix_turn step l.j (all - l.j) (all - (l.j + 1)) l.before.items l.units.items c.product_row.new.units.items _ (omega (arith, c.loop-j-test.true)) front l.invariant.units)
