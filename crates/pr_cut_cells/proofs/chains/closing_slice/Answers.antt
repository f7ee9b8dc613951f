use Rattle.std.proofs.Common.{arith}
use Rattle.pr_cut_units.specs.declared.chains.Style.{Style}
use Rattle.pr_cut_units.proofs.PlaceLemmas.{place_next}
use Rattle.pr_cut_cells.proofs.chains.closing_slice.Goals as goal

pub loop-cell-preserved : goal.loop-cell-preserved
loop-cell-preserved c =
    let l = c.loop-cell in
    let p = l.place in
    let n = c.next_place-place in
    record {
      whole = place_next Style.ByBit p.unit p.room p.cell n.result.unit n.result.room n.result.cell l.cell-index c.args.cells.now _ c.loop-cell-test.true n.ensures.after l.invariant.whole;
      short = n.ensures.short;
      grows = omega (arith, n.ensures.near, l.invariant.grows);
    }
