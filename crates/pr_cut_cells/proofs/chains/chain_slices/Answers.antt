use Rattle.std.proofs.Common.{arith}
use Rattle.pr_cut_units.proofs.PlaceLemmas.{places_next}
use Rattle.pr_cut_cells.proofs.chains.chain_slices.Goals as goal

pub loop-cell-preserved : goal.loop-cell-preserved
loop-cell-preserved c =
    let l = c.loop-cell in
    let p = l.place in
    let n = c.next_place-place in
    record {
      whole = rw c.in_ok-push.ensures.items (places_next c.args.style p.unit p.room p.cell n.result.unit n.result.room n.result.cell l.cell-index c.args.cells.now l.slices.items _ c.next_slice.result c.loop-cell-test.true n.ensures.places c.next_slice.ensures l.invariant.whole);
      short = n.ensures.short;
      grows = omega (arith, n.ensures.near, l.invariant.grows);
    }
