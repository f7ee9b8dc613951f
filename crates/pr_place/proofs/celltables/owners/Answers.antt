use Rattle.std.proofs.Common.{◌≡◌, ◌<◌, ◌+◌, ℕ, List, length, get_or, drop, arith, ap, ap₂, sym, ◌∙◌, subst}
use Rattle.std.proofs.lemmas.Result.{IfOk-from_err}
use Rattle.std.specs.List.{All}
use Rattle.pr_net.specs.Whole.{shape_of}
use Rattle.pr_net.specs.Shape.{units_of}
use Rattle.pr_place.specs.Numbering.{group_numbers, owned_by}
use Rattle.pr_place.specs.Tables.{cells_by}
use Rattle.pr_place.proofs.ListLemmas.{held_at}
use Rattle.pr_place.proofs.Moves.{below_moved, whole_slice}
use Rattle.pr_place.proofs.NumberLemmas.{numbers_below}
use Rattle.pr_place.proofs.ReadLemmas.{can_number}
use Rattle.pr_place.proofs.OwnerLemmas.{owners_next, length-owned_by}
use Rattle.pr_place.proofs.celltables.owners.Goals as goal

pub of-requires : goal.of-requires
of-requires g c =
    let net = shape_of c.args.net.now in
    let l : c.loop-group.group < length net.groups = omega (arith, c.loop-group-test.true, c.len-group-end.ensures) in
    let long = c.requires.cells.long in
    omega (arith, l, long)

pub own-requires : goal.own-requires
own-requires g c =
    let net = shape_of c.args.net.now in
    let first = c.args.numbering.now.first.items in
    let group = c.loop-group.group in
    let l : group < length net.groups = omega (arith, c.loop-group-test.true, c.len-group-end.ensures) in
    let can = can_number g.row.N net first c.args.numbering.now.cells group c.requires.net c.requires.numbered l in
    let cells = c.args.cells.now in
    let numbers : c.of.result.now ≡ group_numbers net.units first (units_of net group) = c.of.ensures ∙ held_at (cells_by net first) (length net.groups) cells.starts.items cells.items.items group c.requires.cells l in
    below_moved _ _ c.args.numbering.now.cells _ numbers (ap length c.deref_mut.ensures.value ∙ c.loop-group.invariant.long) (numbers_below net.units first c.args.numbering.now.cells (units_of net group) c.requires.numbered can.there)

pub loop-group-preserved : goal.loop-group-preserved
loop-group-preserved g c =
    let net = shape_of c.args.net.now in
    let first = c.args.numbering.now.first.items in
    let count = c.args.numbering.now.cells in
    let group = c.loop-group.group in
    let l : group < length net.groups = omega (arith, c.loop-group-test.true, c.len-group-end.ensures) in
    let can = can_number g.row.N net first count group c.requires.net c.requires.numbered l in
    let cells = c.args.cells.now in
    let numbers : c.of.result.now ≡ group_numbers net.units first (units_of net group) = c.of.ensures ∙ held_at (cells_by net first) (length net.groups) cells.starts.items cells.items.items group c.requires.cells l in
    let now : c.own.new.owner ≡ owned_by group c.loop-group.owner.items (group_numbers net.units first (units_of net group)) = c.own.ensures ∙ ap₂ (λ (o ns : List ℕ). owned_by group o ns) c.deref_mut.ensures.value numbers in
    let long : length c.own.new.owner ≡ length c.loop-group.owner.items = ap length now ∙ length-owned_by group c.loop-group.owner.items (group_numbers net.units first (units_of net group)) in
    let same = whole_slice (drop (length c.own.new.owner) c.loop-group.owner.items) c.own.new.owner c.loop-group.owner.len (omega (arith, long, c.loop-group.owner.ok)) in
    record {
      long = ap length same ∙ long ∙ c.loop-group.invariant.long;
      owner = λ h u i cell lh. ap (λ (o : List ℕ). get_or o (get_or first u 0 + i) 0) (same ∙ now)
          ∙ owners_next g.row.N net first count group c.loop-group.owner.items c.requires.net c.requires.numbered l (subst (λ (n : ℕ). All (λ x. x < n) (group_numbers net.units first (units_of net group))) (sym c.loop-group.invariant.long) (numbers_below net.units first count (units_of net group) c.requires.numbered can.there))
          c.loop-group.invariant.owner h u i cell lh;
    }

pub returns-in_err-owner : goal.returns-in_err-owner
returns-in_err-owner g c = let h = c.from_residual.ensures.0 in record { long = IfOk-from_err _ _ h; owner = IfOk-from_err _ _ h }
