use Rattle.std.proofs.Common.{◌≡◌, ◌<◌, ◌++◌, ℕ, List, [], ◌∷◌, length, arith, ap, ap₂, sym, ◌∙◌, subst}
use Rattle.std.proofs.lemmas.Result.{IfOk-from_err}
use Rattle.std.specs.List.{All}
use Rattle.std.proofs.lemmas.List.Elements.{All-append}
use Rattle.pr_net.specs.Whole.{shape_of}
use Rattle.pr_net.specs.Shape.{units_of}
use Rattle.pr_place.specs.Numbering.{CanNumber, group_numbers}
use Rattle.pr_place.specs.Tables.{cells_by}
use Rattle.pr_place.proofs.ListLemmas.{holds_more}
use Rattle.pr_place.proofs.Moves.{moved3, list_at}
use Rattle.pr_place.proofs.NumberLemmas.{numbers_below}
use Rattle.pr_place.proofs.ReadLemmas.{can_number}
use Rattle.pr_place.proofs.numbering.cell_lists.Goals as goal

pub list_cells-requires : goal.list_cells-requires
list_cells-requires g c =
    let net = shape_of c.args.net.now in
    let l : c.loop-group.group < length net.groups = omega (arith, c.loop-group-test.true, c.len-group-end.ensures) in
    moved3 CanNumber _ _ _ _ _ _ c.deref.ensures.value c.deref-in-loop-group.ensures.value (c.deref-in-loop-group-2.ensures.value ∙ c.members.view_is ∙ list_at net.groups c.loop-group.group _ l c.index-members.ensures)
    (can_number g.row.N net c.args.numbering.now.first.items c.args.numbering.now.cells c.loop-group.group c.requires.net c.requires.numbered l)

pub loop-group-preserved : goal.loop-group-preserved
loop-group-preserved g c =
    let net = shape_of c.args.net.now in
    let first = c.args.numbering.now.first.items in
    let count = c.args.numbering.now.cells in
    let group = c.loop-group.group in
    let items = c.loop-group.items.items in
    let starts = c.loop-group.starts.items in
    let more = c.list_cells.new.numbers.items in
    let l : group < length net.groups = omega (arith, c.loop-group-test.true, c.len-group-end.ensures) in
    let members = c.deref-in-loop-group-2.ensures.value ∙ c.members.view_is ∙ list_at net.groups group _ l c.index-members.ensures in
    let can = can_number g.row.N net first count group c.requires.net c.requires.numbered l in
    let numbers = ap (λ us. group_numbers us c.deref-in-loop-group.result.now c.deref-in-loop-group-2.result.now) c.deref.ensures.value
    ∙ ap₂ (λ (f us : List ℕ). group_numbers net.units f us) c.deref-in-loop-group.ensures.value members in
    let e : more ≡ items ++ group_numbers net.units first (units_of net group) = c.in_ok-list_cells.ensures ∙ ap (λ (xs : List ℕ). items ++ xs) numbers in
    let n : c.len-in-loop-group.result ≡ length more = omega (arith, c.len-in-loop-group.ensures, c.list_cells.new.numbers.ok) in
    let s : c.push-in-loop-group.new.self.items ≡ starts ++ length more ∷ [] = c.in_ok-push-2.ensures.items ∙ ap (λ (k : ℕ). starts ++ k ∷ []) n in
    record {
      cells = holds_more (cells_by net first) group starts c.push-in-loop-group.new.self.items items more c.loop-group.invariant.cells e s;
      below = subst (λ (xs : List ℕ). All (λ x. x < count) xs) (sym e) (All-append (λ (x : ℕ). x < count) items (group_numbers net.units first (units_of net group)) c.loop-group.invariant.below (numbers_below net.units first count (units_of net group) c.requires.numbered can.there));
    }

pub returns-in_err-starts : goal.returns-in_err-starts
returns-in_err-starts g c = let h = c.from_residual.ensures.0 in record { cells = IfOk-from_err _ _ h; below = IfOk-from_err _ _ h }

pub returns-in_err-items : goal.returns-in_err-items
returns-in_err-items g c = let h = c.from_residual-in_err-items.ensures.0 in record { cells = IfOk-from_err _ _ h; below = IfOk-from_err _ _ h }

pub returns-in_err-push : goal.returns-in_err-push
returns-in_err-push g c = let h = c.from_residual-in_err-push.ensures.0 in record { cells = IfOk-from_err _ _ h; below = IfOk-from_err _ _ h }

pub returns-in_err-list_cells : goal.returns-in_err-list_cells
returns-in_err-list_cells g c = let h = c.from_residual-in_err-list_cells.ensures.0 in record { cells = IfOk-from_err _ _ h; below = IfOk-from_err _ _ h }

pub returns-in_err-push-2 : goal.returns-in_err-push-2
returns-in_err-push-2 g c = let h = c.from_residual-in_err-push-2.ensures.0 in record { cells = IfOk-from_err _ _ h; below = IfOk-from_err _ _ h }
