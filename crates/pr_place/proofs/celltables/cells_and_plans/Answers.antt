use Rattle.std.proofs.Common.{◌≡◌, ℕ, false, Bool, List, length, replicate, arith, ap, ap₂, sym, ◌∙◌, subst}
use Rattle.std.proofs.lemmas.Result.{IfOk-from_err}
use Rattle.std.proofs.lemmas.List.{length-replicate}
use Rattle.pr_net.specs.Whole.{shape_of}
use Rattle.pr_place.specs.Lists.{Holds, joined}
use Rattle.pr_place.specs.Numbering.{IsNumbered, needs_in, reads_from, marked_outputs}
use Rattle.pr_place.specs.Tables.{cells_by, reads_by}
use Rattle.pr_place.proofs.ListLemmas.{held_at}
use Rattle.pr_place.proofs.MarkLemmas.{outputs_long}
use Rattle.pr_place.proofs.Moves.{moved2, below_moved}
use Rattle.pr_place.proofs.NumberLemmas.{few_cells}
use Rattle.pr_place.proofs.TableLemmas.{ops_are, needs_held, uses_are, reads_inside}
use Rattle.pr_place.proofs.celltables.cells_and_plans.Goals as goal

pub number_cells-requires : goal.number_cells-requires
number_cells-requires g c =
    let made = c.in_ok-unmarked.unmarked in
    (few_cells c.deref.result.now c.deref-2.result.now c.count_cells.result (c.deref.ensures.value ∙ sym c.deref-2.ensures.value) c.count_cells.ensures (omega (arith, c.in_ok-unmarked.ensures.len, made.ok, made.small))).0

pub kept-kept-requires-clause-none : goal.kept-kept-requires-clause-none
kept-kept-requires-clause-none g c =
    let made = c.in_ok-unmarked.unmarked in
    let all = (few_cells c.deref.result.now c.deref-2.result.now c.count_cells.result (c.deref.ensures.value ∙ sym c.deref-2.ensures.value) c.count_cells.ensures (omega (arith, c.in_ok-unmarked.ensures.len, made.ok, made.small))).1 in
    c.in_ok-unmarked.ensures.items_if_clones_equal (λ y h. h) ∙ ap (λ (k : ℕ). replicate k false) (all ∙ sym c.in_ok-numbering.ensures.cells_is)

pub uses-requires : goal.uses-requires
uses-requires g c =
    let net = shape_of c.args.net.now in
    let first = c.in_ok-numbering.numbering.first.items in
    let count = c.in_ok-numbering.numbering.cells in
    let numbered : IsNumbered net.units first count = subst (λ us. IsNumbered us first count) c.deref-2.ensures.value c.in_ok-numbering.ensures in
    let long : length c.deref-4.result.now ≡ count = ap length c.deref-4.ensures.value ∙ c.in_ok-owner.ensures.long in
    below_moved _ _ (length c.deref-4.result.now) count (c.deref-5.ensures.value ∙ c.in_ok-reads.ensures.all) (sym long)
    (reads_inside g.row.N net c.deref-3.result.now c.deref-4.result.now c.requires (moved2 (λ (f : List ℕ) (k : ℕ). IsNumbered net.units f k) _ _ _ _ c.deref-3.ensures.value long numbered))

pub needs_of-requires-clause-kept : goal.needs_of-requires-clause-kept
needs_of-requires-clause-kept g c =
    let net = shape_of c.args.net.now in
    let first = c.in_ok-numbering.numbering.first.items in
    let count = c.in_ok-numbering.numbering.cells in
    below_moved _ _ count _ c.deref-8.ensures.value (ap length (c.deref-6.ensures.value ∙ c.kept-kept.ensures) ∙ outputs_long first _ net.outputs ∙ length-replicate count _) c.in_ok-cells.ensures.below

pub returns-clause-cells : goal.returns-clause-cells
returns-clause-cells g c =
    let net = shape_of c.args.net.now in
    let first = c.in_ok-numbering.numbering.first.items in
    let owner = c.in_ok-owner.owner.items in
    let count = c.in_ok-numbering.numbering.cells in
    let numbered : IsNumbered net.units first count = subst (λ us. IsNumbered us first count) c.deref-2.ensures.value c.in_ok-numbering.ensures in
    let long : length owner ≡ count = c.in_ok-owner.ensures.long in
    let all = c.in_ok-reads.ensures.all ∙ ap₂ (λ (f o : List ℕ). joined (reads_from net.units f o 0 net.groups)) c.deref-3.ensures.value c.deref-4.ensures.value in
    record {
      numbered = subst (IsNumbered net.units first) (sym long) numbered;
      owner = c.in_ok-owner.ensures.owner;
      kept = c.kept-kept.ensures ∙ ap (λ (k : ℕ). marked_outputs first (replicate k false) net.outputs) (sym long);
      uses_long = c.in_ok-uses.ensures.long ∙ sym long;
      uses = uses_are net first owner c.deref-5.result.now c.in_ok-uses.uses.items (c.deref-5.ensures.value ∙ all) c.in_ok-uses.ensures.uses;
    }

pub returns-clause-plans : goal.returns-clause-plans
returns-clause-plans g c =
    let net = shape_of c.args.net.now in
    let first = c.in_ok-numbering.numbering.first.items in
    let owner = c.in_ok-owner.owner.items in
    let kept = c.kept-kept.result.items in
    let uses = c.in_ok-uses.uses.items in
    let cells = c.in_ok-cells.cells in
    let reads = c.in_ok-reads.reads in
    let n = length net.groups in
    let long = c.in_ok-cells.ensures.cells.long in
    let needs : c.in_ok-needs.needs.items ≡ needs_in kept uses cells.items.items = c.in_ok-needs.ensures ∙ ap₂ (λ (k : List Bool) (u : List ℕ). needs_in k u c.deref-8.result.now) c.deref-6.ensures.value c.deref-7.ensures.value ∙ ap (needs_in kept uses) c.deref-8.ensures.value in
    let held : Holds (reads_by net first owner) n reads.starts.items reads.items.items = subst (λ (f : List ℕ). Holds (reads_by net f owner) n reads.starts.items reads.items.items) c.deref-3.ensures.value
    (subst (λ (o : List ℕ). Holds (reads_by net c.deref-3.result.now o) n reads.starts.items reads.items.items) c.deref-4.ensures.value c.in_ok-reads.ensures.reads) in
    let ops = ops_are net first owner reads.starts.items reads.items.items held in
    record {
      long = omega (arith, long);
      cells = λ k l. held_at (cells_by net first) n cells.starts.items cells.items.items k c.in_ok-cells.ensures.cells l;
      needs = λ k l. needs_held net first uses cells.starts.items cells.items.items kept c.in_ok-needs.needs.items k c.in_ok-cells.ensures.cells needs l;
      reads = ops;
      all = c.in_ok-reads.ensures.all ∙ ap₂ (λ (f o : List ℕ). joined (reads_from net.units f o 0 net.groups)) c.deref-3.ensures.value c.deref-4.ensures.value ∙ ap joined (sym ops);
    }

pub returns-in_err-numbering : goal.returns-in_err-numbering
returns-in_err-numbering g c = let h = c.from_residual-in_err-numbering.ensures.0 in record { cells = IfOk-from_err _ _ h; plans = IfOk-from_err _ _ h }

pub returns-in_err-cells : goal.returns-in_err-cells
returns-in_err-cells g c = let h = c.from_residual-in_err-cells.ensures.0 in record { cells = IfOk-from_err _ _ h; plans = IfOk-from_err _ _ h }

pub returns-in_err-owner : goal.returns-in_err-owner
returns-in_err-owner g c = let h = c.from_residual-in_err-owner.ensures.0 in record { cells = IfOk-from_err _ _ h; plans = IfOk-from_err _ _ h }

pub returns-in_err-unmarked : goal.returns-in_err-unmarked
returns-in_err-unmarked g c = let h = c.from_residual.ensures.0 in record { cells = IfOk-from_err _ _ h; plans = IfOk-from_err _ _ h }

pub returns-in_err-reads : goal.returns-in_err-reads
returns-in_err-reads g c = let h = c.from_residual-in_err-reads.ensures.0 in record { cells = IfOk-from_err _ _ h; plans = IfOk-from_err _ _ h }

pub returns-in_err-uses : goal.returns-in_err-uses
returns-in_err-uses g c = let h = c.from_residual-in_err-uses.ensures.0 in record { cells = IfOk-from_err _ _ h; plans = IfOk-from_err _ _ h }

pub returns-in_err-needs : goal.returns-in_err-needs
returns-in_err-needs g c = let h = c.from_residual-in_err-needs.ensures.0 in record { cells = IfOk-from_err _ _ h; plans = IfOk-from_err _ _ h }
