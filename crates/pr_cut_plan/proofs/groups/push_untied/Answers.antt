use Rattle.std.proofs.Common.{ℕ, ◌≡◌, ◌<◌, ◌≤◌, ◌++◌, Bool, List, [], ◌∷◌, length, get_or, ap₂, sym, subst, ◌∙◌, arith}
use Rattle.std.proofs.lemmas.Result.{IfOk-from_err}
use Rattle.std.specs.Bool.{if◌then◌else◌}
use Rattle.pr_net.specs.declared.cells.Cell.{Cell}
use Rattle.pr_cut_units.specs.Groups.{is_tied}
use Rattle.pr_cut_plan.specs.Parts.{AreMarked}
use Rattle.pr_cut_plan.proofs.GroupLemmas.{tied_upto, tied_next, marks_more, low_next}
use Rattle.pr_cut_plan.proofs.groups.push_untied.Goals as goal

pub loop-unit-preserved : goal.loop-unit-preserved
loop-unit-preserved c =
    let units = c.args.units.now in
    let holds = c.args.holds.now in
    let u = c.loop-unit.unit in
    let b = c.is_tied-is.result in
    let x = c.index-units-unit.result in
    let tied = c.loop-unit.tied.items in
    let marks = c.loop-unit.marks.items in
    let inv = c.loop-unit.invariant in
    let low : c.args.from ≤ u = c.loop-unit.auto.unit in
    let high : u < holds.first = omega (arith, c.first-unit-end.ensures) in
    let within : u < length units = omega (arith, c.requires.part.within, c.requires.part.some, high) in
    let marked : AreMarked c.args.from c.deref.result.now tied = subst (λ (ms : List Bool). AreMarked c.args.from ms tied) (sym c.deref.ensures.value) inv.marked in
    let is : b ≡ is_tied holds (tied_upto units holds u) (get_or units u x) = c.is_tied-is.ensures tied marked ∙ ap₂ (λ (g : List ℕ) (ks : List Cell). is_tied holds g ks) inv.tied c.index-units-unit.is in
    let items = c.in_ok-push.ensures.items in
    let now = c.in_ok-push_unit.ensures.tied in
    record {
      tied = now ∙ ap₂ (λ (t : Bool) (g : List ℕ). if t then g ++ u ∷ [] else g) is inv.tied ∙ sym (tied_next units holds u x within);
      long = omega (arith, inv.long, c.in_ok-push.ensures.len, low);
      marked = subst (λ (ms : List Bool). AreMarked c.args.from ms c.push_unit.new.tied.items) (sym items)
          (subst (λ (g : List ℕ). AreMarked c.args.from (marks ++ b ∷ []) g) (sym now) (marks_more c.args.from u marks tied b (omega (arith, inv.long, c.loop-unit.marks.ok.0)) low inv.marked));
      groups = low_next units holds c.args.from u x b c.args.groups.now.items c.loop-unit.groups.items c.push_unit.new.groups.items low high c.requires.part is inv.groups c.in_ok-push_unit.ensures.groups;
    }

pub returns-in_err-push : goal.returns-in_err-push
returns-in_err-push c = let h = c.from_residual.ensures.0 in record { tied = IfOk-from_err _ _ h; groups = IfOk-from_err _ _ h }

pub returns-in_err-push_unit : goal.returns-in_err-push_unit
returns-in_err-push_unit c = let h = c.from_residual-in_err-push_unit.ensures.0 in record { tied = IfOk-from_err _ _ h; groups = IfOk-from_err _ _ h }
