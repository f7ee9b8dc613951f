use Rattle.std.proofs.Common.{◌≡◌, ℕ, ◌∙◌, ◌+◌, ap, sym, arith, List, [], ◌∷◌, ◌++◌, length, append_assoc, length-append}
use Rattle.std.proofs.lemmas.Result.{IfOk-from_err}
use Rattle.pr_base.specs.Numbers.{slices_of}
use Rattle.pr_net.specs.declared.cells.Cell.{Cell}
use Rattle.pr_cut_units.specs.Parts.{each}
use Rattle.pr_cut_units.specs.States.{hold_cell, later_cell}
use Rattle.pr_cut_units.proofs.EachLemmas.{each_more}
use Rattle.pr_cut_ops.proofs.states.hold_units.Goals as goal

pub loop-j-preserved : goal.loop-j-preserved
loop-j-preserved c =
    let l = c.loop-j in
    let us = c.args.units.now.items in
    let later : ℕ → List Cell = λ j. each (slices_of c.args.w) (later_cell c.args.init (length us + j)) in
    let head : List Cell = each (slices_of c.args.w) (hold_cell c.args.w c.args.init c.args.x.now) in
    let pushed : c.push_later.new.units.items ≡ l.units.items ++ each (slices_of c.args.w) (later_cell c.args.init (c.len-first.result + l.j)) ∷ [] = c.in_ok-push_later.ensures.units in
    let named : each (slices_of c.args.w) (later_cell c.args.init (c.len-first.result + l.j)) ≡ later l.j = ap (λ (k : ℕ). each (slices_of c.args.w) (later_cell c.args.init (k + l.j))) l.invariant.first in
    record {
      count = ap length pushed ∙ length-append l.units.items _ ∙ omega (arith, l.invariant.count);
      first = l.invariant.first;
      units = pushed ∙ ap (λ (k : List Cell). l.units.items ++ k ∷ []) named ∙ ap (λ (xs : List (List Cell)). xs ++ later l.j ∷ []) l.invariant.units
          ∙ append_assoc us (head ∷ each l.j later) (later l.j ∷ []) ∙ ap (λ (xs : List (List Cell)). us ++ head ∷ xs) (sym (each_more later l.j));
    }

pub returns-in_err-cells : goal.returns-in_err-cells
returns-in_err-cells c = let h = c.from_residual.ensures.0 in record { units = IfOk-from_err _ _ h; slices = IfOk-from_err _ _ h }

pub returns-in_err-slices : goal.returns-in_err-slices
returns-in_err-slices c = let h = c.from_residual-in_err-slices.ensures.0 in record { units = IfOk-from_err _ _ h; slices = IfOk-from_err _ _ h }

pub returns-in_err-push_later : goal.returns-in_err-push_later
returns-in_err-push_later c = let h = c.from_residual-in_err-push_later.ensures.0 in record { units = IfOk-from_err _ _ h; slices = IfOk-from_err _ _ h }
