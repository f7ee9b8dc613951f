use Rattle.std.proofs.Common.{◌≡◌, ◌<◌, ℕ, ◌+◌, ◌-◌, ◌&&◌, ◌||◌, Bool, false, List, length, get_or, arith, sym, ap, ◌∙◌}
use Rattle.std.specs.List.{slice_get, list_any}
use Rattle.pr_flat.specs.declared.equations.Operand.{Operand}
use Rattle.pr_flat.specs.Facts.{reads_equation}
use Rattle.pr_flat.specs.Shape.{equation_shape, shapes_of}
use Rattle.pr_width.proofs.SolverLemmas.{shape_at}
use Rattle.pr_cut_plan.proofs.ReachedLemmas.{marks_init, marks_next, marks_last, shapes_within}
use Rattle.pr_cut_plan.proofs.reached.mark_reached.Goals as goal

pub loop-done-init : goal.loop-done-init
loop-done-init c = record {
  long = c.mark.auto.flags;
  marks = marks_init (shapes_of c.args.flat.now.equations.items) c.args.operands.now c.args.first (length c.args.flags.now) c.args.flags.now c.mark.new.flags c.requires.blank c.requires.later c.mark.ensures;
}

pub loop-done-preserved : goal.loop-done-preserved
loop-done-preserved c =
    let same = c.loop-done.invariant.long in
    let len : ℕ = length c.args.flags.now in
    let long = c.mark.auto.flags in
    let last : ℕ = length c.loop-done.flags - 1 - c.loop-done.done in
    let at : last ≡ len - 1 - c.loop-done.done = omega (arith, same) in
    let low : c.loop-done.done < len = omega (arith, same, long) in
    let within : c.args.first + last < length c.args.flat.now.equations.items = omega (arith, same, low, c.args.flat.now.equations.ok.0) in
    let es = c.args.flat.now.equations.items in
    let b : Bool = get_or c.loop-done.flags last false in
    record {
      long = c.mark_where.auto.flags ∙ same;
      marks = marks_next (shapes_of es) c.args.operands.now c.args.first len c.loop-done.done (equation_shape c.index.result.now) b c.loop-done.flags c.mark_where.new.flags low
          (ap (λ (k : ℕ). slice_get (shapes_of es) (c.args.first + k)) (sym at) ∙ shape_at es (c.args.first + last) c.index.result.now within c.index.ensures)
          (ap (λ (k : ℕ). get_or c.loop-done.flags k false) at)
          c.loop-done.invariant.marks
          (λ j l. c.mark_where.ensures j (omega (arith, l, same)) ∙ ap (λ (xs : List Operand). b && list_any (reads_equation (c.args.first + j)) xs || get_or c.loop-done.flags j false) c.deref.ensures.value);
    }

pub returns : goal.returns
returns c =
    let long = c.mark.auto.flags in
    marks_last (shapes_of c.args.flat.now.equations.items) c.args.flat.now.outputs.items c.args.operands.now c.args.first (length c.args.flags.now) c.loop-done.done c.loop-done.flags c.args.flat.now.lawful
    (shapes_within c.args.flat.now.equations.items (c.args.first + length c.args.flags.now) (omega (arith, c.args.flat.now.equations.ok.0))) (omega (arith, long)) (omega (arith, long)) c.loop-done.invariant.marks
