use Rattle.std.proofs.Common.{◌≡◌, ◌+◌, [], ◌∷◌, ℕ, List, length, arith, length-append, refl, sym, ◌∙◌, ap, subst, drop, get_or}
use Rattle.pr_flat.specs.Shape.{equation_shape, shapes_of}
use Rattle.pr_narrow.specs.Narrowed.{new_width, widths_after, new_widths}
use Rattle.pr_width.proofs.SolverLemmas.{shape_at, lawful_at}
use Rattle.pr_narrow.proofs.ServeLemmas.{shapes_count}
use Rattle.pr_narrow.proofs.BodyLemmas.{shapes_drop, widths_step, first_before}
use Rattle.pr_narrow.proofs.cutting.new_widths.Goals as goal

pub new_width-width-requires-clause-args : goal.new_width-width-requires-clause-args
new_width-width-requires-clause-args c = let lawful = (lawful_at c.args.flat.now.equations.items c.args.flat.now.outputs.items c.loop-i.i (length c.args.demand.now) c.index.result.now c.args.flat.now.lawful (shapes_count c.args.flat.now.equations.items (length c.args.demand.now) (omega (arith, c.requires.demand, c.args.flat.now.equations.ok.0))) (omega (arith, c.args.flat.now.equations.ok.0, c.loop-i-test.true, c.len-i-end.ensures)) c.index.ensures) in omega (arith, lawful.args, c.index.result.now.args.ok.0)

pub new_width-width-requires-clause-demand : goal.new_width-width-requires-clause-demand
new_width-width-requires-clause-demand c = (lawful_at c.args.flat.now.equations.items c.args.flat.now.outputs.items c.loop-i.i (length c.args.demand.now) c.index.result.now c.args.flat.now.lawful (shapes_count c.args.flat.now.equations.items (length c.args.demand.now) (omega (arith, c.requires.demand, c.args.flat.now.equations.ok.0))) (omega (arith, c.args.flat.now.equations.ok.0, c.loop-i-test.true, c.len-i-end.ensures)) c.index.ensures).within

pub new_width-width-requires-clause-news : goal.new_width-width-requires-clause-news
new_width-width-requires-clause-news c = λ j there.
    let before = first_before (shapes_of c.args.flat.now.equations.items) c.loop-i.i j c.index.result.now.args.items (c.args.flat.now.lawful.operands c.loop-i.i (equation_shape c.index.result.now) (shape_at c.args.flat.now.equations.items c.loop-i.i c.index.result.now (omega (arith, c.args.flat.now.equations.ok.0, c.loop-i-test.true, c.len-i-end.ensures)) c.index.ensures)) there in
    let long = ap (λ (ws : List ℕ). length ws) c.deref.ensures.value in
    omega (arith, before, long, c.loop-i.invariant.count)

pub loop-i-preserved : goal.loop-i-preserved
loop-i-preserved c =
    let old = c.loop-i.news.items in
    let n = c.new_width-width.result in
    let pushed = c.in_ok-push.ensures.items in
    let is : n ≡ new_width c.args.demand.now old (get_or c.args.widths.now c.loop-i.i 0) (get_or c.args.demand.now c.loop-i.i 0) (equation_shape c.index.result.now) = c.new_width-width.ensures ∙ ap (λ (ws : List ℕ). new_width c.args.demand.now ws (get_or c.args.widths.now c.loop-i.i 0) (get_or c.args.demand.now c.loop-i.i 0) (equation_shape c.index.result.now)) c.deref.ensures.value in
    let P : List ℕ → Type 0 = λ ws. widths_after c.args.widths.now c.args.demand.now ws (drop (c.loop-i.i + 1) (shapes_of c.args.flat.now.equations.items)) ≡ new_widths (shapes_of c.args.flat.now.equations.items) c.args.widths.now c.args.demand.now in
    let long = ap (λ (ws : List ℕ). length ws) pushed in
    record {
      count = omega (arith, long, length-append old (n ∷ []), c.loop-i.invariant.count);
      rest = subst P (sym pushed) (widths_step (shapes_of c.args.flat.now.equations.items) c.args.widths.now c.args.demand.now old c.loop-i.i (get_or c.args.widths.now c.loop-i.i 0) (get_or c.args.demand.now c.loop-i.i 0) n (equation_shape c.index.result.now) c.loop-i.invariant.count refl refl (shapes_drop c.args.flat.now.equations.items c.loop-i.i c.index.result.now (omega (arith, c.args.flat.now.equations.ok.0, c.loop-i-test.true, c.len-i-end.ensures)) c.index.ensures) is c.loop-i.invariant.rest);
    }
