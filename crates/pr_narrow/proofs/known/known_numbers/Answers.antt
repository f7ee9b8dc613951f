use Rattle.std.proofs.Common.{◌≡◌, ◌+◌, [], ◌∷◌, ℕ, Option, List, length, arith, length-append, refl, sym, ◌∙◌, ap, subst, drop, get_or}
use Rattle.pr_flat.specs.Shape.{equation_shape, shapes_of}
use Rattle.pr_narrow.specs.Known.{known_number, known_after, known_of}
use Rattle.pr_narrow.specs.Passes.{HaveBits}
use Rattle.pr_width.proofs.SolverLemmas.{shape_at, lawful_at}
use Rattle.pr_narrow.proofs.ServeLemmas.{shapes_count}
use Rattle.pr_narrow.proofs.BodyLemmas.{shapes_length, shapes_drop, known_step, bits_more, wide_of, steady_taken}
use Rattle.pr_narrow.proofs.known.known_numbers.Goals as goal

pub known_number-number-requires-clause-least : goal.known_number-number-requires-clause-least
known_number-number-requires-clause-least c = (wide_of (shapes_of c.args.flat.now.equations.items) c.args.flat.now.outputs.items c.args.widths.now c.args.flat.now.lawful c.requires c.loop-i.i (omega (arith, c.requires.count, shapes_length c.args.flat.now.equations.items, c.args.flat.now.equations.ok.0, c.loop-i-test.true, c.len-i-end.ensures))).0

pub known_number-number-requires-clause-most : goal.known_number-number-requires-clause-most
known_number-number-requires-clause-most c = (wide_of (shapes_of c.args.flat.now.equations.items) c.args.flat.now.outputs.items c.args.widths.now c.args.flat.now.lawful c.requires c.loop-i.i (omega (arith, c.requires.count, shapes_length c.args.flat.now.equations.items, c.args.flat.now.equations.ok.0, c.loop-i-test.true, c.len-i-end.ensures))).1

pub known_number-number-requires-clause-args : goal.known_number-number-requires-clause-args
known_number-number-requires-clause-args c = let lawful = (lawful_at c.args.flat.now.equations.items c.args.flat.now.outputs.items c.loop-i.i (length c.args.widths.now) c.index.result.now c.args.flat.now.lawful (shapes_count c.args.flat.now.equations.items (length c.args.widths.now) (omega (arith, c.requires.count, shapes_length c.args.flat.now.equations.items))) (omega (arith, c.args.flat.now.equations.ok.0, c.loop-i-test.true, c.len-i-end.ensures)) c.index.ensures) in omega (arith, lawful.args, c.index.result.now.args.ok.0)

pub known_number-number-requires-clause-kinds : goal.known_number-number-requires-clause-kinds
known_number-number-requires-clause-kinds c = let lawful = (lawful_at c.args.flat.now.equations.items c.args.flat.now.outputs.items c.loop-i.i (length c.args.widths.now) c.index.result.now c.args.flat.now.lawful (shapes_count c.args.flat.now.equations.items (length c.args.widths.now) (omega (arith, c.requires.count, shapes_length c.args.flat.now.equations.items))) (omega (arith, c.args.flat.now.equations.ok.0, c.loop-i-test.true, c.len-i-end.ensures)) c.index.ensures) in omega (arith, lawful.kinds, c.index.result.now.kinds.ok.0)

pub known_number-number-requires-clause-within : goal.known_number-number-requires-clause-within
known_number-number-requires-clause-within c = (lawful_at c.args.flat.now.equations.items c.args.flat.now.outputs.items c.loop-i.i (length c.args.widths.now) c.index.result.now c.args.flat.now.lawful (shapes_count c.args.flat.now.equations.items (length c.args.widths.now) (omega (arith, c.requires.count, shapes_length c.args.flat.now.equations.items))) (omega (arith, c.args.flat.now.equations.ok.0, c.loop-i-test.true, c.len-i-end.ensures)) c.index.ensures).within

pub known_number-number-requires-clause-takes : goal.known_number-number-requires-clause-takes
known_number-number-requires-clause-takes c = steady_taken (shapes_of c.args.flat.now.equations.items) c.args.widths.now c.loop-i.i (equation_shape c.index.result.now) c.requires (shape_at c.args.flat.now.equations.items c.loop-i.i c.index.result.now (omega (arith, c.args.flat.now.equations.ok.0, c.loop-i-test.true, c.len-i-end.ensures)) c.index.ensures)

pub known_number-number-requires-clause-wide : goal.known_number-number-requires-clause-wide
known_number-number-requires-clause-wide c = wide_of (shapes_of c.args.flat.now.equations.items) c.args.flat.now.outputs.items c.args.widths.now c.args.flat.now.lawful c.requires

pub loop-i-preserved : goal.loop-i-preserved
loop-i-preserved c =
    let old = c.loop-i.known.items in
    let o = c.known_number-number.result in
    let pushed = c.in_ok-push.ensures.items in
    let is : o ≡ known_number c.args.widths.now old (get_or c.args.widths.now c.loop-i.i 0) (equation_shape c.index.result.now) = c.known_number-number.ensures ∙ ap (λ (ks : List (Option ℕ)). known_number c.args.widths.now ks (get_or c.args.widths.now c.loop-i.i 0) (equation_shape c.index.result.now)) c.deref.ensures.value in
    let P : List (Option ℕ) → Type 0 = λ ks. known_after c.args.widths.now ks (drop (c.loop-i.i + 1) (shapes_of c.args.flat.now.equations.items)) ≡ known_of (shapes_of c.args.flat.now.equations.items) c.args.widths.now in
    let Q : List (Option ℕ) → Type 0 = λ ks. HaveBits c.args.widths.now ks in
    let long = ap (λ (ks : List (Option ℕ)). length ks) pushed in
    record {
      count = omega (arith, long, length-append old (o ∷ []), c.loop-i.invariant.count);
      bits = subst Q (sym pushed) (bits_more c.args.widths.now old c.loop-i.i (get_or c.args.widths.now c.loop-i.i 0) (equation_shape c.index.result.now) o c.loop-i.invariant.count refl is c.loop-i.invariant.bits);
      rest = subst P (sym pushed) (known_step (shapes_of c.args.flat.now.equations.items) c.args.widths.now old c.loop-i.i (get_or c.args.widths.now c.loop-i.i 0) (equation_shape c.index.result.now) o c.loop-i.invariant.count refl (shapes_drop c.args.flat.now.equations.items c.loop-i.i c.index.result.now (omega (arith, c.args.flat.now.equations.ok.0, c.loop-i-test.true, c.len-i-end.ensures)) c.index.ensures) is c.loop-i.invariant.rest);
    }
