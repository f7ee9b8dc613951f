use mir.Val.{bool_byte}
use Rattle.std.proofs.Common.{◌≡◌, ◌≤◌, ◌<◌, ℕ, Some, List, drop, length, take, ap, subst, sym, ◌∙◌, arith}
use Rattle.std.specs.List.{slice_get}
use Rattle.std.proofs.lemmas.List.{length-map, length-set, length-take-le}
use Rattle.std.proofs.lemmas.Option.{get_or_from_slice_get}
use Rattle.pr_flat.specs.Facts.{is_input}
use Rattle.pr_flat.specs.Shape.{EquationShape, equation_shape, shapes_of}
use Rattle.pr_flat.specs.Values.{Sight, number_in, row_after, row_of}
use Rattle.pr_source.specs.Keeping.{kept}
use Rattle.pr_source.proofs.Points.{shape_at}
use Rattle.pr_source.proofs.Whole.{byte_is, count_more, first_numbers, row_more}
use Rattle.pr_source.proofs.evaluator.fill.Goals as goal

pub next-number-requires-clause-ready : goal.next-number-requires-clause-ready
next-number-requires-clause-ready c =
    let equations = shapes_of c.args.flat.now.equations.items in
    let outputs = c.args.flat.now.outputs.items in
    let widths = c.args.widths.now in
    let before = kept c.args.recent.now in
    let sample = c.args.sample.now in
    let i = c.loop-i.i in
    let whole = row_of equations widths before sample in
    let rest = subst (λ (xs : List ℕ). row_after (record { equations = equations; widths = widths; before = before; sample = sample; row = take i xs }) (drop i equations) ≡ whole) (sym c.deref.ensures.value) c.loop-i.invariant.row in
    let low : i ≤ length equations = omega (arith, length-map c.args.flat.now.equations.items equation_shape, c.args.flat.now.equations.ok.0) in
    let short : length (take i c.deref.result.now) ≤ length equations = omega (arith, length-take-le i c.deref.result.now (omega (arith, c.loop-i.invariant.count, ap length c.deref.ensures.value))) in
    first_numbers equations outputs widths before sample (take i c.deref.result.now) (drop i equations) c.args.flat.now.lawful c.requires.widths c.requires.before c.requires.sample short rest

pub loop-i-preserved : goal.loop-i-preserved
loop-i-preserved c =
    let equations = shapes_of c.args.flat.now.equations.items in
    let widths = c.args.widths.now in
    let before = kept c.args.recent.now in
    let sample = c.args.sample.now in
    let i = c.loop-i.i in
    let row = c.loop-i.numbers.items in
    let number = c.next-number.result in
    let x = c.index.result.now in
    let e = equation_shape x in
    let whole = row_of equations widths before sample in
    let within : i < length c.args.flat.now.equations.items = omega (arith, c.args.flat.now.equations.ok.0) in
    let low : i < length equations = omega (arith, length-map c.args.flat.now.equations.items equation_shape) in
    let there : slice_get equations i ≡ Some e = shape_at c.args.flat.now.equations.items i x within c.index.ensures in
    let inside : i < length row = omega (arith, c.loop-i.invariant.count) in
    let seen : List ℕ → Sight = λ xs. record { equations = equations; widths = widths; before = before; sample = sample; row = take i xs } in
    let first : length (take i c.deref.result.now) ≡ i = length-take-le i c.deref.result.now (omega (arith, ap length c.deref.ensures.value)) in
    let next : number ≡ number_in (seen c.deref.result.now) (length (take i c.deref.result.now)) e.op e.args e.kinds = c.next-number.ensures e (subst (λ (k : ℕ). slice_get equations k ≡ Some e) (sym first) there) in
    let here = subst (λ (xs : List ℕ). number ≡ number_in (seen xs) (length (take i xs)) e.op e.args e.kinds) c.deref.ensures.value next in
    record {
      count = length-set row i number ∙ c.loop-i.invariant.count;
      input = count_more (λ (d : EquationShape). is_input d.op) equations i e (is_input x.op) c.loop-i.input c.from-input.result low (ap (λ (d : EquationShape). is_input d.op) (get_or_from_slice_get equations i e e there)) c.loop-i.invariant.input (c.from-input.ensures ∙ (ap bool_byte c.is_input.ensures ∙ byte_is (is_input x.op)));
      row = row_more equations widths before sample row i number e whole inside there here c.loop-i.invariant.row;
    }
