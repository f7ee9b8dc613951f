use Rattle.std.proofs.Common.{◌≡◌, ℕ, Bool, false, Some, [], ◌∷◌, length, sym, refl, ◌∙◌, ap, arith}
use Rattle.std.specs.List.{slice_get}
use Rattle.std.proofs.lemmas.Option.{slice_get_read}
use Rattle.pr_flat.specs.Shape.{equation_shape, shapes_of}
use Rattle.pr_flat.specs.Widths.{operand_width}
use Rattle.pr_flat.specs.Values.{points_in}
use Rattle.pr_source.specs.Reading.{sight_of}
use Rattle.pr_source.proofs.Plain.{plain_number_is, plain_operates, unsigned}
use Rattle.pr_source.proofs.Points.{length_points, number_of_these, points_in-at, two_at}
use Rattle.pr_source.proofs.reader.Reader.plain.Goals as goal

pub returns-in-Some : goal.returns-in-Some
returns-in-Some c sample =
    let r = c.args.self.now in
    let e = equation_shape c.args.equation.now in
    let args = c.args.equation.now.args.items in
    let kinds = c.args.equation.now.kinds.items in
    let sight = sight_of r sample in
    let a = c.index-2.result.now in
    let b = c.index-3.result.now in
    let p = unsigned (operand_width r.widths.now a) c.number-a.result in
    let q = unsigned (operand_width r.widths.now b) c.number-b.result in
    let two : length args ≡ 2 = omega (arith, c.if-len-ne2.false, c.len.ensures, c.args.equation.now.args.ok.0) in
    let both : length kinds ≡ 2 = omega (arith, c.if-len-ne2.false, c.len.ensures, c.requires.args, c.requires.kinds, c.args.equation.now.kinds.ok.0) in
    let kind_a : slice_get kinds 0 ≡ Some false = slice_get_read kinds (length kinds) 0 c.index.result.now refl (omega arith) c.index.ensures ∙ ap (λ (k : Bool). Some k) c.if-index.false in
    let kind_b : slice_get kinds 1 ≡ Some false = slice_get_read kinds (length kinds) 1 c.index-else-index.result.now refl (omega arith) c.index-else-index.ensures ∙ ap (λ (k : Bool). Some k) c.if-index-2.false in
    let first : slice_get (points_in sight args kinds) 0 ≡ Some p = points_in-at sight args kinds 0 a false (slice_get_read args (length args) 0 a refl (omega arith) c.index-2.ensures) kind_a ∙ ap (λ (n : ℕ). Some (unsigned (operand_width r.widths.now a) n)) (sym c.number-a.ensures) in
    let second : slice_get (points_in sight args kinds) 1 ≡ Some q = points_in-at sight args kinds 1 b false (slice_get_read args (length args) 1 b refl (omega arith) c.index-3.ensures) kind_b ∙ ap (λ (n : ℕ). Some (unsigned (operand_width r.widths.now b) n)) (sym c.number-b.ensures) in
    let count : length (points_in sight args kinds) ≡ 2 = omega (arith, length_points (shapes_of r.flat.now.equations.items) r.flat.now.outputs.items sight e c.requires.ready c.requires.next, c.requires.args, c.args.equation.now.args.ok.0) in
    number_of_these sight e.op args kinds (p ∷ q ∷ []) c.width_at.result.bits _ (plain_operates e.op c.number-a.result c.number-b.result c.in-Some.number c.in-Some.ensures) (two_at _ p q count first second) c.width_at.ensures
    (c.cut.ensures ∙ plain_number_is c.width_at.result.bits (operand_width r.widths.now a) (operand_width r.widths.now b) e.op c.number-a.result c.number-b.result c.in-Some.number c.width_at.result.greatest c.in-Some.ensures)
