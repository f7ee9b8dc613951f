use Rattle.std.proofs.Common.{◌≡◌, ◌<◌, ℕ, List, length, get_or, ◌∙◌, ap, arith}
use Rattle.std.proofs.lemmas.List.{get_or_default, length-map}
use Rattle.pr_cut_units.proofs.WideNets.{widths_some}
use Rattle.pr_cut_units.proofs.EndNets.{widths_most}
use Rattle.pr_flat.specs.Shape.{equation_shape, shapes_of}
use Rattle.pr_source.proofs.Points.{is_some_width}
use Rattle.pr_source.proofs.reader.Reader.width_at.Goals as goal

pub unwrap-requires : goal.unwrap-requires
unwrap-requires c =
    let equations = shapes_of c.args.self.now.flat.now.equations.items in
    let outputs = c.args.self.now.flat.now.outputs.items in
    let widths = c.args.self.now.widths.now in
    let ready = c.requires.ready in
    let within : c.args.equation < length equations = omega (arith, length-map c.args.self.now.flat.now.equations.items equation_shape, c.args.self.now.flat.now.equations.ok.0) in
    let some = widths_some equations outputs widths ready.flat ready.wide c.args.equation within in
    let most = widths_most equations outputs widths ready.flat ready.wide c.args.equation within in
    let number : c.index.result.now ≡ get_or widths c.args.equation 0 = c.index.ensures ∙ ap (λ (xs : List ℕ). get_or xs c.args.equation c.index.result.now) c.widths.view_is ∙ get_or_default widths c.args.equation c.index.result.now 0 (omega (arith, ready.wide.count)) in
    is_some_width c.of.result c.index.result.now c.of.ensures.none.0 (omega arith) (omega arith)
