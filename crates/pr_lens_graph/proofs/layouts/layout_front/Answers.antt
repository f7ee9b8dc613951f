use Rattle.std.proofs.Common.{List, ℕ, true, false}
use Rattle.std.proofs.lemmas.Result.{IfOk-weaker, IfErr-weaker}
use Rattle.pr_flat.specs.declared.equations.Operand.{Operand}
use Rattle.pr_flat.specs.Shape.{EquationShape, shapes_of}
use Rattle.pr_cut_units.specs.Nets.{net_of}
use Rattle.pr_compile.specs.Refusals.{IsNetAnswer, IsFrontAnswer}
use Rattle.pr_compile.proofs.Ready.{whole_ready, narrowed_ready}
use Rattle.pr_compile.proofs.Steps.{flat_widths, whole_answer, narrowed_answer}
use Rattle.pr_place.specs.Placements.{shape_of as placement_shape}
use Rattle.pr_lens_graph.specs.Layouts.{IsLaidOut}
use Rattle.pr_lens_graph.proofs.layouts.layout_front.Goals as goal

pub laid_out-requires-clause-widths : goal.laid_out-requires-clause-widths
laid_out-requires-clause-widths g c = flat_widths c.args.front.now.scoped.program c.args.front.now.flat c.args.front.now.widths c.requires.equations c.requires.widths

pub returns-then-not-narrowed-clause-layout : goal.returns-then-not-narrowed-clause-layout
returns-then-not-narrowed-clause-layout g c =
    let front = c.args.front.now in
    rw c.if-not-narrowed.true
    (IfOk-weaker c.laid_out.result _ _ (λ x h. whole_ready (λ (es : List EquationShape) (ws : List ℕ) (qs : List Operand). IsLaidOut g.row.N g.row.P (net_of es ws qs) x.net (placement_shape x.placement) x.stages.items) front.scoped.program front.flat front.widths c.requires.equations c.requires.widths h) c.laid_out.ensures.layout)

pub returns-then-not-narrowed-clause-refused : goal.returns-then-not-narrowed-clause-refused
returns-then-not-narrowed-clause-refused g c =
    let front = c.args.front.now in
    rw c.if-not-narrowed.true
    (IfErr-weaker c.laid_out.result (IsNetAnswer g.row.N g.row.P (net_of (shapes_of front.flat.equations.items) front.widths front.flat.outputs.items)) (IsFrontAnswer g.row.N g.row.P false front.scoped.program front.widths)
    (λ e h. whole_answer g.row.N g.row.P front.scoped.program front.flat front.widths c.requires.equations c.requires.widths e h) c.laid_out.ensures.refused)

pub laid_out-requires-2-clause-widths : goal.laid_out-requires-2-clause-widths
laid_out-requires-2-clause-widths g c = c.in_ok-flat.ensures.widths

pub returns-clause-layout : goal.returns-clause-layout
returns-clause-layout g c =
    let front = c.args.front.now in
    rw c.if-not-narrowed.false
    (IfOk-weaker c.laid_out-2.result _ _ (λ x h. narrowed_ready (λ (es : List EquationShape) (ws : List ℕ) (qs : List Operand). IsLaidOut g.row.N g.row.P (net_of es ws qs) x.net (placement_shape x.placement) x.stages.items) front.scoped.program front.flat front.widths c.requires.equations c.requires.widths c.in_ok-flat.flat c.in_ok-flat.widths c.in_ok-flat.ensures.narrowed c.in_ok-flat.ensures.outputs h) c.laid_out-2.ensures.layout)

pub returns-clause-refused : goal.returns-clause-refused
returns-clause-refused g c =
    let front = c.args.front.now in
    let flat = c.in_ok-flat.flat in
    let widths = c.in_ok-flat.widths in
    rw c.if-not-narrowed.false
    (IfErr-weaker c.laid_out-2.result (IsNetAnswer g.row.N g.row.P (net_of (shapes_of flat.equations.items) widths flat.outputs.items)) (IsFrontAnswer g.row.N g.row.P true front.scoped.program front.widths)
    (λ e h. narrowed_answer g.row.N g.row.P front.scoped.program front.flat front.widths c.requires.equations c.requires.widths flat widths c.in_ok-flat.ensures.narrowed c.in_ok-flat.ensures.outputs e h) c.laid_out-2.ensures.refused)
