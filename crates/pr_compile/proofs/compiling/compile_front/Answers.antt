use Rattle.std.proofs.Common.{length, List, ℕ, ◌≡◌, true, false, arith}
use Rattle.std.proofs.lemmas.Result.{IfOk-weaker, IfErr-weaker, err_from_is_err_and}
use Rattle.pr_flat.specs.declared.equations.Operand.{Operand}
use Rattle.pr_flat.specs.Shape.{EquationShape, shapes_of}
use Rattle.pr_cut_units.specs.Nets.{net_of}
use Rattle.pr_conf.specs.Configuration.{shape_of}
use Rattle.pr_compile.specs.Configured.{IsConfigured}
use Rattle.pr_compile.specs.Refusals.{IsNetAnswer, IsFrontAnswer}
use Rattle.pr_compile.proofs.Ready.{whole_ready, narrowed_ready}
use Rattle.pr_compile.proofs.Steps.{flat_widths, whole_answer, narrowed_answer, at_front_exit}
use Rattle.pr_compile.proofs.compiling.compile_front.Goals as goal

pub configure-requires : goal.configure-requires
configure-requires g c =
    let widths = flat_widths c.args.front.now.scoped.program c.args.front.now.flat c.args.front.now.widths c.requires.equations c.requires.widths in
    (omega arith, (widths, (c.requires.columns, (c.requires.most_columns, (c.requires.registers, c.requires.most_registers)))))

pub returns-then-not-narrowed-clause-configured : goal.returns-then-not-narrowed-clause-configured
returns-then-not-narrowed-clause-configured g c =
    let front = c.args.front.now in
    rw c.if-not-narrowed.true
    (IfOk-weaker c.configure.result _ _ (λ x h. whole_ready (λ (es : List EquationShape) (ws : List ℕ) (qs : List Operand). IsConfigured g.row.N g.row.P es ws qs (shape_of x.conf)) front.scoped.program front.flat front.widths c.requires.equations c.requires.widths h) c.configure.ensures.configured)

pub returns-then-not-narrowed-clause-units : goal.returns-then-not-narrowed-clause-units
returns-then-not-narrowed-clause-units g c =
    let front = c.args.front.now in
    rw c.if-not-narrowed.true
    (IfOk-weaker c.configure.result _ _ (λ x h. whole_ready (λ (es : List EquationShape) (ws : List ℕ) (qs : List Operand). x.units ≡ length (net_of es ws qs).units) front.scoped.program front.flat front.widths c.requires.equations c.requires.widths h) c.configure.ensures.units)

pub returns-then-not-narrowed-clause-refused : goal.returns-then-not-narrowed-clause-refused
returns-then-not-narrowed-clause-refused g c =
    let front = c.args.front.now in
    rw c.if-not-narrowed.true
    (IfErr-weaker c.configure.result (IsNetAnswer g.row.N g.row.P (net_of (shapes_of front.flat.equations.items) front.widths front.flat.outputs.items)) (IsFrontAnswer g.row.N g.row.P false front.scoped.program front.widths)
    (λ e h. whole_answer g.row.N g.row.P front.scoped.program front.flat front.widths c.requires.equations c.requires.widths e h) c.configure.ensures.refused)

pub configure-requires-2 : goal.configure-requires-2
configure-requires-2 g c = (omega arith, (c.in_ok-flat.ensures.widths, (c.requires.columns, (c.requires.most_columns, (c.requires.registers, c.requires.most_registers)))))

pub returns-clause-configured : goal.returns-clause-configured
returns-clause-configured g c =
    let front = c.args.front.now in
    rw c.if-not-narrowed.false
    (IfOk-weaker c.configure-2.result _ _ (λ x h. narrowed_ready (λ (es : List EquationShape) (ws : List ℕ) (qs : List Operand). IsConfigured g.row.N g.row.P es ws qs (shape_of x.conf)) front.scoped.program front.flat front.widths c.requires.equations c.requires.widths c.in_ok-flat.flat c.in_ok-flat.widths c.in_ok-flat.ensures.narrowed c.in_ok-flat.ensures.outputs h) c.configure-2.ensures.configured)

pub returns-clause-units : goal.returns-clause-units
returns-clause-units g c =
    let front = c.args.front.now in
    rw c.if-not-narrowed.false
    (IfOk-weaker c.configure-2.result _ _ (λ x h. narrowed_ready (λ (es : List EquationShape) (ws : List ℕ) (qs : List Operand). x.units ≡ length (net_of es ws qs).units) front.scoped.program front.flat front.widths c.requires.equations c.requires.widths c.in_ok-flat.flat c.in_ok-flat.widths c.in_ok-flat.ensures.narrowed c.in_ok-flat.ensures.outputs h) c.configure-2.ensures.units)

pub returns-clause-refused : goal.returns-clause-refused
returns-clause-refused g c =
    let front = c.args.front.now in
    let flat = c.in_ok-flat.flat in
    let widths = c.in_ok-flat.widths in
    rw c.if-not-narrowed.false
    (IfErr-weaker c.configure-2.result (IsNetAnswer g.row.N g.row.P (net_of (shapes_of flat.equations.items) widths flat.outputs.items)) (IsFrontAnswer g.row.N g.row.P true front.scoped.program front.widths)
    (λ e h. narrowed_answer g.row.N g.row.P front.scoped.program front.flat front.widths c.requires.equations c.requires.widths flat widths c.in_ok-flat.ensures.narrowed c.in_ok-flat.ensures.outputs e h) c.configure-2.ensures.refused)
