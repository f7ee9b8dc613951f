-- What the units of an equation ask of it.
use Rattle.std.proofs.Common.{◌≡◌, ◌≤◌, ℕ, ◌&&◌, Bool, true, false, not, cond, Option, Some, None, List, [], ◌∷◌, ◌++◌, length, get_or, refl, sym, ap, ap₂, ◌∙◌, arith}
use Rattle.std.specs.Prelude.{slice_index}
use Rattle.std.specs.Bool.{if◌then◌else◌}
use Rattle.std.specs.Option.{is_some}
use Rattle.std.specs.List.{slice_get}
use Rattle.std.proofs.lemmas.Bool.{false≢true}
use Rattle.std.proofs.lemmas.Option.{slice_get_within}
use Rattle.pr_flat.specs.declared.equations.Operand.{Operand}
use Rattle.pr_flat.specs.declared.equations.Op.{Op}
use Rattle.pr_flat.specs.Shape.{EquationShape}
use Rattle.pr_flat.specs.Facts.{IsFlat, is_rec, is_input}
use Rattle.pr_flat.specs.Rows.{takes, natural_width}
use Rattle.pr_flat.specs.Widths.{forms_in, settled_width, is_open, AreWidths}
use Rattle.pr_net.specs.declared.cells.Slice.{Slice}
use Rattle.pr_net.specs.declared.cells.Cell.{Cell}
use Rattle.pr_cut_units.specs.Parts.{Making, kept}
use Rattle.pr_cut_units.specs.Widening.{Argument}
use Rattle.pr_cut_units.specs.States.{held, delayed}
use Rattle.pr_cut_units.specs.Table.{argument_forms, units_at}
use Rattle.pr_cut_units.specs.Reached.{reached, hold_count}
use Rattle.pr_cut_units.specs.Equations.{UnitPlan, plan_of, arguments, equation_units, has_units, next_units, cut_whole}
use Rattle.pr_cut_units.proofs.CountNets.{forms_are, count_whole}
use Rattle.pr_cut_units.proofs.WideNets.{are_counted}
use Rattle.pr_cut_units.proofs.TiedNets.{holds_end}
use Rattle.pr_cut.specs.Operators.{is_operator}
use Rattle.pr_cut.specs.Sources.{IsCutTo}
use Rattle.pr_cut.proofs.OperatorLemmas.{not_rec}

pub rec_units : (plan : UnitPlan) (i : ℕ) (op : Op) (init first : ℕ) (args : List Argument) (body : Argument) → op ≡ Op.Rec init first → args ≡ body ∷ [] → equation_units plan i op args ≡ held (slice_index plan.widths i) init (hold_count plan.equations i) body
rec_units plan i op init first args body eo ea = ap₂ (λ (o : Op) (xs : List Argument). equation_units plan i o xs) eo ea

pub delay_units : (plan : UnitPlan) (i : ℕ) (op : Op) (c : ℕ) (args : List Argument) (x : Argument) → op ≡ Op.Delay c → args ≡ x ∷ [] → equation_units plan i op args ≡ delayed (slice_index plan.widths i) c x.slices
delay_units plan i op c args x eo ea = ap₂ (λ (o : Op) (xs : List Argument). equation_units plan i o xs) eo ea

takes_where : (b : Bool) (o : Option ℕ) (w : ℕ) → cond b o None ≡ Some w → b ≡ true
takes_where true o w h = refl
takes_where false o w h = cc

-- an operator takes its operands
pub takes_own : (equations : List EquationShape) (outputs : List Operand) (widths : List ℕ) (i : ℕ) (e : EquationShape) (values : List (List Slice)) (args : List Argument) → AreWidths equations widths → slice_get equations i ≡ Some e → args ≡ arguments (plan_of equations widths outputs) values e.args e.kinds → is_operator e.op ≡ true → takes e.op (argument_forms args) ≡ true
takes_own equations outputs widths i e values args wide there ea o =
    let shut : is_open e ≡ false = ap (λ (b : Bool). b && not (is_some e.declared)) (not_rec e.op o) in
    let width = wide.each i e there (slice_get_within equations i e there) shut in
    let takes_forms : takes e.op (forms_in widths e) ≡ true = takes_where (takes e.op (forms_in widths e)) (settled_width e.declared (natural_width e.op (forms_in widths e))) (slice_index widths i) width in
    ap (λ (xs : List Argument). takes e.op (argument_forms xs)) ea ∙ ap (takes e.op) (forms_are (plan_of equations widths outputs) values e.args e.kinds) ∙ takes_forms

-- the hold units of a recurrence that is reached are among all units
pub holds_few : (equations : List EquationShape) (outputs : List Operand) (widths : List ℕ) (i : ℕ) (e : EquationShape) → IsFlat equations outputs → AreWidths equations widths → length (cut_whole (plan_of equations widths outputs)).units ≤ 32768 → slice_get equations i ≡ Some e → get_or (reached equations outputs) i false ≡ true → is_rec e.op ≡ true → hold_count equations i ≤ 32768
holds_few equations outputs widths i e flat wide few there counts h = go e.op refl h
  where
    go : (op : Op) → e.op ≡ op → is_rec op ≡ true → hold_count equations i ≤ 32768
    go (Op.Rec init first) is t =
        let end = holds_end equations widths outputs i init first e there is counts in
        let all = count_whole equations widths outputs (are_counted equations outputs widths flat wide) in
        omega (arith, end, all, few)
    go op is t = absurd (false≢true t)

-- ---- the next equation
next_is : (plan : UnitPlan) (i : ℕ) (units : List (List Cell)) (values : List (List Slice)) (e : EquationShape) (args : List Argument) → IsCutTo plan i units values → has_units plan i e ≡ true → args ≡ arguments plan values e.args e.kinds → next_units plan (record { units = units; values = values }) e ≡ equation_units plan i e.op args
next_is plan i units values e args cut has ea =
    let all = arguments plan values e.args e.kinds in
    ap (λ (k : ℕ). if has_units plan k e then equation_units plan k e.op all else kept []) cut.count
    ∙ ap (λ (b : Bool). if b then equation_units plan i e.op all else kept []) has
    ∙ ap (λ (xs : List Argument). equation_units plan i e.op xs) (sym ea)

pub next_made : (plan : UnitPlan) (i : ℕ) (units : List (List Cell)) (values : List (List Slice)) (e : EquationShape) (args : List Argument) (vs : List (List Cell)) → IsCutTo plan i units values → has_units plan i e ≡ true → args ≡ arguments plan values e.args e.kinds
    → vs ≡ units ++ (equation_units plan i e.op args (length units)).units → vs ≡ units ++ (next_units plan (record { units = units; values = values }) e (length units)).units
next_made plan i units values e args vs cut has ea ev = ev ∙ ap (λ (m : Making). units ++ (m (length units)).units) (sym (next_is plan i units values e args cut has ea))

pub next_slices : (plan : UnitPlan) (i : ℕ) (units : List (List Cell)) (values : List (List Slice)) (e : EquationShape) (args : List Argument) (x : List Slice) → IsCutTo plan i units values → has_units plan i e ≡ true → args ≡ arguments plan values e.args e.kinds
    → x ≡ (equation_units plan i e.op args (length units)).slices → x ≡ (next_units plan (record { units = units; values = values }) e (length units)).slices
next_slices plan i units values e args x cut has ea ex = ex ∙ ap (λ (m : Making). (m (length units)).slices) (sym (next_is plan i units values e args cut has ea))

-- an equation without units
pub next_none : (plan : UnitPlan) (i : ℕ) (units : List (List Cell)) (values : List (List Slice)) (e : EquationShape) → IsCutTo plan i units values → has_units plan i e ≡ false → next_units plan (record { units = units; values = values }) e ≡ kept []
next_none plan i units values e cut has =
    let all = arguments plan values e.args e.kinds in
    ap (λ (k : ℕ). if has_units plan k e then equation_units plan k e.op all else kept []) cut.count
    ∙ ap (λ (b : Bool). if b then equation_units plan i e.op all else kept []) has

-- ---- cases
pub hold_some : (equations : List EquationShape) (i : ℕ) → 1 ≤ hold_count equations i
hold_some equations i = omega arith

pub operator_of : (op : Op) → (op ≡ Op.Input → ⊥) → ((c : ℕ) → op ≡ Op.Delay c → ⊥) → ((init first : ℕ) → op ≡ Op.Rec init first → ⊥) → is_operator op ≡ true
operator_of Op.Input i d r = absurd (i refl)
operator_of (Op.Delay c) i d r = absurd (d c refl)
operator_of (Op.Rec init first) i d r = absurd (r init first refl)
operator_of op i d r = refl

pub operator_units : (plan : UnitPlan) (i : ℕ) (op : Op) (args : List Argument) → (op ≡ Op.Input → ⊥) → ((c : ℕ) → op ≡ Op.Delay c → ⊥) → ((init first : ℕ) → op ≡ Op.Rec init first → ⊥) → equation_units plan i op args ≡ units_at (slice_index plan.widths i) op args
operator_units plan i Op.Input args n d r = absurd (n refl)
operator_units plan i (Op.Delay c) args n d r = absurd (d c refl)
operator_units plan i (Op.Rec init first) args n d r = absurd (r init first refl)
operator_units plan i op args n d r = refl

pub rec_not_input : (op : Op) → is_rec op ≡ true → is_input op ≡ false
rec_not_input (Op.Rec init first) h = refl
rec_not_input op h = absurd (false≢true h)
