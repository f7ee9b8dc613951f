-- Equations are made one after the other, each with the next number.
use Rattle.std.specs.Prelude.{ℕ, zero, suc, ◌+◌, Bool, false, true, cond, ◌&&◌, nat_eq, List, [], ◌∷◌, ◌++◌, map, length, Option, Some, None}
use Rattle.std.specs.Option.{option_and_then, option_map_or, unwrap_or}
use Rattle.std.specs.Result.{result_ok}
use Rattle.pr_lang.specs.declared.trees.Fixed.{Fixed}
use Rattle.pr_scope_names.specs.Names.{Known}
use Rattle.pr_scope_names.specs.Constants.{constant_of}
use Rattle.pr_flat.specs.declared.equations.Operand.{Operand}
use Rattle.pr_flat.specs.declared.equations.Operand.TheVariants.{Const, Eq, Past}
use Rattle.pr_flat.specs.declared.equations.Op.{Op}
use Rattle.pr_flat.specs.declared.equations.Op.TheVariants.{Cat, Choose, Delay, Fit, LeftBy, RightBy, Slice}
use Rattle.pr_flat.specs.declared.forms.Form.{Form}
use Rattle.pr_flat.specs.Rows.{gives_signed}
use Rattle.pr_flat.specs.Shape.{EquationShape}
use Rattle.pr_flat.specs.Facts.{is_width}
use Rattle.pr_expand_spec.specs.declared.givens.Given.{Given}

-- the equations so far, in order
abbrev pub Equations : Type 0
Equations = List EquationShape

-- what comes of an expression: the equations with its own, and its operand
pub record Expanded : Type 0 where
  pub equations : Equations
  pub given : Given

abbrev pub made : Equations → Operand → Bool → Expanded
made equations operand signed = record { equations = equations; given = record { operand = operand; signed = signed } }

abbrev pub given_signed : Given → Bool
given_signed g = g.signed

abbrev pub given_operand : Given → Operand
given_operand g = g.operand

-- an operation reads some of its operands as numbers, whatever their kinds
abbrev pub kinds_read : Op → List Bool → List Bool
kinds_read Cat kinds = map (λ k. false) kinds
kinds_read LeftBy (a ∷ by ∷ []) = a ∷ false ∷ []
kinds_read RightBy (a ∷ by ∷ []) = a ∷ false ∷ []
kinds_read Choose (c ∷ kinds) = false ∷ kinds
kinds_read (Slice high low) kinds = map (λ k. false) kinds
kinds_read (Delay c) kinds = map (λ k. false) kinds
kinds_read op kinds = kinds

abbrev pub form_of_kind : Bool → Form
form_of_kind kind = record { signed = kind; width = 0 }

-- whether the result is signed, where the operands have these kinds
abbrev pub is_signed : Op → List Bool → Bool
is_signed op kinds = gives_signed op (map form_of_kind kinds)

-- one more equation
abbrev pub with_equation : Op → List Given → Option ℕ → Equations → Expanded
with_equation op args declared equations =
    let kinds = kinds_read op (map given_signed args) in
    made (equations ++ record { op = op; args = map given_operand args; declared = declared; kinds = kinds } ∷ []) (Eq (length equations)) (is_signed op kinds)

-- a declared width; a program that keeps the rules of scope declares 1 to 128
abbrev pub lawful : Option ℕ → Option ℕ
lawful None = None
lawful (Some w) = cond (is_width w) (Some w) None

-- the same operand, under a declared width
abbrev pub fitted : ℕ → Given → Equations → Expanded
fitted w g equations = with_equation Fit (g ∷ []) (Some w) equations

-- the last equation gets a declared width
abbrev pub declare_last : ℕ → Equations → Equations
declare_last w [] = []
declare_last w (e ∷ []) = record e { declared = Some w } ∷ []
declare_last w (e ∷ f ∷ rest) = e ∷ declare_last w (f ∷ rest)

-- ---- delays

abbrev pub same_operand : Operand → Operand → Bool
same_operand (Const a) (Const b) = nat_eq a b
same_operand (Eq i) (Eq j) = nat_eq i j
same_operand (Past rec k) (Past other l) = nat_eq rec other && nat_eq k l
same_operand p q = false

abbrev pub is_delay_of : Operand → ℕ → Op → List Operand → Bool
is_delay_of q c (Delay d) (p ∷ []) = nat_eq d c && same_operand p q
is_delay_of q c op args = false

-- the number of the first delay of an operand after this number, from equation i on
abbrev pub delay_from : ℕ → Equations → Operand → ℕ → Option ℕ
delay_from i [] q c = None
delay_from i (e ∷ rest) q c = cond (is_delay_of q c e.op e.args) (Some i) (delay_from (i + 1) rest q c)

abbrev pub delay_step : Option ℕ → Operand → ℕ → Equations → Expanded
delay_step (Some i) q c equations = made equations (Eq i) false
delay_step None q c equations = with_equation (Delay c) (record { operand = q; signed = false } ∷ []) None equations

-- one sample earlier: the delay that is there already, or a new one
abbrev pub delayed_once : Operand → ℕ → Equations → Expanded
delayed_once q c equations = delay_step (delay_from 0 equations q c) q c equations

-- k samples earlier; the kind stays
abbrev pub delayed : ℕ → Given → ℕ → Equations → Expanded
delayed zero g c equations = made equations g.operand g.signed
delayed (suc k) g c equations =
    let once = delayed_once g.operand c equations in
    delayed k (record { operand = once.given.operand; signed = g.signed }) c once.equations

-- a constant expression's value; a program that keeps the rules of scope has one
abbrev pub constant : Fixed → Known → ℕ
constant f known = unwrap_or (result_ok (constant_of f known)) 0
