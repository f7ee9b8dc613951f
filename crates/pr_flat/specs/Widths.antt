-- The widths of equations, each recurrence's the least, and the first equation that has none.
use Rattle.std.specs.Prelude.{◌≡◌, ◌<◌, ◌≤◌, ℕ, ◌^◌, Bool, true, false, not, ◌&&◌, cond, nat_le, Option, Some, None, is_some, List, [], ◌∷◌, length, slice_index, All}
use Rattle.std.specs.List.{slice_get}
use Rattle.pr_flat.specs.declared.equations.Operand.{Operand}
use Rattle.pr_flat.specs.declared.equations.Operand.TheVariants.{Const, Eq, Past}
use Rattle.pr_flat.specs.declared.equations.Op.TheVariants.{Rec}
use Rattle.pr_flat.specs.declared.forms.Form.{Form}
use Rattle.pr_flat.specs.Forms.{number_width}
use Rattle.pr_flat.specs.Rows.{takes, natural_width}
use Rattle.pr_flat.specs.Shape.{EquationShape, EachEquation}
use Rattle.pr_flat.specs.Facts.{is_rec}

-- the width of an operand, where the equations have these widths
abbrev pub operand_width : List ℕ → Operand → ℕ
operand_width widths (Const c) = number_width c
operand_width widths (Eq i) = slice_index widths i
operand_width widths (Past rec k) = slice_index widths rec

-- operands as they are read
abbrev pub operand_forms : List ℕ → List Operand → List Bool → List Form
operand_forms widths (a ∷ args) (kind ∷ kinds) = record { signed = kind; width = operand_width widths a } ∷ operand_forms widths args kinds
operand_forms widths args kinds = []

abbrev pub forms_in : List ℕ → EquationShape → List Form
forms_in widths e = operand_forms widths e.args e.kinds

-- the declared width, or else the natural one where it is not above 128
abbrev pub settled_width : Option ℕ → ℕ → Option ℕ
settled_width (Some w) natural = Some w
settled_width None natural = cond (nat_le natural 128) (Some natural) None

-- the width of an equation other than a recurrence without declared width, where the others have these widths
abbrev pub width_in : List ℕ → EquationShape → Option ℕ
width_in widths e = cond (takes e.op (forms_in widths e)) (settled_width e.declared (natural_width e.op (forms_in widths e))) None

-- a recurrence without declared width
abbrev pub is_open : EquationShape → Bool
is_open e = is_rec e.op && not (is_some e.declared)

-- with the past of this recurrence so wide as it is itself, all of its body has widths, and the recurrence holds its body's numbers and its initial value
pub record Holds (equations : List EquationShape) (rec init first : ℕ) (widths : List ℕ) : Type 0 where
  pub least : 1 ≤ slice_index widths rec
  pub greatest : slice_index widths rec ≤ 128
  pub initial : init < 2 ^ slice_index widths rec
  pub body : EachEquation equations (λ i e. first ≤ i → i < rec → width_in widths e ≡ Some (slice_index widths i))
  pub operand : (e : EquationShape) → slice_get equations rec ≡ Some e → All (λ a. operand_width widths a ≤ slice_index widths rec) e.args

-- the same widths below an equation
abbrev pub AgreeBelow : ℕ → List ℕ → List ℕ → Type 0
AgreeBelow n widths others = (i : ℕ) → i < n → slice_index others i ≡ slice_index widths i

-- the recurrence is so wide as it is in these widths, and with none less would it hold
pub record IsLeast (equations : List EquationShape) (rec init first : ℕ) (widths : List ℕ) : Type 0 where
  pub holds : Holds equations rec init first widths
  pub none_less : (others : List ℕ) → AgreeBelow first widths others → Holds equations rec init first others → slice_index widths rec ≤ slice_index others rec

-- the widths of all equations below n; every declared width is among them
pub record AreWidthsBelow (n : ℕ) (equations : List EquationShape) (widths : List ℕ) : Type 0 where
  pub count : length widths ≡ length equations
  pub declared : EachEquation equations (λ i e. (w : ℕ) → e.declared ≡ Some w → slice_index widths i ≡ w)
  pub each : EachEquation equations (λ i e. i < n → is_open e ≡ false → width_in widths e ≡ Some (slice_index widths i))
  pub recurrences : EachEquation equations (λ i e. (init first : ℕ) → i < n → is_open e ≡ true → e.op ≡ Rec init first → IsLeast equations i init first widths)

-- the widths of all equations
abbrev pub AreWidths : List EquationShape → List ℕ → Type 0
AreWidths equations widths = AreWidthsBelow (length equations) equations widths

-- equation n stands in no body of a recurrence without declared width
abbrev pub IsOutside : List EquationShape → ℕ → Type 0
IsOutside equations n = EachEquation equations (λ i e. (init first : ℕ) → is_open e ≡ true → e.op ≡ Rec init first → first ≤ n → n < i → ⊥)

-- an equation that has no width: all below it have theirs; what its body lacks counts at a recurrence without declared width
pub data IsFirstWithout (equations : List EquationShape) (n : ℕ) : Type 0 where
  Lacks : (e : EquationShape) (widths : List ℕ) → slice_get equations n ≡ Some e → is_open e ≡ false → IsOutside equations n → AreWidthsBelow n equations widths → width_in widths e ≡ None → IsFirstWithout equations n
  HoldsNowhere : (e : EquationShape) (init first : ℕ) (widths : List ℕ) → slice_get equations n ≡ Some e → is_open e ≡ true → e.op ≡ Rec init first → AreWidthsBelow first equations widths → ((others : List ℕ) → AgreeBelow first widths others → Holds equations n init first others → ⊥) → IsFirstWithout equations n
