-- What laws say of narrowed equations.
use Rattle.std.specs.Prelude.{◌≡◌, ℕ, Some, List}
use Rattle.std.specs.List.{slice_get}
use Rattle.pr_flat.specs.declared.equations.Operand.{Operand}
use Rattle.pr_flat.specs.Shape.{EquationShape}
use Rattle.pr_flat.specs.Facts.{IsFlat}
use Rattle.pr_flat.specs.Widths.{operand_width, AreWidths}
use Rattle.pr_flat.specs.Values.{output_list}
use Rattle.pr_narrow.specs.Narrowed.{AreNarrowed}

-- a fact for all flat equations with their outputs and widths, and for what they are narrowed to
abbrev pub EachNarrowed : (List EquationShape → List Operand → List ℕ → List EquationShape → List ℕ → Type 0) → Type 0
EachNarrowed P = (equations : List EquationShape) (outputs : List Operand) (widths : List ℕ) (narrowed : List EquationShape) (news : List ℕ) → IsFlat equations outputs → AreWidths equations widths → AreNarrowed equations outputs widths narrowed news → P equations outputs widths narrowed news

-- each output is as wide as before
abbrev pub KeepWidths : List Operand → List ℕ → List ℕ → Type 0
KeepWidths outputs widths news = (k : ℕ) (output : Operand) → slice_get outputs k ≡ Some output → operand_width news output ≡ operand_width widths output

-- each output gives the same list of these samples as before
abbrev pub KeepLists : List EquationShape → List Operand → List ℕ → List EquationShape → List ℕ → List (List ℕ) → Type 0
KeepLists equations outputs widths narrowed news samples = (k : ℕ) (output : Operand) → slice_get outputs k ≡ Some output → output_list narrowed news samples output ≡ output_list equations widths samples output

-- equations are narrowed in one way
abbrev pub HaveOneNarrowing : List EquationShape → List Operand → List ℕ → Type 0
HaveOneNarrowing equations outputs widths = (narrowed : List EquationShape) (news : List ℕ) (others : List EquationShape) (widths_of_others : List ℕ) → AreNarrowed equations outputs widths narrowed news → AreNarrowed equations outputs widths others widths_of_others → (narrowed ≡ others) × (news ≡ widths_of_others)
