-- What an equation is read in: rows of which each number has the bits of its equation's width.
use Rattle.std.specs.Prelude.{◌≡◌, ◌<◌, ℕ, ◌+◌, ◌*◌, ◌%◌, ◌^◌, Bool, true, false, Some, List, count_by, length, slice_index, take}
use Rattle.std.specs.List.{All, slice_get}
use Rattle.pr_flat.specs.declared.equations.Op.{Op}
use Rattle.pr_flat.specs.declared.equations.Op.TheVariants.{Input, Add, Mul, Delay, Rec}
use Rattle.pr_flat.specs.declared.equations.Operand.{Operand}
use Rattle.pr_flat.specs.declared.forms.Point.{Point}
use Rattle.pr_flat.specs.Flats.{equations_of}
use Rattle.pr_flat.specs.Shape.{EquationShape}
use Rattle.pr_flat.specs.Facts.{IsFlat, is_input, is_lawful_operand}
use Rattle.pr_flat.specs.Widths.{AreWidths}
use Rattle.pr_flat.specs.Values.{Sight, HaveWidths, number_in, points_in}
use Rattle.pr_source.specs.declared.reader.Reader.{Reader}
use Rattle.pr_source.specs.Keeping.{kept}

-- a whole row, with the bits of its equations' widths
pub record IsWhole (equations : List EquationShape) (widths row : List ℕ) : Type 0 where
  pub count : length row ≡ length equations
  pub fits : HaveWidths widths row

-- rows before, each of them whole
abbrev pub IsPast : List EquationShape → List ℕ → List (List ℕ) → Type 0
IsPast equations widths before = All (IsWhole equations widths) before

-- the equations have these widths, and so have the rows before and the numbers of this row so far
pub record AreNumbers (equations : List EquationShape) (outputs : List Operand) (widths : List ℕ) (before : List (List ℕ)) (row : List ℕ) : Type 0 where
  pub flat : IsFlat equations outputs
  pub wide : AreWidths equations widths
  pub past : IsPast equations widths before
  pub fits : (i : ℕ) → i < length row → slice_index row i < 2 ^ slice_index widths i

-- what a reader sees
abbrev pub sight_of : Reader → List ℕ → Sight
sight_of r sample = record { equations = equations_of r.flat.now; widths = r.widths.now; before = kept r.recent.now; sample = sample; row = r.row.now }

-- and that it has numbers
abbrev pub IsReady : Reader → Type 0
IsReady r = AreNumbers (equations_of r.flat.now) r.flat.now.outputs.items r.widths.now (kept r.recent.now) r.row.now

-- an operand that the next equation may have
abbrev pub CanRead : Reader → Operand → Type 0
CanRead r operand = is_lawful_operand (equations_of r.flat.now) (length r.row.now) operand ≡ true

-- the next equation
abbrev pub IsNext : Reader → EquationShape → Type 0
IsNext r e = slice_get (equations_of r.flat.now) (length r.row.now) ≡ Some e

-- how many inputs stand before it
abbrev pub inputs_before : Reader → ℕ
inputs_before r = count_by (λ (e : EquationShape). is_input e.op) (take (length r.row.now) (equations_of r.flat.now))

-- its operands as they are read, and its number
abbrev pub points_of : Reader → List ℕ → EquationShape → List Point
points_of r sample e = points_in (sight_of r sample) e.args e.kinds

abbrev pub next_number : Reader → List ℕ → EquationShape → ℕ
next_number r sample e = number_in (sight_of r sample) (length r.row.now) e.op e.args e.kinds

-- an operator has its number from those of its own row alone
abbrev pub operates : Op → Bool
operates Input = false
operates (Delay c) = false
operates (Rec init first) = false
operates op = true

-- the sum or the product of two numbers, modulo 2 to the power of 128
abbrev pub IsPlain : Op → ℕ → ℕ → ℕ → Type 0
IsPlain Add a b n = n ≡ (a + b) % 2 ^ 128
IsPlain Mul a b n = n ≡ (a * b) % 2 ^ 128
IsPlain op a b n = ⊥
