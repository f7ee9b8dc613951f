-- The constants that equations read, and the equations of a program as a whole.
use Rattle.std.specs.Prelude.{◌≡◌, ◌^◌, Bool, true, ◌&&◌, nat_lt, List}
use Rattle.std.specs.List.{list_all}
use Rattle.pr_flat.specs.declared.equations.Operand.{Operand}
use Rattle.pr_flat.specs.declared.equations.Operand.TheVariants.{Const}
use Rattle.pr_flat.specs.Shape.{EquationShape}
use Rattle.pr_flat.specs.Facts.{IsFlat}
use Rattle.pr_expand_spec.specs.Programs.{Flattened}

-- a constant has 64 bits
abbrev pub is_number : Operand → Bool
is_number (Const c) = nat_lt c (2 ^ 64)
is_number a = true

-- whether each constant that the equations read, and each that an output gives, has 64 bits
abbrev pub have_numbers : List EquationShape → List Operand → Bool
have_numbers equations outputs =
    list_all (λ (e : EquationShape). list_all is_number e.args) equations && list_all is_number outputs

-- the same of the equations of a program and of its outputs
abbrev pub HasNumbers : Flattened → Type 0
HasNumbers program = have_numbers program.equations program.outputs ≡ true

abbrev pub IsFlatProgram : Flattened → Type 0
IsFlatProgram program = IsFlat program.equations program.outputs
