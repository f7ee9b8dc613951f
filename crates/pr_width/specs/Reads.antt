-- How operands are read.
use Rattle.std.specs.Prelude.{ℕ, Bool, true, nat_lt}
use Rattle.pr_flat.specs.declared.equations.Operand.{Operand}
use Rattle.pr_flat.specs.declared.equations.Operand.TheVariants.{Const, Eq, Past}
use Rattle.pr_flat.specs.declared.forms.Form.{Form}
use Rattle.pr_width.specs.declared.operators.Read.{Read}

abbrev pub form_of : Read → Form
form_of read = record { signed = read.signed; width = read.width }

-- an operand that names no equation from this number on
abbrev pub is_within : ℕ → Operand → Bool
is_within count (Const c) = true
is_within count (Eq i) = nat_lt i count
is_within count (Past rec k) = nat_lt rec count
