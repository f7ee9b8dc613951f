-- Whether the streams of instances are signed, read off the widths of further outputs.
use Rattle.std.specs.Prelude.{◌≡◌, ◌+◌, ◌-◌, ◌≤◌, ℕ, Bool, drop, ◌&&◌, nat_le, nat_lt, cond, List, length, map, Option, Some, None}
use Rattle.pr_lang.specs.declared.trees.Expr.{Expr}
use Rattle.pr_lang.specs.declared.trees.Program.{Program}
use Rattle.pr_flat.specs.declared.equations.Operand.{Operand}
use Rattle.pr_flat.specs.Forms.{Stream}
use Rattle.pr_flat.specs.Widths.{operand_width}
use Rattle.pr_lang_meaning.specs.Streams.{Streams, sources}
use Rattle.pr_lang_meaning.specs.Expressions as meant
use Rattle.pr_expand_spec.specs.Making.{Equations}
use Rattle.pr_expand_spec.specs.Expressions as made
use Rattle.pr_expand_spec.specs.Programs.{equations_of}
use Rattle.pr_probe.specs.Probes.{KeepsRules}

abbrev pub is_signed : Stream → Bool
is_signed s = s.form.signed

-- a program that has two equations left, which it takes to tell the kind of an instance
abbrev pub has_room : Program → Bool
has_room program = nat_le (length (equations_of program).equations + 2) 16384

-- which streams of a program are signed, where it has equations enough left to tell
abbrev pub kinds_of : Program → List Stream → List Bool
kinds_of program streams = map (λ s. has_room program && is_signed s) streams

-- ---- how it is told
-- the width that tells it
abbrev pub kind_width : Bool → ℕ
kind_width signed = cond signed 2 1

-- a stream that is so wide
pub record IsWide (width : ℕ) (o : Option Stream) : Type 0 where
  pub stream : Stream
  pub is : o ≡ Some stream
  pub wide : stream.form.width ≡ width

-- an expression over an instance that is 2 bits wide where the instance is signed, and else 1; it makes two equations
pub record TellsKind (name : List ℕ) (index : Option ℕ) (e : Expr) : Type 0 where
  pub keeps : KeepsRules name index e
  pub means : (v : meant.Visible) (m : ℕ) (env : Streams) (s : Stream) → v.known name ≡ None → (sources m env).now name index ≡ Some s → s.form.width ≤ 128 → IsWide (kind_width (is_signed s)) (meant.meaning e v m (sources m env))
  pub makes : (v : made.Visible) (env : made.Streams) (equations : Equations) → length (made.assigned None e v env equations).equations ≡ length equations + 2

-- whether an operand is wider than 1 bit
abbrev pub is_wide : List ℕ → Operand → Bool
is_wide widths o = nat_lt 1 (operand_width widths o)

-- the last operands, so many
abbrev pub last_of : ℕ → List Operand → List Operand
last_of count outputs = drop (length outputs - count) outputs
