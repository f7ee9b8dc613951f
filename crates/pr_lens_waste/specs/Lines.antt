-- The last instances of each name, where these are delays that no output needs.
use Rattle.std.specs.Prelude.{ℕ, Bool, List, ◌∷◌, Option, None, Some}
use Rattle.pr_flat.specs.declared.equations.Operand.{Operand}
use Rattle.pr_flat.specs.Shape.{EquationShape}
use Rattle.pr_scope_names.specs.Names.{ByInstance, instances_in, placed, with_instance}
use Rattle.pr_scope_names.specs.declared.streams.Instance.{Instance}
use Rattle.pr_lens_waste.specs.declared.lines.Lines.{Lines}
use Rattle.pr_lens_waste.specs.declared.lines.Tail.{Tail}
use Rattle.pr_lens_waste.specs.Delays.{idle_index}

-- For each name that has an instance that is needed, or is no delay: the instances behind it, all of which are delays that no
-- output needs. So in the order of the text they are the last ones of the name.
abbrev pub Tails : Type 0
Tails = ByInstance (Option Tail)

abbrev pub no_lines : Tails
no_lines = λ name. None

abbrev pub lines_in : Lines → Tails
lines_in lines = instances_in lines.tails

abbrev pub line_of : List ℕ → Tails → Option (Option Tail)
line_of name tails = placed (tails name) None

abbrev pub tail_by : Option (Option Tail) → Option Tail
tail_by None = None
tail_by (Some tail) = tail

abbrev pub tail_at : List ℕ → Tails → Option Tail
tail_at name tails = tail_by (line_of name tails)

-- ---- instance by instance
abbrev pub longer : Option Tail → ℕ → Tail
longer None index = record { first = index; last = index }
longer (Some tail) index = record { first = tail.first; last = index }

-- one that is idle, with its index
abbrev pub with_idle : Option (Option Tail) → List ℕ → ℕ → Tails → Tails
with_idle None name index tails = tails
with_idle (Some tail) name index tails = with_instance name None (Some (longer tail index)) tails

-- one, with its index where it is idle
abbrev pub with_next : List ℕ → Option ℕ → Tails → Tails
with_next name None tails = with_instance name None None tails
with_next name (Some index) tails = with_idle (line_of name tails) name index tails

-- instances that these operands give, one for each
abbrev pub lines_over : List EquationShape → List Bool → List Instance → List Operand → Tails → Tails
lines_over equations needed (i ∷ is) (o ∷ os) tails = lines_over equations needed is os (with_next i.name (idle_index equations needed i.index o) tails)
lines_over equations needed is os tails = tails
