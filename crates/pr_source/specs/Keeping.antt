-- Rows that are kept, the latest first.
use Rattle.std.specs.Prelude.{◌≡◌, ℕ, Bool, true, nat_lt, List, length, take}
use Rattle.std.specs.List.{All, list_all}
use Rattle.pr_flat.specs.declared.equations.Operand.{Operand}
use Rattle.pr_flat.specs.declared.equations.Operand.TheVariants.{Const, Eq, Past}
use Rattle.pr_flat.specs.Shape.{EquationShape, EachEquation}
use Rattle.pr_source.specs.declared.recent.Recent.{Recent}

-- how many rows there is room for
abbrev pub slots : Recent → ℕ
slots r = length r.rows.items

-- the rows of samples
abbrev pub kept : Recent → List (List ℕ)
kept r = take r.filled r.rows.items

-- each row and each room for one has so many numbers
abbrev pub HaveSize : ℕ → Recent → Type 0
HaveSize size r = All (λ (row : List ℕ). length row ≡ size) r.rows.items

-- an operand, and what is one sample behind it, lie within so many rows
abbrev pub is_near : ℕ → Operand → Bool
is_near slots (Const c) = true
is_near slots (Eq i) = true
is_near slots (Past rec k) = nat_lt k slots

-- no equation looks back on more rows
abbrev pub AreNear : ℕ → List EquationShape → Type 0
AreNear slots equations = EachEquation equations (λ i e. list_all (is_near slots) e.args ≡ true)
