-- What a pass over the equations does to their demands.
use Rattle.std.specs.Prelude.{◌≡◌, ◌<◌, ◌≤◌, ℕ, ◌+◌, ◌^◌, true, Option, Some, slice_index, length, List, [], ◌∷◌}
use Rattle.std.specs.List.{slice_get}
use Rattle.pr_flat.specs.Facts.{arity, has_lawful_ends}
use Rattle.pr_flat.specs.Shape.{EquationShape, EachEquation}
use Rattle.pr_narrow.specs.Demand.{IsServed}

-- each demand is at most the one in its place
abbrev pub AreBelow : List ℕ → List ℕ → Type 0
AreBelow demand others = (i : ℕ) → slice_index demand i ≤ slice_index others i

-- demands rise so far, and no further than all higher ones of which this holds
abbrev pub RiseLeast : List ℕ → List ℕ → (List ℕ → Type 0) → Type 0
RiseLeast old new P = (others : List ℕ) → P others → AreBelow old others → AreBelow new others

-- the equation of this number has what it demands, by the demand that there was of it
abbrev pub IsServedAt : List EquationShape → List ℕ → List ℕ → List ℕ → ℕ → Type 0
IsServedAt equations widths old new number = (e : EquationShape) → slice_get equations number ≡ Some e → 0 < slice_index old number → IsServed widths new e (slice_index old number)

-- all equations from one on have what they demand
abbrev pub AreServedFrom : List EquationShape → List ℕ → List ℕ → ℕ → Type 0
AreServedFrom equations widths demand from = EachEquation equations (λ i e. from ≤ i → 0 < slice_index demand i → IsServed widths demand e (slice_index demand i))

-- widths that numbers can have
abbrev pub AreWide : List ℕ → Type 0
AreWide widths = (i : ℕ) → i < length widths → (1 ≤ slice_index widths i) × (slice_index widths i ≤ 128)

-- each number that is known has the bits of its width
abbrev pub HaveBits : List ℕ → List (Option ℕ) → Type 0
HaveBits widths known = (i n : ℕ) → slice_get known i ≡ Some (Some n) → n < 2 ^ slice_index widths i

-- equations with as many operands as they take, and slices with their ends in order
pub record CanNarrow (equations : List EquationShape) : Type 0 where
  pub args : EachEquation equations (λ i e. length e.args ≡ arity e.op)
  pub kinds : EachEquation equations (λ i e. length e.kinds ≡ arity e.op)
  pub ends : EachEquation equations (λ i e. has_lawful_ends e.op ≡ true)

abbrev pub total : List ℕ → ℕ
total [] = 0
total (d ∷ demand) = d + total demand
