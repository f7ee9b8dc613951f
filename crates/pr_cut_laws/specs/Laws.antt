-- What the net of flat equations shows on lawful samples.
use Rattle.std.specs.Prelude.{◌≡◌, ℕ, ◌*◌, ◌/◌, ◌^◌, Bool, true, false, List, [], ◌∷◌, length, map, slice_index, slice_index_or}
use Rattle.std.specs.List.{range_with_len}
use Rattle.pr_base.specs.Numbers.{slices_of}
use Rattle.pr_flat.specs.declared.equations.Operand.{Operand}
use Rattle.pr_flat.specs.Shape.{EquationShape, EachEquation}
use Rattle.pr_flat.specs.Values.{list_of, output_list}
use Rattle.pr_net.specs.declared.cells.Slice.{Slice}
use Rattle.pr_net.specs.Shape.{wire_of}
use Rattle.pr_net.specs.Order.{IsBefore, IsByte}
use Rattle.pr_net.specs.Reading.{Reading, Has, shown}
use Rattle.pr_net.specs.Whole.{net_reading, output_list as net_list}
use Rattle.pr_cut_units.specs.Parts.{Making}
use Rattle.pr_cut_units.specs.Equations.{plan_of, has_units, cut_whole}
use Rattle.pr_cut_units.specs.Nets.{net_of}

-- the lists of the net's outputs are those of the equations' outputs
abbrev pub GivesLists : List EquationShape → List ℕ → List Operand → List (List ℕ) → Type 0
GivesLists equations widths outputs samples = map (net_list (net_of equations widths outputs) samples) (net_of equations widths outputs).outputs ≡ map (output_list equations widths samples) outputs

-- the slices that equation i is cut into
abbrev pub cut_value : List EquationShape → List ℕ → List Operand → ℕ → List Slice
cut_value equations widths outputs i = slice_index_or (cut_whole (plan_of equations widths outputs)).values i []

-- they are as many as its width takes, and show its list
pub record IsShown (equations : List EquationShape) (widths : List ℕ) (outputs : List Operand) (samples : List (List ℕ)) (i : ℕ) : Type 0 where
  pub bytes : length (cut_value equations widths outputs i) ≡ slices_of (slice_index widths i)
  pub list : map (λ n. shown (net_reading (net_of equations widths outputs) samples n) (cut_value equations widths outputs i)) (range_with_len 0 (length samples)) ≡ list_of equations widths samples i

-- so do those of each input, and of each equation from which an output can be reached
abbrev pub AreShown : List EquationShape → List ℕ → List Operand → List (List ℕ) → Type 0
AreShown equations widths outputs samples = EachEquation equations (λ i e. has_units (plan_of equations widths outputs) i e ≡ true → IsShown equations widths outputs samples i)

-- where the units of this part stand from unit u on, its slices show this number
abbrev pub ShowsPart : Reading → ℕ → Making → ℕ → Type 0
ShowsPart r u making n = Has r u (making u).units → shown r (making u).slices ≡ n

-- slices that name bytes, and cells of units before this one alone
abbrev pub AreEarlier : ℕ → List Slice → Type 0
AreEarlier u [] = Unit {0}
AreEarlier u (s ∷ x) = IsBefore u (wire_of s) × IsByte (wire_of s) × AreEarlier u x

-- a number shifted to one side by so many bits
abbrev pub shifted : Bool → ℕ → ℕ → ℕ
shifted true n k = n * 2 ^ k
shifted false n k = n / 2 ^ k
