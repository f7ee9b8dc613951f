-- Operators on numbers, and equations on samples, computed.
use Rattle.std.proofs.Common.{◌≡◌, ℕ, true, false, None, Some, [], ◌∷◌, refl, arith}
use Rattle.pr_flat.specs.declared.equations.Op.TheVariants as Op
use Rattle.pr_flat.specs.declared.equations.Operand.TheVariants.{Eq, Past}
use Rattle.pr_flat.specs.declared.forms.Point.{Point}
use Rattle.pr_flat.specs.Forms.{value, residue, number_width}
use Rattle.pr_flat.specs.Rows.{natural_width, natural_number, forms_of}
use Rattle.pr_flat.specs.Shape.{EquationShape}
use Rattle.pr_flat.specs.Facts.{IsFlat, ReadsPast}
use Rattle.pr_flat.specs.Widths.{width_in}
use Rattle.pr_flat.proofs.FlatLemmas.{flat_by_test}
use Rattle.pr_flat.specs.Values.{operator_number, rows_of, list_of}

unsigned : ℕ → ℕ → Point
unsigned w n = record { form = record { signed = false; width = w }; number = n }

signed : ℕ → ℕ → Point
signed w n = record { form = record { signed = true; width = w }; number = n }

-- -1 is below 1, and -128 below 127
less_one : natural_number Op.Less (signed 8 255 ∷ signed 8 1 ∷ []) ≡ 1
unfolding signed value residue
less_one = refl

less_least : natural_number Op.Less (signed 8 128 ∷ signed 8 127 ∷ []) ≡ 1
unfolding signed value residue
less_least = refl

-- an unsigned operand beside a signed one keeps its number
less_mixed : natural_number Op.Less (unsigned 8 255 ∷ signed 8 1 ∷ []) ≡ 0
unfolding signed unsigned value residue
less_mixed = refl

-- -1 and -128 moved right by one bit, in 16 bits
shifted_ones : operator_number 16 (Op.Right 1) (signed 8 255 ∷ []) ≡ 65535
unfolding signed value residue
shifted_ones = refl

shifted_least : operator_number 16 (Op.Right 1) (signed 8 128 ∷ []) ≡ 65472
unfolding signed value residue
shifted_least = refl

shifted_by : natural_number Op.RightBy (signed 8 240 ∷ unsigned 3 2 ∷ []) ≡ 252
unfolding signed unsigned value residue
shifted_by = refl

-- a product with a number is wide enough for its sign
product : operator_number 16 Op.Mul (signed 8 255 ∷ unsigned 2 3 ∷ []) ≡ 65533
unfolding signed unsigned value residue
product = refl

-- -1 in 8 bits is all ones in 16
widened : operator_number 16 Op.Fit (signed 8 255 ∷ []) ≡ 65535
unfolding signed value residue
widened = refl

-- a difference of 4 bits, and a signed one, which has two bits more
difference : natural_number Op.Sub (unsigned 4 0 ∷ unsigned 4 1 ∷ []) ≡ 15
unfolding unsigned value residue
difference = refl

signed_difference : natural_number Op.Sub (signed 4 0 ∷ unsigned 4 1 ∷ []) ≡ 63
unfolding signed unsigned value residue
signed_difference = refl

-- the complement of a number and of a signed one
complement : natural_number Op.Not (signed 8 255 ∷ []) ≡ 0
unfolding signed value residue
complement = refl

-- the greatest numbers of 128 bits
greatest_sum : operator_number 128 Op.Add (unsigned 128 340282366920938463463374607431768211455 ∷ unsigned 128 1 ∷ []) ≡ 0
unfolding unsigned value residue
greatest_sum = refl

widest_product : natural_width Op.Mul (forms_of (signed 128 0 ∷ unsigned 128 0 ∷ [])) ≡ 257
unfolding signed unsigned
widest_product = refl

-- numbers as wide as their bits
width_of_zero : number_width 0 ≡ 1
unfolding number_width
width_of_zero = refl

width_of_three_hundred : number_width 300 ≡ 9
unfolding number_width
width_of_three_hundred = refl

width_of_greatest : number_width 18446744073709551615 ≡ 64
unfolding number_width
width_of_greatest = refl

-- an input of 8 bits
input : EquationShape
input = record { op = Op.Input; args = []; declared = Some 8; kinds = [] }

-- a running sum of 8 bits from 250 on: its body is a sum with its own past
sum_before : EquationShape
sum_before = record { op = Op.Add; args = Past 2 1 ∷ Eq 0 ∷ []; declared = Some 8; kinds = false ∷ false ∷ [] }

running : EquationShape
running = record { op = Op.Rec 250 1; args = Eq 1 ∷ []; declared = Some 8; kinds = false ∷ [] }

running_sum : list_of (input ∷ sum_before ∷ running ∷ []) (8 ∷ 8 ∷ 8 ∷ []) ((5 ∷ []) ∷ (1 ∷ []) ∷ (1 ∷ []) ∷ []) 2 ≡ 255 ∷ 0 ∷ 1 ∷ []
unfolding input sum_before running value residue
running_sum = refl

-- two delays of an input
one_before : ℕ → EquationShape
one_before i = record { op = Op.Delay 0; args = Eq i ∷ []; declared = None; kinds = false ∷ [] }

two_before : rows_of (input ∷ one_before 0 ∷ one_before 1 ∷ []) (8 ∷ 8 ∷ 8 ∷ []) ((1 ∷ []) ∷ (2 ∷ []) ∷ (3 ∷ []) ∷ []) ≡ (1 ∷ 0 ∷ 0 ∷ []) ∷ (2 ∷ 1 ∷ 0 ∷ []) ∷ (3 ∷ 2 ∷ 1 ∷ []) ∷ []
unfolding input one_before
two_before = refl

-- the exclusive or of a past of 8 bits and an input of 8 bits takes 8 bits, and their sum 9
mixed_width : width_in (8 ∷ 0 ∷ 8 ∷ []) (record { op = Op.Xor; args = Past 2 1 ∷ Eq 0 ∷ []; declared = None; kinds = false ∷ false ∷ [] }) ≡ Some 8
mixed_width = refl

grown_width : width_in (8 ∷ 0 ∷ 8 ∷ []) (record { op = Op.Add; args = Past 2 1 ∷ Eq 0 ∷ []; declared = None; kinds = false ∷ false ∷ [] }) ≡ Some 9
grown_width = refl

-- a condition of two bits
wide_condition : width_in (2 ∷ 8 ∷ []) (record { op = Op.Choose; args = Eq 0 ∷ Eq 1 ∷ Eq 1 ∷ []; declared = Some 8; kinds = false ∷ false ∷ false ∷ [] }) ≡ None
wide_condition = refl

-- the running sum is flat
running_is_flat : IsFlat (input ∷ sum_before ∷ running ∷ []) (Eq 2 ∷ [])
unfolding input sum_before running
running_is_flat = flat_by_test (input ∷ sum_before ∷ running ∷ []) (Eq 2 ∷ []) refl

-- no output reads what depends on a past, short of the recurrence
body_is_not_read : IsFlat (input ∷ sum_before ∷ running ∷ []) (Eq 1 ∷ []) → ⊥
unfolding input sum_before running
body_is_not_read flat = let apart = flat.apart 2 1 (ReadsPast 1 sum_before refl refl) (λ (same : 1 ≡ 2). absurd (omega arith)) in let outside = apart.outside in cc

-- no equation reads itself
itself_is_not_read : IsFlat (input ∷ one_before 1 ∷ []) (Eq 1 ∷ []) → ⊥
unfolding input one_before
itself_is_not_read flat = let lawful = flat.operands 1 (one_before 1) refl in cc

-- a delay begins with what its operand begins with
other_beginning : IsFlat (input ∷ record { op = Op.Delay 7; args = Eq 0 ∷ []; declared = None; kinds = false ∷ [] } ∷ []) (Eq 1 ∷ []) → ⊥
unfolding input
other_beginning flat = let lawful = flat.constants 1 (record { op = Op.Delay 7; args = Eq 0 ∷ []; declared = None; kinds = false ∷ [] }) refl in cc
