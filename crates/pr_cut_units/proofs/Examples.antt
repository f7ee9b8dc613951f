-- Nets of a few equations, computed.
use Rattle.std.proofs.Common.{◌≡◌, ℕ, true, false, None, Some, List, [], ◌∷◌, map, refl}
use Rattle.pr_base.specs.declared.choices.Mode.{Mode}
use Rattle.pr_base.specs.declared.choices.Carry.{Carry}
use Rattle.pr_flat.specs.declared.equations.Op.{Op}
use Rattle.pr_flat.specs.declared.equations.Operand.{Operand}
use Rattle.pr_flat.specs.Forms.{number_width}
use Rattle.pr_flat.specs.Shape.{EquationShape}
use Rattle.pr_net.specs.declared.cells.Wire.{Wire}
use Rattle.pr_net.specs.declared.cells.WireBit.{WireBit}
use Rattle.pr_base.specs.Pe.{looked_up}
use Rattle.pr_net.specs.Whole.{output_list}
use Rattle.pr_cut_units.specs.Cells.{plain}
use Rattle.pr_cut_units.specs.Nets.{net_of}

input : ℕ → EquationShape
input w = record { op = Op.Input; args = []; declared = Some w; kinds = [] }

-- input a:8; input b:4; output s:10 = a + b; output d = signed(b) < 3;
sums : List EquationShape
sums =
    input 8
    ∷ input 4
    ∷ record { op = Op.Add; args = Operand.Eq 0 ∷ Operand.Eq 1 ∷ []; declared = Some 10; kinds = false ∷ false ∷ [] }
    ∷ record { op = Op.Less; args = Operand.Eq 1 ∷ Operand.Const 3 ∷ []; declared = None; kinds = true ∷ false ∷ [] }
    ∷ []

sum_outputs : List Operand
sum_outputs = Operand.Eq 2 ∷ Operand.Eq 3 ∷ []

-- the sum has 9 bits, and its tenth is 0 by the mask of its upper cell; the operand -8 to 7 is widened to 5 bits
sum_units : (net_of sums (8 ∷ 4 ∷ 10 ∷ 1 ∷ []) sum_outputs).units ≡
    (record plain { a = Wire.Bus 0; table = 170 } ∷ [])
    ∷ (record plain { a = Wire.Bus 1; table = 170; mask = 15 } ∷ [])
    ∷ (record plain { a = Wire.Of 0 0; hi = Wire.Of 1 0; table = 204; mode = Mode.Sum } ∷ record plain { table = 204; mode = Mode.Sum; cin = Carry.Chain; mask = 1 } ∷ [])
    ∷ (record plain { a = Wire.Of 1 0; hi = Wire.Const 240; c = WireBit.Of (Wire.Of 1 0) 3; table = 234; mask = 31 } ∷ [])
    ∷ (record plain { a = Wire.Of 3 0; hi = Wire.Const 3; table = 51; mode = Mode.Sum; cin = Carry.One; mask = 31 } ∷ [])
    ∷ (record plain { c = WireBit.Of (Wire.Of 4 0) 4; table = 240; mask = 1 } ∷ [])
    ∷ []
unfolding net_of sums input sum_outputs number_width
sum_units = refl

sum_lists : map (output_list (net_of sums (8 ∷ 4 ∷ 10 ∷ 1 ∷ []) sum_outputs) ((250 ∷ 15 ∷ []) ∷ (1 ∷ 2 ∷ []) ∷ (7 ∷ 3 ∷ []) ∷ [])) (net_of sums (8 ∷ 4 ∷ 10 ∷ 1 ∷ []) sum_outputs).outputs ≡ (265 ∷ 3 ∷ 10 ∷ []) ∷ (1 ∷ 1 ∷ 0 ∷ []) ∷ []
unfolding net_of sums input sum_outputs number_width looked_up
sum_lists = refl

-- input a:8; rec s:8 = 7 by s@1 + s@2 + a; output s = s;
totals : List EquationShape
totals =
    input 8
    ∷ record { op = Op.Add; args = Operand.Past 3 1 ∷ Operand.Past 3 2 ∷ []; declared = None; kinds = false ∷ false ∷ [] }
    ∷ record { op = Op.Add; args = Operand.Eq 1 ∷ Operand.Eq 0 ∷ []; declared = Some 8; kinds = false ∷ false ∷ [] }
    ∷ record { op = Op.Rec 7 1; args = Operand.Eq 2 ∷ []; declared = Some 8; kinds = false ∷ [] }
    ∷ []

-- the hold units are made after the units that read their states, and all of these are one group
total_groups : (net_of totals (8 ∷ 9 ∷ 8 ∷ 8 ∷ []) (Operand.Eq 3 ∷ [])).groups ≡ (0 ∷ []) ∷ (1 ∷ 2 ∷ 3 ∷ 4 ∷ []) ∷ []
unfolding net_of totals input number_width
total_groups = refl

total_lists : map (output_list (net_of totals (8 ∷ 9 ∷ 8 ∷ 8 ∷ []) (Operand.Eq 3 ∷ [])) ((1 ∷ []) ∷ (2 ∷ []) ∷ (100 ∷ []) ∷ (200 ∷ []) ∷ [])) (net_of totals (8 ∷ 9 ∷ 8 ∷ 8 ∷ []) (Operand.Eq 3 ∷ [])).outputs ≡ (15 ∷ 24 ∷ 139 ∷ 107 ∷ []) ∷ []
unfolding net_of totals input number_width looked_up
total_lists = refl

-- input a:3; input b:3; output p:6 = a * b;
products : List EquationShape
products = input 3 ∷ input 3 ∷ record { op = Op.Mul; args = Operand.Eq 0 ∷ Operand.Eq 1 ∷ []; declared = Some 6; kinds = false ∷ false ∷ [] } ∷ []

product_lists : map (output_list (net_of products (3 ∷ 3 ∷ 6 ∷ []) (Operand.Eq 2 ∷ [])) ((7 ∷ 7 ∷ []) ∷ (5 ∷ 6 ∷ []) ∷ [])) (net_of products (3 ∷ 3 ∷ 6 ∷ []) (Operand.Eq 2 ∷ [])).outputs ≡ (49 ∷ 30 ∷ []) ∷ []
unfolding net_of products input number_width looked_up
product_lists = refl
