-- The bytes of a net of one input, computed.
use Rattle.std.proofs.Common.{◌≡◌, Some, List, [], ◌∷◌, refl}
use Rattle.pr_base.specs.Pe.{looked_up}
use Rattle.pr_flat.specs.declared.equations.Op.{Op}
use Rattle.pr_flat.specs.declared.equations.Operand.{Operand}
use Rattle.pr_flat.specs.Shape.{EquationShape}
use Rattle.pr_net.specs.declared.cells.Slice.{Slice}
use Rattle.pr_cut_units.specs.Nets.{net_of}
use Rattle.pr_cut_laws.specs.Laws.{cut_value}
use Rattle.pr_cut_bytes.specs.Bytes.{byte_lists, slice_lists}

-- input x:12; output y = x;
one_input : List EquationShape
one_input = record { op = Op.Input; args = []; declared = Some 12; kinds = [] } ∷ []

-- 300 is 44 and 1 times 256
number_bytes : byte_lists 12 (300 ∷ 5 ∷ []) ≡ (44 ∷ 5 ∷ []) ∷ (1 ∷ 0 ∷ []) ∷ []
number_bytes = refl

cut_slices : cut_value one_input (12 ∷ []) (Operand.Eq 0 ∷ []) 0 ≡ Slice.Of 0 0 ∷ Slice.Of 0 1 ∷ []
unfolding one_input
cut_slices = refl

slice_bytes : slice_lists (net_of one_input (12 ∷ []) (Operand.Eq 0 ∷ [])) ((300 ∷ []) ∷ (5 ∷ []) ∷ []) (Slice.Of 0 0 ∷ Slice.Of 0 1 ∷ []) ≡ (44 ∷ 5 ∷ []) ∷ (1 ∷ 0 ∷ []) ∷ []
unfolding net_of one_input looked_up
slice_bytes = refl
