use Rattle.std.proofs.Common.{◌≡◌, ℕ, [], ◌∷◌, List, ap, ◌∙◌}
use Rattle.pr_net.specs.declared.cells.Cell.{Cell}
use Rattle.pr_net.specs.declared.cells.Wire.{Wire}
use Rattle.pr_net.specs.declared.cells.Slice.{Slice}
use Rattle.pr_net.specs.Shape.{NetShape, OutputShape}
use Rattle.pr_compile_tests.specs.Nets.{lookup, input_cell, xor_net}
use Rattle.pr_compile_tests.proofs.nets.xor_net.Goals as goal

abbrev net_with : List (List Cell) → List (List ℕ) → List ℕ → List OutputShape → NetShape
net_with us gs ins outs = record { units = us; groups = gs; inputs = ins; outputs = outs }

same_net : (u v : List (List Cell)) (g h : List (List ℕ)) (i j : List ℕ) (o p : List OutputShape) → u ≡ v → g ≡ h → i ≡ j → o ≡ p → net_with u g i o ≡ net_with v h j p
same_net u v g h i j o p a b c d = cc

three : {X : Type 0} (xs : List X) (a b c x y z : X) → xs ≡ a ∷ b ∷ c ∷ [] → a ≡ x → b ≡ y → c ≡ z → xs ≡ x ∷ y ∷ z ∷ []
three xs a b c x y z e p q r = cc

abbrev output_with : List Slice → List OutputShape
output_with slices = record { width = 8; slices = slices } ∷ []

pub returns : goal.returns
unfolding xor_net
returns c =
    let one : Cell → List Cell = λ k. k ∷ [] in
    let units = three c.in_ok-vec.field-0.items _ _ _ (input_cell 0 ∷ []) (input_cell 1 ∷ []) (lookup (Wire.Of 0 0) (Wire.Of 1 0) 102 ∷ []) c.in_ok-vec.ensures.items (c.in_ok-unit_of.ensures ∙ ap one c.input_cell.ensures) (c.in_ok-unit_of-2.ensures ∙ ap one c.input_cell-2.ensures) (c.in_ok-unit_of-3.ensures ∙ ap one c.lookup-sum.ensures) in
    let groups = three c.in_ok-vec-2.field-0.items _ _ _ (0 ∷ []) (1 ∷ []) (2 ∷ []) c.in_ok-vec-2.ensures.items c.in_ok-group_of.ensures c.in_ok-group_of-2.ensures c.in_ok-group_of-3.ensures in
    same_net _ _ _ _ _ _ _ _ units groups c.in_ok-vec-3.ensures.items (c.in_ok-vec-4.ensures.items ∙ ap output_with c.in_ok-slices.ensures.items)
