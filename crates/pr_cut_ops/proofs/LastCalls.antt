-- What a function answers whose last call makes the units, where that call reads slices that were made before.
use Rattle.std.proofs.Common.{◌≡◌, ◌+◌, ◌≤◌, ◌∙◌, ℕ, ap, ap₂, List, length, Vec, Global, Result, arith}
use Rattle.std.specs.Prelude.{IsErr}
use Rattle.std.proofs.lemmas.Result.{IfOk-equal, IfOk-weaker, IfOk-from_err}
use Rattle.pr_net.specs.declared.cells.Slice.{Slice}
use Rattle.pr_net.specs.declared.cells.Cell.{Cell}
use Rattle.pr_cut_units.specs.Parts.{Making, units_after, slices_after, followed_by}
use Rattle.pr_cut_units.proofs.JoinLemmas.{then_units, then_slices}
use Rattle.pr_cut_ops.specs.Makes.{Makes}

-- what the call makes of the slices x and y, which are p and q: at most `own` units, after at most `few`
pub last_call : {E : Type 0} (own few most : ℕ) (making : List Slice → List Slice → Making) (all : Making) (old mid new : Vec (List Cell) Global) (r : Result (Vec Slice Global) E) (x y p q : List Slice) → Makes own (making x y) mid new r → x ≡ p → y ≡ q
    → length mid.items ≤ length old.items + few → few + own ≤ most
    → units_after mid.items (making p q) ≡ units_after old.items all → slices_after mid.items (making p q) ≡ slices_after old.items all
    → Makes most all old new r
last_call own few most making all old mid new r x y p q made first second low within units slices = record {
  grows = IfOk-weaker r (λ _. length new.items ≤ length mid.items + own) (λ _. length new.items ≤ length old.items + most) (λ s h. omega (arith, h, low, within)) made.grows;
  units = IfOk-equal r _ _ _ made.units (ap₂ (λ (v w : List Slice). units_after mid.items (making v w)) first second ∙ units);
  slices = IfOk-weaker r _ _ (λ s h. h ∙ ap₂ (λ (v w : List Slice). slices_after mid.items (making v w)) first second ∙ slices) made.slices;
}

-- what the call makes of y, which is x: the slices of a first part, of at most `few` units
pub then_made : {E : Type 0} (own few most : ℕ) (first : Making) (second : List Slice → Making) (old mid new : Vec (List Cell) Global) (x y : List Slice) (r : Result (Vec Slice Global) E)
    → mid.items ≡ units_after old.items first → x ≡ slices_after old.items first → length mid.items ≤ length old.items + few
    → Makes own (second y) mid new r → y ≡ x → few + own ≤ most → Makes most (followed_by first second) old new r
then_made own few most first second old mid new x y r units slices low made same within = record {
  grows = IfOk-weaker r (λ _. length new.items ≤ length mid.items + own) (λ _. length new.items ≤ length old.items + most) (λ s h. omega (arith, h, low, within)) made.grows;
  units = IfOk-equal r _ _ _ made.units (ap (λ (v : List Slice). units_after mid.items (second v)) same ∙ then_units first second x old.items mid.items units slices);
  slices = IfOk-weaker r _ _ (λ s h. h ∙ ap (λ (v : List Slice). slices_after mid.items (second v)) same ∙ then_slices first second x old.items mid.items units slices) made.slices;
}

-- a higher bound
pub more_made : {E : Type 0} (few most : ℕ) (making : Making) (old new : Vec (List Cell) Global) (r : Result (Vec Slice Global) E) → Makes few making old new r → few ≤ most → Makes most making old new r
more_made few most making old new r made within = record {
  grows = IfOk-weaker r (λ _. length new.items ≤ length old.items + few) (λ _. length new.items ≤ length old.items + most) (λ s h. omega (arith, h, within)) made.grows;
  units = made.units;
  slices = made.slices;
}

-- nothing is promised where memory did not serve
pub none_made : {E : Type 0} (most : ℕ) (making : Making) (old new : Vec (List Cell) Global) (r : Result (Vec Slice Global) E) → IsErr r → Makes most making old new r
none_made most making old new r h = record { grows = IfOk-from_err _ _ h; units = IfOk-from_err _ _ h; slices = IfOk-from_err _ _ h }
