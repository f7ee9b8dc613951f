-- One more step of a part that is made step by step.
use Rattle.std.proofs.Common.{◌≡◌, ℕ, suc, ◌+◌, List, ◌++◌, length, subst, ap, ◌∙◌, append_assoc, length-append}
use Rattle.pr_net.specs.declared.cells.Slice.{Slice}
use Rattle.pr_net.specs.declared.cells.Cell.{Cell}
use Rattle.pr_cut_units.specs.Parts.{Making, in_turn}

-- the units so far and those of the steps that are left are the whole
pub turn_units : (step : ℕ → List Slice → Making) (j m n : ℕ) (x y : List Slice) (us vs whole : List (List Cell)) → m ≡ suc n → vs ≡ us ++ (step j x (length us)).units → y ≡ (step j x (length us)).slices → us ++ (in_turn step j m x (length us)).units ≡ whole → vs ++ (in_turn step (j + 1) n y (length vs)).units ≡ whole
turn_units step j m n x y us vs whole em ev ey h =
    let first : List (List Cell) = (step j x (length us)).units in
    let now : List Slice = (step j x (length us)).slices in
    let start : us ++ (in_turn step j (suc n) x (length us)).units ≡ whole = subst (λ (k : ℕ). us ++ (in_turn step j k x (length us)).units ≡ whole) em h in
    rw (ev, ey) (append_assoc us first (in_turn step (j + 1) n now (length (us ++ first))).units ∙ ap (λ (k : ℕ). us ++ (first ++ (in_turn step (j + 1) n now k).units)) (length-append us first) ∙ start)

pub turn_slices : (step : ℕ → List Slice → Making) (j m n : ℕ) (x y all : List Slice) (us vs : List (List Cell)) → m ≡ suc n → vs ≡ us ++ (step j x (length us)).units → y ≡ (step j x (length us)).slices → (in_turn step j m x (length us)).slices ≡ all → (in_turn step (j + 1) n y (length vs)).slices ≡ all
turn_slices step j m n x y all us vs em ev ey h =
    let first : List (List Cell) = (step j x (length us)).units in
    let now : List Slice = (step j x (length us)).slices in
    let start : (in_turn step j (suc n) x (length us)).slices ≡ all = subst (λ (k : ℕ). (in_turn step j k x (length us)).slices ≡ all) em h in
    rw (ev, ey) (ap (λ (k : ℕ). (in_turn step (j + 1) n now k).slices) (length-append us first) ∙ start)
