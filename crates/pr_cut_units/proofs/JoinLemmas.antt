-- Parts that are made one after the other, from what was appended at each.
use Rattle.std.proofs.Common.{◌≡◌, ℕ, List, ◌++◌, length, ap, ◌∙◌, append_assoc, length-append}
use Rattle.pr_net.specs.declared.cells.Slice.{Slice}
use Rattle.pr_net.specs.declared.cells.Cell.{Cell}
use Rattle.pr_cut_units.specs.Parts.{Making, followed_by}
use Rattle.pr_cut_units.specs.Widening.{Argument, widened, both_widened}

pub then_units : (first : Making) (second : List Slice → Making) (x : List Slice) (us vs : List (List Cell)) → vs ≡ us ++ (first (length us)).units → x ≡ (first (length us)).slices → vs ++ (second x (length vs)).units ≡ us ++ (followed_by first second (length us)).units
then_units first second x us vs ev ex =
    let first_units : List (List Cell) = (first (length us)).units in
    let now : List Slice = (first (length us)).slices in
    rw (ev, ex) (append_assoc us first_units (second now (length (us ++ first_units))).units ∙ ap (λ (k : ℕ). us ++ (first_units ++ (second now k).units)) (length-append us first_units))

pub then_slices : (first : Making) (second : List Slice → Making) (x : List Slice) (us vs : List (List Cell)) → vs ≡ us ++ (first (length us)).units → x ≡ (first (length us)).slices → (second x (length vs)).slices ≡ (followed_by first second (length us)).slices
then_slices first second x us vs ev ex =
    let first_units : List (List Cell) = (first (length us)).units in
    let now : List Slice = (first (length us)).slices in
    rw (ev, ex) (ap (λ (k : ℕ). (second now k).slices) (length-append us first_units))

pub both_units : (t : ℕ) (a b : Argument) (making : List Slice → List Slice → Making) (x y : List Slice) (us vs ws : List (List Cell)) → vs ≡ us ++ (widened a t (length us)).units → x ≡ (widened a t (length us)).slices → ws ≡ vs ++ (widened b t (length vs)).units → y ≡ (widened b t (length vs)).slices → ws ++ (making x y (length ws)).units ≡ us ++ (both_widened t a b making (length us)).units
both_units t a b making x y us vs ws ev ex ew ey = then_units (widened b t) (λ y. making x y) y vs ws ew ey ∙ then_units (widened a t) (λ x. followed_by (widened b t) (λ y. making x y)) x us vs ev ex

pub both_slices : (t : ℕ) (a b : Argument) (making : List Slice → List Slice → Making) (x y : List Slice) (us vs ws : List (List Cell)) → vs ≡ us ++ (widened a t (length us)).units → x ≡ (widened a t (length us)).slices → ws ≡ vs ++ (widened b t (length vs)).units → y ≡ (widened b t (length vs)).slices → (making x y (length ws)).slices ≡ (both_widened t a b making (length us)).slices
both_slices t a b making x y us vs ws ev ex ew ey = then_slices (widened b t) (λ y. making x y) y vs ws ew ey ∙ then_slices (widened a t) (λ x. followed_by (widened b t) (λ y. making x y)) x us vs ev ex
