-- No two units stand in one column of a stage.
use Rattle.std.proofs.Common.{◌≡◌, ◌<◌, ◌≤◌, ◌∙◌, ℕ, zero, suc, ◌+◌, ◌-◌, ◌==◌, ◌&&◌, Bool, true, false, List, [], Option, None, length, nat_le, nat_lt, slice_index_or, refl, sym, ap, subst, arith, if◌then◌else◌}
use Rattle.std.proofs.lemmas.Bool.{and_parts, eqb-true, false≢true, leb-true, ltb-true}
use Rattle.std.proofs.lemmas.Bool.Decides.{nat_tests}
use Rattle.std.proofs.lemmas.List.FromFn.{get_or-map-range_with_len, length-map-range_with_len}
use Rattle.pr_net.specs.Shape.{NetShape, cells_of}
use Rattle.pr_place.specs.Placements.{HomeShape, PlacementShape, column_of, home_of, stage_of}
use Rattle.pr_place.specs.Greedy.{IsGreedy, home_in, placed_after, seat_of}
use Rattle.pr_place.specs.Sound.{IsCell, IsSound}
use Rattle.pr_lens_notes.specs.Tables.{owner_of, stands_at}

module _ (N P : ℕ) (net : NetShape) (p : PlacementShape) (owners : List (Option ℕ)) (greedy : IsGreedy N P net p) (sound : IsSound N P net p) where
  -- a unit has as many registers as cells
  cells_are : (u : ℕ) → u < length net.units → length (home_of p u).regs ≡ length (cells_of net u)
  cells_are u lt =
      let nowhere : HomeShape = record { stage = 0; col = 0; regs = [] } in
      let placed = placed_after N P net p.stages in
      let is : home_of p u ≡ home_in net placed u = ap (λ homes. slice_index_or homes u nowhere) greedy.homes ∙ get_or-map-range_with_len (home_in net placed) 0 (length net.units) u u nowhere lt (omega arith) in
      ap (λ (h : HomeShape). length h.regs) is ∙ length-map-range_with_len (λ i. (seat_of placed u i).reg) 0 (length (cells_of net u))

  -- what stands in a column is a cell
  record Stands (k stage col : ℕ) : Type 0 where
    place : ℕ
    cell : IsCell net k place
    stage_is : stage_of p k ≡ stage
    column_is : column_of p k place ≡ col

  stands : (k stage col : ℕ) → k < length net.units → stands_at (home_of p k) stage col ≡ true → Stands k stage col
  stands k stage col lt h =
      let home = home_of p k in
      let parts = and_parts (home.stage == stage) (nat_le home.col col && nat_lt col (home.col + length home.regs)) h in
      let columns = and_parts (nat_le home.col col) (nat_lt col (home.col + length home.regs)) parts.1 in
      let low : home.col ≤ col = leb-true home.col col columns.0 in
      let high : col < home.col + length home.regs = ltb-true col (home.col + length home.regs) columns.1 in
      record { place = col - home.col; cell = record { unit = lt; place = omega (arith, low, high, cells_are k lt) }; stage_is = eqb-true home.stage stage parts.0; column_is = omega (arith, low) }

  cell_stands : (u i : ℕ) → IsCell net u i → stands_at (home_of p u) (stage_of p u) (column_of p u i) ≡ true
  cell_stands u i cell = let few = cells_are u cell.unit in let within = cell.place in grind (arith, nat_tests, few, within)

  own_by : (k u i : ℕ) → IsCell net u i → u < suc k → suc k ≤ length net.units → (b : Bool) → stands_at (home_of p k) (stage_of p u) (column_of p u i) ≡ b
      → (u < k → owner_of p owners k (stage_of p u) (column_of p u i) ≡ slice_index_or owners u None)
      → (if b then slice_index_or owners k None else owner_of p owners k (stage_of p u) (column_of p u i)) ≡ slice_index_or owners u None
  own_by k u i cell lt le true h below =
      let there = stands k (stage_of p u) (column_of p u i) (omega (arith, le)) h in
      ap (λ v. slice_index_or owners v None) (sound.alone k there.place u i there.cell cell there.stage_is there.column_is).0
  own_by k u i cell lt le false h below =
      let other : (u ≡ k → ⊥) = λ e. false≢true (sym (subst (λ v. stands_at (home_of p v) (stage_of p u) (column_of p u i) ≡ false) (sym e) h) ∙ cell_stands u i cell) in
      below (omega (arith, lt, other))

  own_to : (n u i : ℕ) → IsCell net u i → u < n → n ≤ length net.units → owner_of p owners n (stage_of p u) (column_of p u i) ≡ slice_index_or owners u None
  own_to zero u i cell lt le = absurd (omega (arith, lt))
  own_to (suc k) u i cell lt le = own_by k u i cell lt le (stands_at (home_of p k) (stage_of p u) (column_of p u i)) refl (λ below. own_to k u i cell below (omega (arith, le)))

  pub own : (u i : ℕ) → IsCell net u i → owner_of p owners (length p.homes) (stage_of p u) (column_of p u i) ≡ slice_index_or owners u None
  own u i cell = own_to (length p.homes) u i cell (omega (arith, sound.homes, cell.unit)) (omega (arith, sound.homes))

  -- ---- where no cell stands
  module _ (stage col : ℕ) (empty : (u i : ℕ) → IsCell net u i → stage_of p u ≡ stage → column_of p u i ≡ col → ⊥) where
    none_by : (k : ℕ) → k < length net.units → (b : Bool) → stands_at (home_of p k) stage col ≡ b → owner_of p owners k stage col ≡ None
        → (if b then slice_index_or owners k None else owner_of p owners k stage col) ≡ None
    none_by k lt true h below = let there = stands k stage col lt h in absurd (empty k there.place there.cell there.stage_is there.column_is)
    none_by k lt false h below = below

    none_to : (n : ℕ) → n ≤ length net.units → owner_of p owners n stage col ≡ None
    none_to zero le = refl
    none_to (suc k) le = none_by k (omega (arith, le)) (stands_at (home_of p k) stage col) refl (none_to k (omega (arith, le)))

    pub none : owner_of p owners (length p.homes) stage col ≡ None
    none = none_to (length p.homes) (omega (arith, sound.homes))
