-- The owners of units, by the columns in which the units stand.
use Rattle.std.proofs.Common.{◌≡◌, ◌<◌, ◌≤◌, ◌⊎◌, ◌∙◌, ℕ, ◌+◌, ◌*◌, ◌==◌, ◌&&◌, Bool, true, false, List, [], Option, None, length, get_or, min, nat_le, nat_lt, slice_index_or, refl, sym, ap, arith, add-one, inl, inr, if◌then◌else◌}
use Rattle.std.proofs.lemmas.Bool.{cases_order, eqb-false, eqb-true, leb-false, leb-true, ltb-false, ltb-true}
use Rattle.std.proofs.lemmas.List.{get_or-map}
use Rattle.std.proofs.Math.Nat.{mul-le-mul_right}
use Rattle.pr_place.specs.declared.placements.Home.{Home}
use Rattle.pr_place.specs.declared.placements.Placement.{Placement}
use Rattle.pr_place.specs.Placements.{HomeShape, home_of, home_shape, shape_of}
use Rattle.pr_lens_notes.specs.Tables.{owner_of, stands_at}

-- ---- the places of the columns in which a unit stands
module _ (home : HomeShape) (columns len stage col end from to : ℕ) (low : col < columns) (there : stage * columns + col < len)
    (from_is : from ≡ min (home.stage * columns + min home.col columns) len) (to_is : to ≡ min (home.stage * columns + min end columns) len) (end_is : min end columns ≡ min (home.col + length home.regs) columns) where
  pub starts : home.stage ≡ stage → home.col ≤ col → from ≤ stage * columns + col
  starts e le = let same : home.stage * columns ≡ stage * columns = ap (λ s. s * columns) e in omega (arith, from_is, same, le, low)

  pub stops : home.stage ≡ stage → col < home.col + length home.regs → stage * columns + col < to
  stops e lt = let same : home.stage * columns ≡ stage * columns = ap (λ s. s * columns) e in omega (arith, to_is, end_is, same, lt, low, there)

  pub earlier : stage < home.stage → stage * columns + col < from
  earlier lt = let more : (stage + 1) * columns ≤ home.stage * columns = mul-le-mul_right columns (omega (arith, lt)) in omega (arith, from_is, more, low, there)

  pub later : home.stage < stage → to ≤ stage * columns + col
  later lt = let more : (home.stage + 1) * columns ≤ stage * columns = mul-le-mul_right columns (omega (arith, lt)) in omega (arith, to_is, more, low)

  pub left : home.stage ≡ stage → col < home.col → stage * columns + col < from
  left e lt = let same : home.stage * columns ≡ stage * columns = ap (λ s. s * columns) e in omega (arith, from_is, same, lt, low, there)

  pub right : home.stage ≡ stage → home.col + length home.regs ≤ col → to ≤ stage * columns + col
  right e le = let same : home.stage * columns ≡ stage * columns = ap (λ s. s * columns) e in omega (arith, to_is, end_is, same, le, low)

  -- what stands at the place of the column once the unit is put
  module _ (owner was now : Option ℕ) (before : stage * columns + col < from → now ≡ was) (inside : from ≤ stage * columns + col → stage * columns + col < to → now ≡ owner) (behind : to ≤ stage * columns + col → now ≡ was) where
    by_columns : home.stage ≡ stage → (b c : Bool) → nat_le home.col col ≡ b → nat_lt col (home.col + length home.regs) ≡ c → now ≡ (if b && c then owner else was)
    by_columns e true true l h = inside (starts e (leb-true home.col col l)) (stops e (ltb-true col (home.col + length home.regs) h))
    by_columns e true false l h = behind (right e (ltb-false col (home.col + length home.regs) h))
    by_columns e false c l h = before (left e (leb-false home.col col l))

    elsewhere : (home.stage == stage) ≡ false → (home.stage ≡ stage) ⊎ ((home.stage < stage) ⊎ (stage < home.stage)) → now ≡ was
    elsewhere f (inl e) = absurd (eqb-false home.stage stage f e)
    elsewhere f (inr (inl lt)) = behind (later lt)
    elsewhere f (inr (inr lt)) = before (earlier lt)

    by_stage : (b : Bool) → (home.stage == stage) ≡ b → now ≡ (if b && (nat_le home.col col && nat_lt col (home.col + length home.regs)) then owner else was)
    by_stage true e = by_columns (eqb-true home.stage stage e) (nat_le home.col col) (nat_lt col (home.col + length home.regs)) refl refl
    by_stage false e = elsewhere e (cases_order home.stage stage)

    pub put_is : now ≡ (if stands_at home stage col then owner else was)
    put_is = by_stage (home.stage == stage) refl

-- ---- one unit more
module _ (placement : Placement) (owners : List (Option ℕ)) (u stage col : ℕ) (home : Home) where
  abbrev nowhere : HomeShape
  nowhere = record { stage = 0; col = 0; regs = [] }

  pub one_more : {owner before now : Option ℕ} → u < length placement.homes.items → home ≡ get_or placement.homes.items u home → owner ≡ slice_index_or owners u None → before ≡ owner_of (shape_of placement) owners u stage col
      → now ≡ (if stands_at (home_shape home) stage col then owner else before) → now ≡ owner_of (shape_of placement) owners (u + 1) stage col
  one_more {owner} {before} {now} lt is owned was e =
      let same : home_of (shape_of placement) u ≡ home_shape home = get_or-map home_shape placement.homes.items u home nowhere lt ∙ ap home_shape (sym is) in
      rw add-one (e ∙ ap (λ h. if stands_at h stage col then owner else before) (sym same) ∙ ap (λ o. if stands_at (home_of (shape_of placement) u) stage col then o else before) owned ∙ ap (λ b. if stands_at (home_of (shape_of placement) u) stage col then slice_index_or owners u None else b) was)
