-- The table of units as a whole: what an operator's units show is its number in the language.
use Rattle.std.proofs.Common.{ℕ, ◌≡◌, ◌+◌, ◌/◌, ◌%◌, ◌^◌, ◌-◌, ◌≤◌, ◌||◌, ◌&&◌, ◌==◌, min, max, Bool, true, false, cond, List, [], ◌∷◌, length, map, refl, ap, sym, ◌∙◌, arith}
use Rattle.std.specs.Bool.{if◌then◌else◌}
use Rattle.std.proofs.Math.Nat.{le-max_left}
use Rattle.pr_base.specs.Numbers.{slices_of}
use Rattle.pr_flat.specs.declared.equations.Op.{Op}
use Rattle.pr_flat.specs.declared.forms.Point.{Point}
use Rattle.pr_flat.specs.Forms.{wider, wider_signed, signed_width}
use Rattle.pr_flat.specs.Rows.{forms_of, natural_width, natural_form, natural_number, gives_signed, AreLawful}
use Rattle.pr_flat.specs.Values.{operator_number}
use Rattle.pr_flat.proofs.RowLemmas.{natural_number-lt}
use Rattle.pr_base.specs.declared.choices.Carry.{Carry}
use Rattle.pr_net.specs.declared.cells.Slice.{Slice}
use Rattle.pr_net.specs.declared.cells.Cell.{Cell}
use Rattle.pr_net.specs.Reading.{Reading, Has, shown}
use Rattle.pr_net.specs.Runs.{AreBytes}
use Rattle.pr_cut_units.specs.declared.chains.Style.{Style}
use Rattle.pr_cut_units.specs.Cells.{plain, slice_at, slice_below, top, with_left, with_right, table_b, table_and, table_or, table_xor}
use Rattle.pr_cut_units.specs.Parts.{Making, Part, each, kept, one_unit, followed_by}
use Rattle.pr_cut_units.specs.Widening.{Argument, widened, both_widened, flipped}
use Rattle.pr_cut_units.specs.Operators.{bitwise, chosen, sum_cell, summed, added, subtracted, ends_whole, moved_left, extracted, moved_right}
use Rattle.pr_cut_units.specs.Shifts.{shifted_by, moved_by, signed_moved_by}
use Rattle.pr_cut_units.specs.Table.{operator_units, result_units, units_at}
use Rattle.pr_cut_units.proofs.EachLemmas.{length-each}
use Rattle.pr_cut_units.proofs.GoodParts.{GoodPart}
use Rattle.pr_cut_units.proofs.GoodTable.{KnownArguments, good_operator}
use Rattle.pr_cut_laws.proofs.Products.{length-places}
use Rattle.pr_cut_laws.proofs.Wides.{point_of, IsArgument}
use Rattle.pr_cut_laws.proofs.Finish.{finish}
use Rattle.pr_cut_laws.proofs.Sums.{both_same, add_own, sub_own, and_own, or_own, xor_own, not_own, choose_own, left_own, fit_own, slice_own, cat_own}
use Rattle.pr_cut_laws.proofs.Shifted.{right_own, left_by_own, right_by_own, mul_own, mul_long}
use Rattle.pr_cut_laws.proofs.Tests.{less_own, greater_equal_own, greater_own, less_equal_own, equal_own, not_equal_own}

-- ---- how many slices an operator's own part has
long_unit : (n u : ℕ) → n / 8 ≤ length (each (slices_of n) (λ i. Slice.Of u i))
long_unit n u = omega (arith, length-each (λ i. Slice.Of u i) (slices_of n))

long_both : (n t u : ℕ) (a b : Argument) (making : List Slice → List Slice → Making) → ((x y : List Slice) (v : ℕ) → n / 8 ≤ length (making x y v).slices) → n / 8 ≤ length (both_widened t a b making u).slices
long_both n t u a b making h =
    let p : Part = widened a t u in
    let m : ℕ = u + length p.units in
    let q : Part = widened b t m in
    h p.slices q.slices (m + length q.units)

long_sum : (e table u : ℕ) (first : Carry) (x y : List Slice) → e / 8 ≤ length (summed e table first x y u).slices
long_sum e table u first x y =
    let f : ℕ → Cell = λ i. record (sum_cell table x y i) { mask = top e i } in
    omega (arith, length-places Style.ByBit u 4 0 (each (slices_of e) f), length-each f (slices_of e))

long_extracted : (e w l u : ℕ) (x : List Slice) → e / 8 ≤ length (extracted e w l x u).slices
long_extracted e w l u x = go (l % 8 == 0 && ends_whole (l + e) w)
  where
    go : (t : Bool) → e / 8 ≤ length ((if t then kept (each (slices_of e) (λ i. slice_at x (i + l / 8))) else one_unit (slices_of e) (λ i. with_right x l i (record plain { table = table_b; mask = top e i }))) u).slices
    go true = omega (arith, length-each (λ i. slice_at x (i + l / 8)) (slices_of e))
    go false = omega (arith, length-each (λ i. Slice.Of u i) (slices_of e))

long_left : (e w k u : ℕ) (x : List Slice) → e / 8 ≤ length (moved_left e w k x u).slices
long_left e w k u x = go (k % 8 == 0 && ends_whole e (w + k))
  where
    go : (t : Bool) → e / 8 ≤ length ((if t then kept (each (slices_of e) (λ i. slice_below x i (k / 8))) else one_unit (slices_of e) (λ i. with_left x k i (record plain { table = table_b; mask = top e i }))) u).slices
    go true = omega (arith, length-each (λ i. slice_below x i (k / 8)) (slices_of e))
    go false = omega (arith, length-each (λ i. Slice.Of u i) (slices_of e))

long_then : (n u : ℕ) (first : Making) (second : List Slice → Making) → ((x : List Slice) (v : ℕ) → n / 8 ≤ length (second x v).slices) → n / 8 ≤ length (followed_by first second u).slices
long_then n u first second h = h (first u).slices (u + length (first u).units)

long_moved : (left : Bool) (e u : ℕ) (a by : Argument) → e / 8 ≤ length (moved_by left e a by u).slices
long_moved left e u a by = long_then e u (shifted_by left a.form.width by.slices by.form.width a.slices) (λ x. extracted e a.form.width 0 x) (λ x v. long_extracted e a.form.width 0 v x)

long_signed : (e u : ℕ) (a by : Argument) → e / 8 ≤ length (signed_moved_by e a by u).slices
long_signed e u a by =
    let last : List Slice → Making = λ z. extracted e a.form.width 0 z in
    let third : List Slice → Making = λ y. followed_by (flipped a y) last in
    let second : List Slice → Making = λ x. followed_by (shifted_by false a.form.width by.slices by.form.width x) third in
    long_then e u (flipped a a.slices) second (λ x v. long_then e v (shifted_by false a.form.width by.slices by.form.width x) third (λ y t. long_then e t (flipped a y) last (λ z s. long_extracted e a.form.width 0 s z)))

long_right_by : (s : Bool) (e u : ℕ) (a by : Argument) → e / 8 ≤ length ((if s then signed_moved_by e a by else moved_by false e a by) u).slices
long_right_by true e u a by = long_signed e u a by
long_right_by false e u a by = long_moved false e u a by

no_truth : {A : Type 0} → false ≡ true → A
no_truth e = absurd (grind (arith, e))

and_true : (s : Bool) → (s && true) ≡ true → s ≡ true
and_true true e = refl
and_true false e = no_truth e

and_false : {A : Type 0} (s : Bool) → (s && false) ≡ true → A
and_false true e = no_truth e
and_false false e = no_truth e

long_right : (s : Bool) (e k u v : ℕ) (x : List Slice) → (s && true) ≡ true → e / 8 ≤ length (moved_right e k (record { slices = x; form = record { signed = s; width = v } }) u).slices
long_right true e k u v x h = long_extracted e v (min k (v - 1)) u x
long_right false e k u v x h = no_truth h

-- ---- the premises
abbrev pub points_of : Reading → List Argument → List Point
points_of r args = map (point_of r) args

abbrev pub AreArguments : Reading → ℕ → List Argument → Type 0
AreArguments r u [] = Unit {0}
AreArguments r u (a ∷ args) = IsArgument r u a × AreArguments r u args

known_of : (r : Reading) (u : ℕ) (args : List Argument) → AreArguments r u args → KnownArguments u args
known_of r u [] h = tt
known_of r u (a ∷ args) h = ((h.0.known, h.0.point.form.positive), known_of r u args h.1)

lawful_of : (r : Reading) (u : ℕ) (args : List Argument) → AreArguments r u args → AreLawful (points_of r args)
lawful_of r u [] h = tt
lawful_of r u (a ∷ args) h = (h.0.point.below, lawful_of r u args h.1)

-- an operator without state, on as many operands as it takes; a condition has one bit
abbrev pub IsOperator : Op → List Argument → Type 0
IsOperator Op.Not (a ∷ []) = Unit {0}
IsOperator (Op.Left k) (a ∷ []) = Unit {0}
IsOperator (Op.Right k) (a ∷ []) = Unit {0}
IsOperator (Op.Slice high low) (a ∷ []) = Unit {0}
IsOperator Op.Fit (a ∷ []) = Unit {0}
IsOperator Op.Add (a ∷ b ∷ []) = Unit {0}
IsOperator Op.Sub (a ∷ b ∷ []) = Unit {0}
IsOperator Op.Mul (a ∷ b ∷ []) = Unit {0}
IsOperator Op.And (a ∷ b ∷ []) = Unit {0}
IsOperator Op.Or (a ∷ b ∷ []) = Unit {0}
IsOperator Op.Xor (a ∷ b ∷ []) = Unit {0}
IsOperator Op.Equal (a ∷ b ∷ []) = Unit {0}
IsOperator Op.NotEqual (a ∷ b ∷ []) = Unit {0}
IsOperator Op.Less (a ∷ b ∷ []) = Unit {0}
IsOperator Op.LessEqual (a ∷ b ∷ []) = Unit {0}
IsOperator Op.Greater (a ∷ b ∷ []) = Unit {0}
IsOperator Op.GreaterEqual (a ∷ b ∷ []) = Unit {0}
IsOperator Op.LeftBy (a ∷ b ∷ []) = Unit {0}
IsOperator Op.RightBy (a ∷ b ∷ []) = Unit {0}
IsOperator Op.Cat (a ∷ b ∷ []) = Unit {0}
IsOperator Op.Choose (c ∷ a ∷ b ∷ []) = c.form.width ≡ 1
IsOperator op args = ⊥

-- ---- the end of each row
end : (r : Reading) (u w : ℕ) (op : Op) (points : List Point) (making : Making) → 1 ≤ w → 1 ≤ natural_width op (forms_of points) → AreLawful points → AreBytes r → GoodPart u (making u)
    → (gives_signed op (forms_of points) ≡ true → Has r u (making u).units → min w (natural_width op (forms_of points)) / 8 ≤ length (making u).slices)
    → (Has r u (making u).units → shown r (making u).slices ≡ natural_number op points % 2 ^ min w (natural_width op (forms_of points)))
    → Has r u (result_units w (min w (natural_width op (forms_of points))) (gives_signed op (forms_of points)) making u).units
    → shown r (result_units w (min w (natural_width op (forms_of points))) (gives_signed op (forms_of points)) making u).slices ≡ operator_number w op points
end r u w op points making hw hv lawful bs good long own has = finish r u w (natural_number op points) (natural_form op (forms_of points)) making hw hv (natural_number-lt op points lawful) bs good long own has

some_of : (s : Bool) (v w : ℕ) → 1 ≤ v → 1 ≤ w → 1 ≤ cond s v w
some_of true v w h k = h
some_of false v w h k = k

grown : (s : Bool) (v : ℕ) → v ≤ cond s v (v + 1)
grown true v = omega arith
grown false v = omega arith

some_wider : (a b : Argument) → 1 ≤ a.form.width → (1 ≤ wider_signed a.form b.form) × (1 ≤ wider a.form b.form)
some_wider a b h =
    let g : a.form.width ≤ signed_width a.form = grown a.form.signed a.form.width in
    (omega (arith, h, g, le-max_left (signed_width a.form) (signed_width b.form)), omega (arith, h, le-max_left a.form.width b.form.width))

one_bit : (s : Bool) (w : ℕ) → 1 ≤ w → min w (cond s 1 1) ≡ 1
one_bit true w h = omega (arith, h)
one_bit false w h = omega (arith, h)

-- what the units of an operator show
pub operator_shows : (r : Reading) (u w : ℕ) (op : Op) (args : List Argument) → 1 ≤ w → w ≤ 128 → AreBytes r → AreArguments r u args → IsOperator op args → Has r u (units_at w op args u).units → shown r (units_at w op args u).slices ≡ operator_number w op (points_of r args)
operator_shows r u w Op.Add (a ∷ b ∷ []) hw few bs h o has =
    let nw : ℕ = natural_width Op.Add (a.form ∷ b.form ∷ []) in
    let some : 1 ≤ nw = some_of (a.form.signed || b.form.signed) (wider_signed a.form b.form + 1) (wider a.form b.form + 1) (omega arith) (omega arith) in
    let e : ℕ = min w nw in
    end r u w Op.Add (points_of r (a ∷ b ∷ [])) (operator_units e Op.Add (a ∷ b ∷ [])) hw some (lawful_of r u (a ∷ b ∷ []) h) bs (good_operator u e Op.Add (a ∷ b ∷ []) (known_of r u (a ∷ b ∷ []) h))
    (λ s k. long_both e e u a b (added e) (λ x y v. long_sum e 204 v Carry.Zero x y)) (add_own r u e a b (omega (arith, hw, some)) (omega arith) bs h.0 h.1.0) has
operator_shows r u w Op.Sub (a ∷ b ∷ []) hw few bs h o has =
    let nw : ℕ = natural_width Op.Sub (a.form ∷ b.form ∷ []) in
    let some : 1 ≤ nw = some_of (a.form.signed || b.form.signed) (wider_signed a.form b.form + 1) (wider a.form b.form) (omega arith) (some_wider a b h.0.point.form.positive).1 in
    let e : ℕ = min w nw in
    end r u w Op.Sub (points_of r (a ∷ b ∷ [])) (operator_units e Op.Sub (a ∷ b ∷ [])) hw some (lawful_of r u (a ∷ b ∷ []) h) bs (good_operator u e Op.Sub (a ∷ b ∷ []) (known_of r u (a ∷ b ∷ []) h))
    (λ s k. long_both e e u a b (subtracted e) (λ x y v. long_sum e 51 v Carry.One x y)) (sub_own r u e a b (omega (arith, hw, some)) (omega arith) bs h.0 h.1.0) has
operator_shows r u w Op.Mul (a ∷ b ∷ []) hw few bs h o has =
    let nw : ℕ = natural_width Op.Mul (a.form ∷ b.form ∷ []) in
    let g : a.form.width ≤ signed_width a.form = grown a.form.signed a.form.width in
    let p : 1 ≤ a.form.width = h.0.point.form.positive in
    let some : 1 ≤ nw = some_of (a.form.signed || b.form.signed) (signed_width a.form + signed_width b.form) (a.form.width + b.form.width) (omega (arith, g, p)) (omega (arith, p)) in
    let e : ℕ = min w nw in
    end r u w Op.Mul (points_of r (a ∷ b ∷ [])) (operator_units e Op.Mul (a ∷ b ∷ [])) hw some (lawful_of r u (a ∷ b ∷ []) h) bs (good_operator u e Op.Mul (a ∷ b ∷ []) (known_of r u (a ∷ b ∷ []) h))
    (λ s k. mul_long r u e a b (omega (arith, hw, some)) (omega (arith, few)) bs h.0 h.1.0 (and_true (a.form.signed || b.form.signed) s) k) (mul_own r u e a b (omega (arith, hw, some)) (omega (arith, few)) (omega arith) bs h.0 h.1.0) has
operator_shows r u w Op.And (a ∷ b ∷ []) hw few bs h o has =
    let nw : ℕ = natural_width Op.And (a.form ∷ b.form ∷ []) in
    let t = some_wider a b h.0.point.form.positive in
    let some : 1 ≤ nw = some_of (a.form.signed || b.form.signed) (wider_signed a.form b.form) (wider a.form b.form) t.0 t.1 in
    let e : ℕ = min w nw in
    end r u w Op.And (points_of r (a ∷ b ∷ [])) (operator_units e Op.And (a ∷ b ∷ [])) hw some (lawful_of r u (a ∷ b ∷ []) h) bs (good_operator u e Op.And (a ∷ b ∷ []) (known_of r u (a ∷ b ∷ []) h))
    (λ s k. long_both e e u a b (bitwise e table_and) (λ x y v. long_unit e v)) (and_own r u e a b (omega (arith, hw, some)) (omega arith) bs h.0 h.1.0) has
operator_shows r u w Op.Or (a ∷ b ∷ []) hw few bs h o has =
    let nw : ℕ = natural_width Op.Or (a.form ∷ b.form ∷ []) in
    let t = some_wider a b h.0.point.form.positive in
    let some : 1 ≤ nw = some_of (a.form.signed || b.form.signed) (wider_signed a.form b.form) (wider a.form b.form) t.0 t.1 in
    let e : ℕ = min w nw in
    end r u w Op.Or (points_of r (a ∷ b ∷ [])) (operator_units e Op.Or (a ∷ b ∷ [])) hw some (lawful_of r u (a ∷ b ∷ []) h) bs (good_operator u e Op.Or (a ∷ b ∷ []) (known_of r u (a ∷ b ∷ []) h))
    (λ s k. long_both e e u a b (bitwise e table_or) (λ x y v. long_unit e v)) (or_own r u e a b (omega (arith, hw, some)) (omega arith) bs h.0 h.1.0) has
operator_shows r u w Op.Xor (a ∷ b ∷ []) hw few bs h o has =
    let nw : ℕ = natural_width Op.Xor (a.form ∷ b.form ∷ []) in
    let t = some_wider a b h.0.point.form.positive in
    let some : 1 ≤ nw = some_of (a.form.signed || b.form.signed) (wider_signed a.form b.form) (wider a.form b.form) t.0 t.1 in
    let e : ℕ = min w nw in
    end r u w Op.Xor (points_of r (a ∷ b ∷ [])) (operator_units e Op.Xor (a ∷ b ∷ [])) hw some (lawful_of r u (a ∷ b ∷ []) h) bs (good_operator u e Op.Xor (a ∷ b ∷ []) (known_of r u (a ∷ b ∷ []) h))
    (λ s k. long_both e e u a b (bitwise e table_xor) (λ x y v. long_unit e v)) (xor_own r u e a b (omega (arith, hw, some)) (omega arith) bs h.0 h.1.0) has
operator_shows r u w Op.Choose (c ∷ a ∷ b ∷ []) hw few bs h o has =
    let nw : ℕ = natural_width Op.Choose (c.form ∷ a.form ∷ b.form ∷ []) in
    let t = some_wider a b h.1.0.point.form.positive in
    let some : 1 ≤ nw = some_of (a.form.signed || b.form.signed) (wider_signed a.form b.form) (wider a.form b.form) t.0 t.1 in
    let e : ℕ = min w nw in
    end r u w Op.Choose (points_of r (c ∷ a ∷ b ∷ [])) (operator_units e Op.Choose (c ∷ a ∷ b ∷ [])) hw some (lawful_of r u (c ∷ a ∷ b ∷ []) h) bs (good_operator u e Op.Choose (c ∷ a ∷ b ∷ []) (known_of r u (c ∷ a ∷ b ∷ []) h))
    (λ s k. long_both e e u a b (chosen e c.slices) (λ x y v. long_unit e v)) (choose_own r u e c a b (omega (arith, hw, some)) (omega arith) bs h.0 h.1.0 h.1.1.0 o) has
operator_shows r u w Op.Not (a ∷ []) hw few bs h o has =
    let nw : ℕ = natural_width Op.Not (a.form ∷ []) in
    let p : 1 ≤ a.form.width = h.0.point.form.positive in
    let some : 1 ≤ nw = some_of a.form.signed a.form.width a.form.width p p in
    let e : ℕ = min w nw in
    end r u w Op.Not (points_of r (a ∷ [])) (operator_units e Op.Not (a ∷ [])) hw some (lawful_of r u (a ∷ []) h) bs (good_operator u e Op.Not (a ∷ []) (known_of r u (a ∷ []) h))
    (λ s k. long_unit e u) (not_own r u e a (omega (arith, hw, some)) (omega arith) bs h.0) has
operator_shows r u w (Op.Left k) (a ∷ []) hw few bs h o has =
    let nw : ℕ = natural_width (Op.Left k) (a.form ∷ []) in
    let p : 1 ≤ a.form.width + k = omega (arith, h.0.point.form.positive) in
    let some : 1 ≤ nw = some_of a.form.signed (a.form.width + k) (a.form.width + k) p p in
    let e : ℕ = min w nw in
    end r u w (Op.Left k) (points_of r (a ∷ [])) (operator_units e (Op.Left k) (a ∷ [])) hw some (lawful_of r u (a ∷ []) h) bs (good_operator u e (Op.Left k) (a ∷ []) (known_of r u (a ∷ []) h))
    (λ s q. long_left e a.form.width k u a.slices) (left_own r u e k a (omega (arith, hw, some)) bs h.0) has
operator_shows r u w (Op.Right k) (a ∷ []) hw few bs h o has =
    let nw : ℕ = natural_width (Op.Right k) (a.form ∷ []) in
    let p : 1 ≤ max 1 (a.form.width - k) = omega arith in
    let some : 1 ≤ nw = some_of a.form.signed (max 1 (a.form.width - k)) (max 1 (a.form.width - k)) p p in
    let e : ℕ = min w nw in
    end r u w (Op.Right k) (points_of r (a ∷ [])) (operator_units e (Op.Right k) (a ∷ [])) hw some (lawful_of r u (a ∷ []) h) bs (good_operator u e (Op.Right k) (a ∷ []) (known_of r u (a ∷ []) h))
    (λ s q. long_right a.form.signed e k u a.form.width a.slices s) (right_own r u e k a (omega (arith, hw, some)) bs h.0) has
operator_shows r u w (Op.Slice high low) (a ∷ []) hw few bs h o has =
    let nw : ℕ = natural_width (Op.Slice high low) (a.form ∷ []) in
    let some : 1 ≤ nw = omega arith in
    let e : ℕ = min w nw in
    end r u w (Op.Slice high low) (points_of r (a ∷ [])) (operator_units e (Op.Slice high low) (a ∷ [])) hw some (lawful_of r u (a ∷ []) h) bs (good_operator u e (Op.Slice high low) (a ∷ []) (known_of r u (a ∷ []) h))
    (λ s q. no_truth s) (slice_own r u e high low a (omega (arith, hw, some)) (omega arith) bs h.0) has
operator_shows r u w Op.Fit (a ∷ []) hw few bs h o has =
    let nw : ℕ = natural_width Op.Fit (a.form ∷ []) in
    let some : 1 ≤ nw = h.0.point.form.positive in
    let e : ℕ = min w nw in
    end r u w Op.Fit (points_of r (a ∷ [])) (operator_units e Op.Fit (a ∷ [])) hw some (lawful_of r u (a ∷ []) h) bs (good_operator u e Op.Fit (a ∷ []) (known_of r u (a ∷ []) h))
    (λ s q. long_extracted e a.form.width 0 u a.slices) (fit_own r u e a (omega (arith, hw, some)) bs h.0) has
operator_shows r u w Op.Cat (a ∷ b ∷ []) hw few bs h o has =
    let nw : ℕ = natural_width Op.Cat (a.form ∷ b.form ∷ []) in
    let some : 1 ≤ nw = omega (arith, h.0.point.form.positive) in
    let e : ℕ = min w nw in
    end r u w Op.Cat (points_of r (a ∷ b ∷ [])) (operator_units e Op.Cat (a ∷ b ∷ [])) hw some (lawful_of r u (a ∷ b ∷ []) h) bs (good_operator u e Op.Cat (a ∷ b ∷ []) (known_of r u (a ∷ b ∷ []) h))
    (λ s q. no_truth s) (cat_own r u e a b (omega (arith, hw, some)) bs h.0 h.1.0) has
operator_shows r u w Op.LeftBy (a ∷ b ∷ []) hw few bs h o has =
    let nw : ℕ = natural_width Op.LeftBy (a.form ∷ b.form ∷ []) in
    let p : 1 ≤ a.form.width = h.0.point.form.positive in
    let some : 1 ≤ nw = some_of a.form.signed a.form.width a.form.width p p in
    let e : ℕ = min w nw in
    end r u w Op.LeftBy (points_of r (a ∷ b ∷ [])) (operator_units e Op.LeftBy (a ∷ b ∷ [])) hw some (lawful_of r u (a ∷ b ∷ []) h) bs (good_operator u e Op.LeftBy (a ∷ b ∷ []) (known_of r u (a ∷ b ∷ []) h))
    (λ s q. long_moved true e u a b) (left_by_own r u e a b (omega (arith, hw, some)) bs h.0 h.1.0) has
operator_shows r u w Op.RightBy (a ∷ b ∷ []) hw few bs h o has =
    let nw : ℕ = natural_width Op.RightBy (a.form ∷ b.form ∷ []) in
    let p : 1 ≤ a.form.width = h.0.point.form.positive in
    let is : nw ≡ a.form.width = both_same a.form.signed a.form.width in
    let some : 1 ≤ nw = omega (arith, is, p) in
    let e : ℕ = min w nw in
    end r u w Op.RightBy (points_of r (a ∷ b ∷ [])) (operator_units e Op.RightBy (a ∷ b ∷ [])) hw some (lawful_of r u (a ∷ b ∷ []) h) bs (good_operator u e Op.RightBy (a ∷ b ∷ []) (known_of r u (a ∷ b ∷ []) h))
    (λ s q. long_right_by a.form.signed e u a b) (right_by_own r u e a b (omega (arith, hw, some)) (omega (arith, is)) bs h.0 h.1.0) has
operator_shows r u w Op.Less (a ∷ b ∷ []) hw few bs h o has =
    let nw : ℕ = natural_width Op.Less (a.form ∷ b.form ∷ []) in
    let e : ℕ = min w nw in
    let one : e ≡ 1 = one_bit (a.form.signed || b.form.signed) w hw in
    end r u w Op.Less (points_of r (a ∷ b ∷ [])) (operator_units e Op.Less (a ∷ b ∷ [])) hw (omega (arith, one)) (lawful_of r u (a ∷ b ∷ []) h) bs (good_operator u e Op.Less (a ∷ b ∷ []) (known_of r u (a ∷ b ∷ []) h))
    (λ s q. and_false (a.form.signed || b.form.signed) s) (λ k. less_own r u a b bs h.0 h.1.0 k ∙ ap (λ (i : ℕ). natural_number Op.Less (points_of r (a ∷ b ∷ [])) % 2 ^ i) (sym one)) has
operator_shows r u w Op.GreaterEqual (a ∷ b ∷ []) hw few bs h o has =
    let nw : ℕ = natural_width Op.GreaterEqual (a.form ∷ b.form ∷ []) in
    let e : ℕ = min w nw in
    let one : e ≡ 1 = one_bit (a.form.signed || b.form.signed) w hw in
    end r u w Op.GreaterEqual (points_of r (a ∷ b ∷ [])) (operator_units e Op.GreaterEqual (a ∷ b ∷ [])) hw (omega (arith, one)) (lawful_of r u (a ∷ b ∷ []) h) bs (good_operator u e Op.GreaterEqual (a ∷ b ∷ []) (known_of r u (a ∷ b ∷ []) h))
    (λ s q. and_false (a.form.signed || b.form.signed) s) (λ k. greater_equal_own r u a b bs h.0 h.1.0 k ∙ ap (λ (i : ℕ). natural_number Op.GreaterEqual (points_of r (a ∷ b ∷ [])) % 2 ^ i) (sym one)) has
operator_shows r u w Op.Greater (a ∷ b ∷ []) hw few bs h o has =
    let nw : ℕ = natural_width Op.Greater (a.form ∷ b.form ∷ []) in
    let e : ℕ = min w nw in
    let one : e ≡ 1 = one_bit (a.form.signed || b.form.signed) w hw in
    end r u w Op.Greater (points_of r (a ∷ b ∷ [])) (operator_units e Op.Greater (a ∷ b ∷ [])) hw (omega (arith, one)) (lawful_of r u (a ∷ b ∷ []) h) bs (good_operator u e Op.Greater (a ∷ b ∷ []) (known_of r u (a ∷ b ∷ []) h))
    (λ s q. and_false (a.form.signed || b.form.signed) s) (λ k. greater_own r u a b bs h.0 h.1.0 k ∙ ap (λ (i : ℕ). natural_number Op.Greater (points_of r (a ∷ b ∷ [])) % 2 ^ i) (sym one)) has
operator_shows r u w Op.LessEqual (a ∷ b ∷ []) hw few bs h o has =
    let nw : ℕ = natural_width Op.LessEqual (a.form ∷ b.form ∷ []) in
    let e : ℕ = min w nw in
    let one : e ≡ 1 = one_bit (a.form.signed || b.form.signed) w hw in
    end r u w Op.LessEqual (points_of r (a ∷ b ∷ [])) (operator_units e Op.LessEqual (a ∷ b ∷ [])) hw (omega (arith, one)) (lawful_of r u (a ∷ b ∷ []) h) bs (good_operator u e Op.LessEqual (a ∷ b ∷ []) (known_of r u (a ∷ b ∷ []) h))
    (λ s q. and_false (a.form.signed || b.form.signed) s) (λ k. less_equal_own r u a b bs h.0 h.1.0 k ∙ ap (λ (i : ℕ). natural_number Op.LessEqual (points_of r (a ∷ b ∷ [])) % 2 ^ i) (sym one)) has
operator_shows r u w Op.Equal (a ∷ b ∷ []) hw few bs h o has =
    let nw : ℕ = natural_width Op.Equal (a.form ∷ b.form ∷ []) in
    let e : ℕ = min w nw in
    let one : e ≡ 1 = one_bit (a.form.signed || b.form.signed) w hw in
    end r u w Op.Equal (points_of r (a ∷ b ∷ [])) (operator_units e Op.Equal (a ∷ b ∷ [])) hw (omega (arith, one)) (lawful_of r u (a ∷ b ∷ []) h) bs (good_operator u e Op.Equal (a ∷ b ∷ []) (known_of r u (a ∷ b ∷ []) h))
    (λ s q. and_false (a.form.signed || b.form.signed) s) (λ k. equal_own r u a b bs h.0 h.1.0 k ∙ ap (λ (i : ℕ). natural_number Op.Equal (points_of r (a ∷ b ∷ [])) % 2 ^ i) (sym one)) has
operator_shows r u w Op.NotEqual (a ∷ b ∷ []) hw few bs h o has =
    let nw : ℕ = natural_width Op.NotEqual (a.form ∷ b.form ∷ []) in
    let e : ℕ = min w nw in
    let one : e ≡ 1 = one_bit (a.form.signed || b.form.signed) w hw in
    end r u w Op.NotEqual (points_of r (a ∷ b ∷ [])) (operator_units e Op.NotEqual (a ∷ b ∷ [])) hw (omega (arith, one)) (lawful_of r u (a ∷ b ∷ []) h) bs (good_operator u e Op.NotEqual (a ∷ b ∷ []) (known_of r u (a ∷ b ∷ []) h))
    (λ s q. and_false (a.form.signed || b.form.signed) s) (λ k. not_equal_own r u a b bs h.0 h.1.0 k ∙ ap (λ (i : ℕ). natural_number Op.NotEqual (points_of r (a ∷ b ∷ [])) % 2 ^ i) (sym one)) has
operator_shows r u w op args hw few bs h o has = absurd o
