-- The units of an operation, counted by shares, are those of the net.
use Rattle.std.proofs.Common.{◌≡◌, ℕ, zero, suc, ◌+◌, ◌-◌, ◌/◌, ◌%◌, ◌<◌, ◌≤◌, Bool, true, false, ◌&&◌, ◌||◌, cond, min, max, nat_eq, nat_lt, nat_le, List, [], ◌∷◌, length, refl, sym, ap, ap₂, ◌∙◌, inl, inr, arith}
use Rattle.std.specs.Bool.{if◌then◌else◌}
use Rattle.std.specs.List.{sum}
use Rattle.std.proofs.lemmas.Bool.{cases_lt, eqb-true}
use Rattle.std.proofs.lemmas.Bool.Decides.{nat_tests}
use Rattle.std.proofs.lemmas.List.FromFn.{sum_by-map-range_with_len_more}
use Rattle.pr_base.specs.Numbers.{slices_of}
use Rattle.pr_flat.specs.declared.equations.Op.{Op}
use Rattle.pr_flat.specs.declared.equations.Op.TheVariants.{Input, Add, Sub, Mul, And, Or, Xor, Not, Equal, NotEqual, Less, LessEqual, Greater, GreaterEqual, Choose, Left, Right, LeftBy, RightBy, Slice, Cat, Fit, Delay, Rec}
use Rattle.pr_flat.specs.declared.forms.Form.{Form}
use Rattle.pr_flat.specs.Forms.{signed_width, wider, wider_signed}
use Rattle.pr_flat.specs.Facts.{arity}
use Rattle.pr_cut_units.specs.Parts.{each}
use Rattle.pr_cut_units.specs.Products.{row_width}
use Rattle.pr_cut_units.specs.Counts.{widening_count, both_count, left_count, less_count as net_less, equal_count as net_equal, extract_count as net_extract, right_count as net_right, product_count as net_product, operator_count as net_operator}
use Rattle.pr_cut_units.proofs.CountNets.{is_stated}
use Rattle.pr_narrow.specs.Counts.{chain_count, widen_count, extract_count, moved_count, row_count, rows_count, plain_count, product_count, equal_count, less_count, right_count, operator_count}

pub if_same : (t : Bool) (m n : ℕ) → cond t m n ≡ (if t then m else n)
if_same true m n = refl
if_same false m n = refl

pub widen_same : (f : Form) (t : ℕ) → widen_count f t ≡ widening_count f t
widen_same f t = if_same (f.signed && nat_lt f.width t) 1 0

both_same : (t one other : ℕ) (f g : Form) → one ≡ other → plain_count t one f g ≡ both_count t f g + other
both_same t one other f g same = ap₂ (λ x y. x + y) (ap₂ (λ x y. x + y) (widen_same f t) (widen_same g t)) same

or_swap : (p q : Bool) → (p || q) ≡ (q || p)
or_swap true true = refl
or_swap true false = refl
or_swap false true = refl
or_swap false false = refl

extract_same : (w l e : ℕ) → extract_count w l e ≡ net_extract e w l
extract_same w l e = ap (λ t. cond t 0 1) (by_test (nat_eq (l % 8) 0) refl) ∙ if_same (nat_eq (l % 8) 0 && (nat_eq (l + e) w || nat_eq ((l + e) % 8) 0)) 0 1 where
  by_test : (b : Bool) → nat_eq (l % 8) 0 ≡ b → (nat_eq (l % 8) 0 && (nat_eq (e % 8) 0 || nat_eq (l + e) w)) ≡ (nat_eq (l % 8) 0 && (nat_eq (l + e) w || nat_eq ((l + e) % 8) 0))
  by_test true is =
      let none : l % 8 ≡ 0 = eqb-true (l % 8) 0 is in
      let moved : e % 8 ≡ (l + e) % 8 = omega (arith, none) in
      ap (λ b. nat_eq (l % 8) 0 && b) (or_swap (nat_eq (e % 8) 0) (nat_eq (l + e) w) ∙ ap (λ v. nat_eq (l + e) w || nat_eq v 0) moved)
  by_test false is = ap (λ b. b && (nat_eq (e % 8) 0 || nat_eq (l + e) w)) is ∙ sym (ap (λ b. b && (nat_eq (l + e) w || nat_eq ((l + e) % 8) 0)) is)

moved_same : (k w e : ℕ) → moved_count k (w + k) e ≡ left_count e w k
moved_same k w e = if_same (nat_eq (k % 8) 0 && (nat_eq e (w + k) || nat_eq (e % 8) 0)) 0 1

right_same : (k e w : ℕ) (s : Bool) → right_count k (record { signed = s; width = w }) e ≡ net_right e k (record { signed = s; width = w })
right_same k e w true = extract_same w (min k (w - 1)) e
right_same k e w false = elim (cases_lt k w) [
  | inl low ↦ low_case low
  | inr high ↦ high_case high
] where
  low_case : k < w → cond (nat_le w k) 0 (extract_count w k e) ≡ (if nat_lt k w then net_extract e w k else 0)
  low_case low =
      let one : nat_le w k ≡ false = grind (arith, nat_tests) in
      let other : nat_lt k w ≡ true = grind (arith, nat_tests) in
      ap (λ b. cond b 0 (extract_count w k e)) one ∙ extract_same w k e ∙ sym (ap (λ b. if b then net_extract e w k else 0) other)

  high_case : w ≤ k → cond (nat_le w k) 0 (extract_count w k e) ≡ (if nat_lt k w then net_extract e w k else 0)
  high_case high =
      let one : nat_le w k ≡ true = grind (arith, nat_tests) in
      let other : nat_lt k w ≡ false = grind (arith, nat_tests) in
      ap (λ b. cond b 0 (extract_count w k e)) one ∙ sym (ap (λ b. if b then net_extract e w k else 0) other)

equal_same : (s t : Bool) (v w : ℕ) → equal_count (record { signed = s; width = v }) (record { signed = t; width = w }) ≡ net_equal (record { signed = s; width = v }) (record { signed = t; width = w })
equal_same true t v w = both_same _ _ _ (record { signed = true; width = v }) (record { signed = t; width = w }) refl
equal_same false true v w = both_same _ _ _ (record { signed = false; width = v }) (record { signed = true; width = w }) refl
equal_same false false v w = omega arith

less_same : (s t : Bool) (v w : ℕ) → less_count (record { signed = s; width = v }) (record { signed = t; width = w }) ≡ net_less (record { signed = s; width = v }) (record { signed = t; width = w })
less_same true t v w = let f : Form = record { signed = true; width = v } in let g : Form = record { signed = t; width = w } in both_same (wider_signed f g + 1) _ _ f g refl ∙ (let e : both_count (wider_signed f g + 1) f g + (chain_count (slices_of (wider_signed f g + 1)) + 1) ≡ both_count (wider_signed f g + 1) f g + chain_count (slices_of (wider_signed f g + 1)) + 1 = omega arith in e)
less_same false true v w = let f : Form = record { signed = false; width = v } in let g : Form = record { signed = true; width = w } in both_same (wider_signed f g + 1) _ _ f g refl ∙ (let e : both_count (wider_signed f g + 1) f g + (chain_count (slices_of (wider_signed f g + 1)) + 1) ≡ both_count (wider_signed f g + 1) f g + chain_count (slices_of (wider_signed f g + 1)) + 1 = omega arith in e)
less_same false false v w = refl

max_swap : (m n : ℕ) → max m n ≡ max n m
max_swap m n = omega arith

add_swap : (m n : ℕ) → m + n ≡ n + m
add_swap m n = omega arith

less_swapped : (f g : Form) → net_less f g ≡ net_less g f
less_swapped f g =
    let m = wider_signed g f in
    ap (λ b. if b then both_count (wider_signed f g + 1) f g + chain_count (slices_of (wider_signed f g + 1)) + 1 else chain_count (slices_of (wider f g))) (or_swap f.signed g.signed)
    ∙ ap₂ (λ x y. if g.signed || f.signed then both_count (x + 1) f g + chain_count (slices_of (x + 1)) + 1 else chain_count (slices_of y)) (max_swap (signed_width f) (signed_width g)) (max_swap f.width g.width)
    ∙ ap (λ z. if g.signed || f.signed then z + chain_count (slices_of (m + 1)) + 1 else chain_count (slices_of (wider g f))) (add_swap (widening_count f (m + 1)) (widening_count g (m + 1)))

rows_same : (e width n : ℕ) → rows_count e width n ≡ sum (each n (λ j. chain_count (slices_of (row_width e width j) - j / 8)))
rows_same e width zero = refl
rows_same e width (suc n) =
    let next : n + 1 ≡ suc n = omega arith in
    ap (λ m. m + row_count e width n) (rows_same e width n) ∙ sym (sum_by-map-range_with_len_more (λ k. k) (λ j. chain_count (slices_of (row_width e width j) - j / 8)) 0 n n (omega arith)) ∙ ap (λ k. sum (each k (λ j. chain_count (slices_of (row_width e width j) - j / 8)))) next

product_same : (e : ℕ) (s t : Bool) (v w : ℕ) → e ≤ 128 → product_count e (record { signed = s; width = v }) (record { signed = t; width = w }) ≡ net_operator e Mul (record { signed = s; width = v } ∷ record { signed = t; width = w } ∷ [])
product_same e false false v w few = rows_same e v (min w e) ∙ (let z : net_product e v w ≡ 0 + net_product e v w = omega arith in z)
product_same e true t v w few =
    let f : Form = record { signed = true; width = v } in
    let g : Form = record { signed = t; width = w } in
    let whole : e ≡ min (min 128 (max e (signed_width g))) e = omega arith in
    both_same e _ _ f g (ap (rows_count e (min 128 (max e (signed_width f)))) whole ∙ rows_same e (min 128 (max e (signed_width f))) (min (min 128 (max e (signed_width g))) e))
product_same e false true v w few =
    let f : Form = record { signed = false; width = v } in
    let g : Form = record { signed = true; width = w } in
    let whole : e ≡ min (min 128 (max e (signed_width g))) e = omega arith in
    both_same e _ _ f g (ap (rows_count e (min 128 (max e (signed_width f)))) whole ∙ rows_same e (min 128 (max e (signed_width f))) (min (min 128 (max e (signed_width g))) e))

-- the units of an operation
pub operator_same : (e : ℕ) (op : Op) (fs : List Form) → e ≤ 128 → length fs ≡ arity op → is_stated op ≡ false → operator_count op fs e ≡ net_operator e op fs
operator_same e And (f ∷ g ∷ []) few count other = both_same e 1 1 f g refl
operator_same e Or (f ∷ g ∷ []) few count other = both_same e 1 1 f g refl
operator_same e Xor (f ∷ g ∷ []) few count other = both_same e 1 1 f g refl
operator_same e Not (f ∷ []) few count other = refl
operator_same e Choose (c ∷ f ∷ g ∷ []) few count other = both_same e 1 1 f g refl
operator_same e Add (f ∷ g ∷ []) few count other = both_same e (chain_count (slices_of e)) (chain_count (slices_of e)) f g refl
operator_same e Sub (f ∷ g ∷ []) few count other = both_same e (chain_count (slices_of e)) (chain_count (slices_of e)) f g refl
operator_same e Mul (f ∷ g ∷ []) few count other = product_same e f.signed g.signed f.width g.width few
operator_same e Equal (f ∷ g ∷ []) few count other = equal_same f.signed g.signed f.width g.width
operator_same e NotEqual (f ∷ g ∷ []) few count other = equal_same f.signed g.signed f.width g.width
operator_same e Less (f ∷ g ∷ []) few count other = less_same f.signed g.signed f.width g.width
operator_same e GreaterEqual (f ∷ g ∷ []) few count other = less_same f.signed g.signed f.width g.width
operator_same e Greater (f ∷ g ∷ []) few count other = less_same f.signed g.signed f.width g.width ∙ less_swapped f g
operator_same e LessEqual (f ∷ g ∷ []) few count other = less_same f.signed g.signed f.width g.width ∙ less_swapped f g
operator_same e (Left k) (f ∷ []) few count other = moved_same k f.width e
operator_same e (Right k) (f ∷ []) few count other = right_same k e f.width f.signed
operator_same e (Slice high low) (f ∷ []) few count other = extract_same f.width low e
operator_same e Fit (f ∷ []) few count other = extract_same f.width 0 e
operator_same e Cat (f ∷ g ∷ []) few count other = moved_same g.width f.width e
operator_same e LeftBy (f ∷ by ∷ []) few count other = ap (λ x. by.width + x) (extract_same f.width 0 e)
operator_same e RightBy (f ∷ by ∷ []) few count other = ap₂ (λ x y. x + y) (add_swap by.width (cond f.signed 2 0) ∙ ap (λ x. x + by.width) (if_same f.signed 2 0)) (extract_same f.width 0 e)
operator_same e Input fs few count other = cc
operator_same e (Delay c) fs few count other = cc
operator_same e (Rec init first) fs few count other = cc
operator_same e op fs few count other = absurd (omega arith)
