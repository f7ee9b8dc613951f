-- Comparisons and choices.
use Rattle.std.proofs.Common.{◌≡◌, ℕ, ◌%◌, ◌^◌, ◌<◌, ◌||◌, ◌&&◌, Bool, true, false, cond, not, min, nat_eq, nat_lt, nat_le, [], ◌∷◌, pos, int_lt, unsigned_abs, refl, sym, ap, subst, ◌∙◌, arith, lit<}
use Rattle.std.proofs.Math.Nat.{mod-eq_of_lt, le-max_left, le-max_right}
use Rattle.std.proofs.lemmas.Bool.Decides.{nat_tests}
use Rattle.pr_flat.specs.declared.equations.Op.{Op}
use Rattle.pr_flat.specs.declared.equations.Op.TheVariants.{Equal, NotEqual, Less, LessEqual, Greater, GreaterEqual, Choose}
use Rattle.pr_flat.specs.declared.forms.Point.{Point}
use Rattle.pr_flat.specs.Forms.{IsPoint, value_at, residue, wider, wider_signed}
use Rattle.pr_flat.specs.Rows.{is_comparison, natural_width, natural_number, signed_value, bit}
use Rattle.pr_flat_ops.specs.Wholes.{IsWrapped}
use Rattle.pr_flat_ops.proofs.Residues.{residue-pos}
use Rattle.pr_flat_ops.proofs.Wrapping.{AreBits, wrapped_is, by_sign, fits, wide, plain}

cond_same : (s : Bool) (n : ℕ) → cond s n n ≡ n
cond_same true n = refl
cond_same false n = refl

bit_below : (t : Bool) → bit t < 2 ^ 1
bit_below true = lit< tt
bit_below false = lit< tt

-- the row for unsigned operands tests what the one for signed operands tests
test_shown : (s t u : Bool) → (s ≡ false → u ≡ t) → cond s (residue (cond s 1 1) (pos (bit t))) (bit u) ≡ bit t
test_shown true t u f = residue-pos 1 (bit t) ∙ mod-eq_of_lt (bit_below t)
test_shown false t u f = ap bit (f refl)

same_test : (m n : ℕ) → nat_eq m n ≡ (not (nat_lt m n) && not (nat_lt n m))
same_test m n = grind (arith, nat_tests)

other_test : (m n : ℕ) → not (nat_eq m n) ≡ (nat_lt m n || nat_lt n m)
other_test m n = grind (arith, nat_tests)

most_test : (m n : ℕ) → nat_le m n ≡ not (nat_lt n m)
most_test m n = grind (arith, nat_tests)

-- a comparison in either row is the order of the values
compared_shown : (op : Op) (a b : Point) → is_comparison op ≡ true → (natural_width op (a.form ∷ b.form ∷ []) ≡ 1) × (pos (natural_number op (a ∷ b ∷ [])) ≡ signed_value op (a ∷ b ∷ []))
compared_shown Equal a b e =
    let s = a.form.signed || b.form.signed in
    (cond_same s 1, ap pos (test_shown s (not (int_lt (value_at a) (value_at b)) && not (int_lt (value_at b) (value_at a))) (nat_eq a.number b.number) (λ h. let v = plain a b h in rw (v.0, v.1) (same_test a.number b.number))))
compared_shown NotEqual a b e =
    let s = a.form.signed || b.form.signed in
    (cond_same s 1, ap pos (test_shown s (int_lt (value_at a) (value_at b) || int_lt (value_at b) (value_at a)) (not (nat_eq a.number b.number)) (λ h. let v = plain a b h in rw (v.0, v.1) (other_test a.number b.number))))
compared_shown Less a b e =
    let s = a.form.signed || b.form.signed in
    (cond_same s 1, ap pos (test_shown s (int_lt (value_at a) (value_at b)) (nat_lt a.number b.number) (λ h. let v = plain a b h in rw (v.0, v.1) refl)))
compared_shown LessEqual a b e =
    let s = a.form.signed || b.form.signed in
    (cond_same s 1, ap pos (test_shown s (not (int_lt (value_at b) (value_at a))) (nat_le a.number b.number) (λ h. let v = plain a b h in rw (v.0, v.1) (most_test a.number b.number))))
compared_shown Greater a b e =
    let s = a.form.signed || b.form.signed in
    (cond_same s 1, ap pos (test_shown s (int_lt (value_at b) (value_at a)) (nat_lt b.number a.number) (λ h. let v = plain a b h in rw (v.0, v.1) refl)))
compared_shown GreaterEqual a b e =
    let s = a.form.signed || b.form.signed in
    (cond_same s 1, ap pos (test_shown s (not (int_lt (value_at a) (value_at b))) (nat_le b.number a.number) (λ h. let v = plain a b h in rw (v.0, v.1) (most_test b.number a.number))))
compared_shown op a b e = cc

pub wrapped_test : (op : Op) (a b : Point) (t : Bool) → is_comparison op ≡ true → pos (bit t) ≡ signed_value op (a ∷ b ∷ []) → IsWrapped op (a ∷ b ∷ []) (bit t)
wrapped_test op a b t e is =
    let s = compared_shown op a b e in
    let w = natural_width op (a.form ∷ b.form ∷ []) in
    let same : natural_number op (a ∷ b ∷ []) ≡ bit t = ap unsigned_abs (s.1 ∙ sym is) in
    let below : bit t < 2 ^ w = subst (λ v. bit t < 2 ^ v) (sym s.0) (bit_below t) in
    record { below = subst (λ n. n < 2 ^ w) (sym same) below; same = ap (λ n. n % 2 ^ min w 128) same }

-- ---- choices
plain_choice : (t : Bool) (a b : Point) → IsPoint a → IsPoint b → (a.form.signed || b.form.signed) ≡ false → cond t a.number b.number ≡ residue (wider a.form b.form) (cond t (value_at a) (value_at b))
plain_choice true a b f g e =
    let v = wider a.form b.form in
    let few : a.number < 2 ^ v = omega (arith, f.below, wide a.form.width v (le-max_left a.form.width b.form.width)) in
    rw ((plain a b e).0) (fits v a.number few)
plain_choice false a b f g e =
    let v = wider a.form b.form in
    let few : b.number < 2 ^ v = omega (arith, g.below, wide b.form.width v (le-max_right a.form.width b.form.width)) in
    rw ((plain a b e).1) (fits v b.number few)

chosen_value : (t : Bool) (a b : Point) → cond t (value_at a) (value_at b) ≡ value_at (cond t a b)
chosen_value true a b = refl
chosen_value false a b = refl

pub wrapped_choice : (c a b chosen : Point) (x : ℕ) → IsPoint a → IsPoint b → chosen ≡ cond (nat_eq c.number 1) a b → AreBits chosen x → IsWrapped Choose (c ∷ a ∷ b ∷ []) x
wrapped_choice c a b chosen x f g is p =
    let t = nat_eq c.number 1 in
    let z = cond t (value_at a) (value_at b) in
    let w = λ (s : Bool). cond s (wider_signed a.form b.form) (wider a.form b.form) in
    let same : z ≡ value_at chosen = chosen_value t a b ∙ ap value_at (sym is) in
    wrapped_is Choose (c ∷ a ∷ b ∷ []) z x (by_sign (a.form.signed || b.form.signed) w z (cond t a.number b.number) (plain_choice t a b f g)) (p ∙ ap (residue 128) (sym same))
