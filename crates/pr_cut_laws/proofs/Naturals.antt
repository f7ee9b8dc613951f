-- The natural number of an operator is a value modulo 2 to the power of its natural width, signed operands or not.
use Rattle.std.proofs.Common.{◌≡◌, ℕ, ◌+◌, ◌-◌, ◌*◌, ◌%◌, ◌^◌, ◌<◌, ◌||◌, Bool, true, false, cond, not, ◌&&◌, max, nat_eq, nat_lt, nat_le, [], ◌∷◌, pos, negsuc, ◌+ℤ◌, ◌-ℤ◌, ◌*ℤ◌, int_lt, refl, sym, ap, ap₂, subst, ◌∙◌, arith, add-one}
use Rattle.std.proofs.Math.Nat.{le-max_left, le-max_right, mod-eq_of_lt}
use Rattle.std.proofs.lemmas.Nat.{pow-add, mul-lt, shl_below}
use Rattle.pr_flat.specs.declared.equations.Op.TheVariants.{Add, Sub, Mul, Not, Choose, Left, LeftBy, Less, GreaterEqual, Equal}
use Rattle.pr_flat.specs.declared.forms.Point.{Point}
use Rattle.pr_flat.specs.Forms.{IsPoint, value_at, residue, signed_width, wider, wider_signed}
use Rattle.pr_flat.specs.Rows.{natural_width, natural_number, bit}
use Rattle.pr_flat_ops.proofs.Residues.{residue-pos, residue-not}
use Rattle.pr_flat_ops.proofs.Values.{value_unsigned}
use Rattle.pr_flat_ops.proofs.Wrapping.{by_sign, fits, wide, plain}

sum_below : (m n v w : ℕ) → m < 2 ^ v → n < 2 ^ w → m + n < 2 ^ (max v w + 1)
sum_below m n v w f g =
    let two : 2 ^ (max v w + 1) ≡ 2 ^ max v w * 2 = rw add-one (omega arith) in
    omega (arith, two, wide v (max v w) (le-max_left v w), wide w (max v w) (le-max_right v w), f, g)

pub natural_sum : (a b : Point) → IsPoint a → IsPoint b → natural_number Add (a ∷ b ∷ []) ≡ residue (natural_width Add (a.form ∷ b.form ∷ [])) (value_at a +ℤ value_at b)
natural_sum a b f g = by_sign (a.form.signed || b.form.signed) (λ (t : Bool). cond t (wider_signed a.form b.form + 1) (wider a.form b.form + 1)) (value_at a +ℤ value_at b) (a.number + b.number) (λ e.
    let s = plain a b e in
    rw (s.0, s.1) (fits (wider a.form b.form + 1) (a.number + b.number) (sum_below a.number b.number a.form.width b.form.width f.below g.below)))

pub natural_difference : (a b : Point) → natural_number Sub (a ∷ b ∷ []) ≡ residue (natural_width Sub (a.form ∷ b.form ∷ [])) (value_at a -ℤ value_at b)
natural_difference a b = by_sign (a.form.signed || b.form.signed) (λ (t : Bool). cond t (wider_signed a.form b.form + 1) (wider a.form b.form)) (value_at a -ℤ value_at b) (residue (wider a.form b.form) (pos a.number -ℤ pos b.number)) (λ e.
    let s = plain a b e in
    rw (s.0, s.1) refl)

pub natural_product : (a b : Point) → IsPoint a → IsPoint b → natural_number Mul (a ∷ b ∷ []) ≡ residue (natural_width Mul (a.form ∷ b.form ∷ [])) (value_at a *ℤ value_at b)
natural_product a b f g = by_sign (a.form.signed || b.form.signed) (λ (t : Bool). cond t (signed_width a.form + signed_width b.form) (a.form.width + b.form.width)) (value_at a *ℤ value_at b) (a.number * b.number) (λ e.
    let s = plain a b e in
    rw (s.0, s.1) (fits (a.form.width + b.form.width) (a.number * b.number) (subst (λ p. a.number * b.number < p) (sym (pow-add 2 a.form.width b.form.width)) (mul-lt a.number b.number (2 ^ a.form.width) (2 ^ b.form.width) f.below g.below))))

pub natural_complement : (a : Point) → IsPoint a → natural_number Not (a ∷ []) ≡ residue (natural_width Not (a.form ∷ [])) (negsuc 0 -ℤ value_at a)
natural_complement a f = by_sign a.form.signed (λ (t : Bool). cond t a.form.width a.form.width) (negsuc 0 -ℤ value_at a) (2 ^ a.form.width - 1 - a.number) (λ e.
    rw (value_unsigned a.form a.number e) (ap (λ k. 2 ^ a.form.width - 1 - k) (fits a.form.width a.number f.below) ∙ sym (residue-not a.form.width (pos a.number))))

-- operations bit by bit, on the residues of the natural width
abbrev pub Cuts : (ℕ → ℕ → ℕ) → Type 0
Cuts g = (m n k : ℕ) → g m n % 2 ^ k ≡ g (m % 2 ^ k) (n % 2 ^ k)

pub natural_word : (g : ℕ → ℕ → ℕ) → Cuts g → (a b : Point) → IsPoint a → IsPoint b → (s : Bool) → s ≡ (a.form.signed || b.form.signed) → cond s (residue (cond s (wider_signed a.form b.form) (wider a.form b.form)) (pos (g (residue (wider_signed a.form b.form) (value_at a)) (residue (wider_signed a.form b.form) (value_at b))))) (g a.number b.number) ≡ residue (cond s (wider_signed a.form b.form) (wider a.form b.form)) (pos (g (residue (cond s (wider_signed a.form b.form) (wider a.form b.form)) (value_at a)) (residue (cond s (wider_signed a.form b.form) (wider a.form b.form)) (value_at b))))
natural_word g c a b f h true e = refl
natural_word g c a b f h false e =
    let w = wider a.form b.form in
    let s = plain a b (sym e) in
    let few : a.number < 2 ^ w = omega (arith, f.below, wide a.form.width w (le-max_left a.form.width b.form.width)) in
    let less : b.number < 2 ^ w = omega (arith, h.below, wide b.form.width w (le-max_right a.form.width b.form.width)) in
    let x : residue w (value_at a) ≡ a.number = ap (residue w) s.0 ∙ sym (fits w a.number few) in
    let y : residue w (value_at b) ≡ b.number = ap (residue w) s.1 ∙ sym (fits w b.number less) in
    sym (residue-pos w (g (residue w (value_at a)) (residue w (value_at b))) ∙ c (residue w (value_at a)) (residue w (value_at b)) w ∙ ap₂ g (ap (λ k. k % 2 ^ w) x ∙ mod-eq_of_lt few) (ap (λ k. k % 2 ^ w) y ∙ mod-eq_of_lt less))

pub natural_choice : (c a b : Point) → IsPoint a → IsPoint b → natural_number Choose (c ∷ a ∷ b ∷ []) ≡ residue (natural_width Choose (c.form ∷ a.form ∷ b.form ∷ [])) (cond (nat_eq c.number 1) (value_at a) (value_at b))
natural_choice c a b f g = by_sign (a.form.signed || b.form.signed) (λ (t : Bool). cond t (wider_signed a.form b.form) (wider a.form b.form)) (cond (nat_eq c.number 1) (value_at a) (value_at b)) (cond (nat_eq c.number 1) a.number b.number) (chosen (nat_eq c.number 1))
  where
    chosen : (t : Bool) → (a.form.signed || b.form.signed) ≡ false → cond t a.number b.number ≡ residue (wider a.form b.form) (cond t (value_at a) (value_at b))
    chosen true e =
        let few : a.number < 2 ^ wider a.form b.form = omega (arith, f.below, wide a.form.width (wider a.form b.form) (le-max_left a.form.width b.form.width)) in
        rw ((plain a b e).0) (fits (wider a.form b.form) a.number few)
    chosen false e =
        let few : b.number < 2 ^ wider a.form b.form = omega (arith, g.below, wide b.form.width (wider a.form b.form) (le-max_right a.form.width b.form.width)) in
        rw ((plain a b e).1) (fits (wider a.form b.form) b.number few)

pub natural_left : (k : ℕ) (a : Point) → IsPoint a → natural_number (Left k) (a ∷ []) ≡ residue (natural_width (Left k) (a.form ∷ [])) (value_at a *ℤ pos (2 ^ k))
natural_left k a f = by_sign a.form.signed (λ (t : Bool). cond t (a.form.width + k) (a.form.width + k)) (value_at a *ℤ pos (2 ^ k)) (a.number * 2 ^ k) (λ e.
    rw (value_unsigned a.form a.number e) (fits (a.form.width + k) (a.number * 2 ^ k) (shl_below a.number a.form.width k f.below)))

pub natural_left_by : (a by : Point) → natural_number LeftBy (a ∷ by ∷ []) ≡ residue (natural_width LeftBy (a.form ∷ by.form ∷ [])) (value_at a *ℤ pos (2 ^ by.number))
natural_left_by a by = by_sign a.form.signed (λ (t : Bool). cond t a.form.width a.form.width) (value_at a *ℤ pos (2 ^ by.number)) (a.number * 2 ^ by.number % 2 ^ a.form.width) (λ e.
    rw (value_unsigned a.form a.number e) (sym (residue-pos a.form.width (a.number * 2 ^ by.number))))

-- of two signed or mixed operands
bit_small : (t : Bool) → bit t % 2 ^ 1 ≡ bit t
bit_small true = refl
bit_small false = refl

pub natural_less : (a b : Point) → (a.form.signed || b.form.signed) ≡ true → (natural_number Less (a ∷ b ∷ []) ≡ bit (int_lt (value_at a) (value_at b))) × (natural_number GreaterEqual (a ∷ b ∷ []) ≡ bit (not (int_lt (value_at a) (value_at b)))) × (natural_number Equal (a ∷ b ∷ []) ≡ bit (not (int_lt (value_at a) (value_at b)) && not (int_lt (value_at b) (value_at a))))
natural_less a b e = (
  by (int_lt (value_at a) (value_at b)) (bit (nat_lt a.number b.number)),
  by (not (int_lt (value_at a) (value_at b))) (bit (nat_le b.number a.number)),
  by (not (int_lt (value_at a) (value_at b)) && not (int_lt (value_at b) (value_at a))) (bit (nat_eq a.number b.number)),
)
  where
    by : (t : Bool) (n : ℕ) → cond (a.form.signed || b.form.signed) (residue (cond (a.form.signed || b.form.signed) 1 1) (pos (bit t))) n ≡ bit t
    by t n = rw e (residue-pos 1 (bit t) ∙ bit_small t)
