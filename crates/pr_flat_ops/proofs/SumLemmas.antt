-- Sums, differences, products and complements.
use Rattle.std.proofs.Common.{◌≡◌, ℕ, ◌+◌, ◌-◌, ◌*◌, ◌%◌, ◌^◌, ◌<◌, ◌||◌, Bool, false, cond, max, [], ◌∷◌, pos, negsuc, ◌+ℤ◌, ◌-ℤ◌, ◌*ℤ◌, refl, sym, ap, subst, ◌∙◌, arith, add-one}
use Rattle.std.proofs.Math.Nat.{le-max_left, le-max_right}
use Rattle.std.proofs.lemmas.Nat.{pow-add, mul-lt}
use Rattle.pr_flat.specs.declared.equations.Op.TheVariants.{Add, Sub, Mul, Not}
use Rattle.pr_flat.specs.declared.forms.Point.{Point}
use Rattle.pr_flat.specs.Forms.{IsPoint, value_at, residue, signed_width, wider, wider_signed}
use Rattle.pr_flat_ops.specs.Wholes.{IsWrapped}
use Rattle.pr_flat_ops.proofs.Residues.{residue-add, residue-sub, residue-mul, residue-not}
use Rattle.pr_flat_ops.proofs.Values.{value_unsigned}
use Rattle.pr_flat_ops.proofs.Wrapping.{AreBits, wrapped_is, by_sign, fits, wide, plain}

sum_below : (m n v w : ℕ) → m < 2 ^ v → n < 2 ^ w → m + n < 2 ^ (max v w + 1)
sum_below m n v w f g =
    let two : 2 ^ (max v w + 1) ≡ 2 ^ max v w * 2 = rw add-one (omega arith) in
    omega (arith, two, wide v (max v w) (le-max_left v w), wide w (max v w) (le-max_right v w), f, g)

plain_sum : (a b : Point) → IsPoint a → IsPoint b → (a.form.signed || b.form.signed) ≡ false → a.number + b.number ≡ residue (wider a.form b.form + 1) (value_at a +ℤ value_at b)
plain_sum a b f g e =
    let s = plain a b e in
    rw (s.0, s.1) (fits (wider a.form b.form + 1) (a.number + b.number) (sum_below a.number b.number a.form.width b.form.width f.below g.below))

pub wrapped_sum : (a b : Point) (x y : ℕ) → IsPoint a → IsPoint b → AreBits a x → AreBits b y → IsWrapped Add (a ∷ b ∷ []) ((x + y) % 2 ^ 128)
wrapped_sum a b x y f g p q =
    let z = value_at a +ℤ value_at b in
    let w = λ (t : Bool). cond t (wider_signed a.form b.form + 1) (wider a.form b.form + 1) in
    wrapped_is Add (a ∷ b ∷ []) z ((x + y) % 2 ^ 128) (by_sign (a.form.signed || b.form.signed) w z (a.number + b.number) (plain_sum a b f g)) (rw (p, q) (sym (residue-add 128 (value_at a) (value_at b))))

plain_difference : (a b : Point) → (a.form.signed || b.form.signed) ≡ false → residue (wider a.form b.form) (pos a.number -ℤ pos b.number) ≡ residue (wider a.form b.form) (value_at a -ℤ value_at b)
plain_difference a b e = let s = plain a b e in rw (s.0, s.1) refl

pub wrapped_difference : (a b : Point) (x y : ℕ) → AreBits a x → AreBits b y → IsWrapped Sub (a ∷ b ∷ []) ((x + (2 ^ 128 - y)) % 2 ^ 128)
wrapped_difference a b x y p q =
    let z = value_at a -ℤ value_at b in
    let n = residue (wider a.form b.form) (pos a.number -ℤ pos b.number) in
    let w = λ (t : Bool). cond t (wider_signed a.form b.form + 1) (wider a.form b.form) in
    wrapped_is Sub (a ∷ b ∷ []) z ((x + (2 ^ 128 - y)) % 2 ^ 128) (by_sign (a.form.signed || b.form.signed) w z n (plain_difference a b)) (rw (p, q) (sym (residue-sub 128 (value_at a) (value_at b))))

product_below : (m n v w : ℕ) → m < 2 ^ v → n < 2 ^ w → m * n < 2 ^ (v + w)
product_below m n v w f g = subst (λ p. m * n < p) (sym (pow-add 2 v w)) (mul-lt m n (2 ^ v) (2 ^ w) f g)

plain_product : (a b : Point) → IsPoint a → IsPoint b → (a.form.signed || b.form.signed) ≡ false → a.number * b.number ≡ residue (a.form.width + b.form.width) (value_at a *ℤ value_at b)
plain_product a b f g e =
    let s = plain a b e in
    rw (s.0, s.1) (fits (a.form.width + b.form.width) (a.number * b.number) (product_below a.number b.number a.form.width b.form.width f.below g.below))

pub wrapped_product : (a b : Point) (x y : ℕ) → IsPoint a → IsPoint b → AreBits a x → AreBits b y → IsWrapped Mul (a ∷ b ∷ []) (x * y % 2 ^ 128)
wrapped_product a b x y f g p q =
    let z = value_at a *ℤ value_at b in
    let w = λ (t : Bool). cond t (signed_width a.form + signed_width b.form) (a.form.width + b.form.width) in
    wrapped_is Mul (a ∷ b ∷ []) z (x * y % 2 ^ 128) (by_sign (a.form.signed || b.form.signed) w z (a.number * b.number) (plain_product a b f g)) (rw (p, q) (sym (residue-mul 128 (value_at a) (value_at b))))

plain_complement : (a : Point) → IsPoint a → a.form.signed ≡ false → 2 ^ a.form.width - 1 - a.number ≡ residue a.form.width (negsuc 0 -ℤ value_at a)
plain_complement a f e =
    let w = a.form.width in
    rw (value_unsigned a.form a.number e) (ap (λ k. 2 ^ w - 1 - k) (fits w a.number f.below) ∙ sym (residue-not w (pos a.number)))

pub wrapped_complement : (a : Point) (x : ℕ) → IsPoint a → AreBits a x → IsWrapped Not (a ∷ []) (2 ^ 128 - 1 - x)
wrapped_complement a x f p =
    let z = negsuc 0 -ℤ value_at a in
    let w = λ (t : Bool). cond t a.form.width a.form.width in
    wrapped_is Not (a ∷ []) z (2 ^ 128 - 1 - x) (by_sign a.form.signed w z (2 ^ a.form.width - 1 - a.number) (plain_complement a f)) (rw p (sym (residue-not 128 (value_at a))))
