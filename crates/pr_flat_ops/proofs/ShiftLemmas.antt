-- Shifts, slices and concatenations.
use Rattle.std.proofs.Common.{◌≡◌, ℕ, ◌+◌, ◌-◌, ◌*◌, ◌/◌, ◌%◌, ◌^◌, ◌<◌, ◌≤◌, Bool, true, false, cond, max, [], ◌∷◌, ℤ, pos, negsuc, ◌-ℤ◌, ◌*ℤ◌, sym, ap, ◌∙◌, arith, lit<}
use Rattle.std.proofs.Math.Nat.{pow-le-pow_right, mod-eq_of_lt, div-eq_of_lt, div-le_self, mod-add-mod, mul_assoc, mul-mod_left}
use Rattle.std.proofs.lemmas.Nat.{pow-add, mul-mod_second, shl_below, shr_below, mul-add-lt}
use Rattle.std.specs.Int.{int_div_euclid}
use borrow.Author.Differences.{ints}
use Rattle.pr_flat.specs.declared.equations.Op.TheVariants.{Left, Right, LeftBy, RightBy, Slice, Cat}
use Rattle.pr_flat.specs.declared.forms.Point.{Point}
use Rattle.pr_flat.specs.Forms.{IsPoint, value_at, residue}
use Rattle.pr_flat_ops.specs.declared.wholes.Whole.{Whole}
use Rattle.pr_flat_ops.specs.Wholes.{IsWrapped, whole_value}
use Rattle.pr_flat_ops.proofs.Residues.{residue-pos, residue-negsuc, residue-mul}
use Rattle.pr_flat_ops.proofs.Values.{value_unsigned}
use Rattle.pr_flat_ops.proofs.Wrapping.{AreBits, wrapped_is, by_sign, fits, wide}

pub none_left : (n k : ℕ) → n < 2 ^ 128 → 128 ≤ k → 0 ≡ n / 2 ^ k
none_left n k small far =
    let more : 2 ^ 128 ≤ 2 ^ k = pow-le-pow_right (lit< tt) far in
    let few : n < 2 ^ k = omega arith in
    sym (div-eq_of_lt few)

pub all_lost : (n k : ℕ) → 128 ≤ k → 0 ≡ n * 2 ^ k % 2 ^ 128
all_lost n k far =
    let e : k - 128 + 128 ≡ k = omega arith in
    let product : n * 2 ^ k ≡ n * 2 ^ (k - 128) * 2 ^ 128 = ap (λ j. n * 2 ^ j) (sym e) ∙ (ap (λ p. n * p) (pow-add 2 (k - 128) 128) ∙ sym (mul_assoc n (2 ^ (k - 128)) (2 ^ 128))) in
    sym (ap (λ p. p % 2 ^ 128) product ∙ mul-mod_left (n * 2 ^ (k - 128)) (2 ^ 128))

pub joined_bits : (m w n k x : ℕ) → k ≡ w → x ≡ m * 2 ^ k % 2 ^ 128 → (x + n) % 2 ^ 128 ≡ (m * 2 ^ w + n) % 2 ^ 128
joined_bits m w n k x same e =
    let is : x ≡ m * 2 ^ w % 2 ^ 128 = e ∙ ap (λ j. m * 2 ^ j % 2 ^ 128) same in
    ap (λ p. (p + n) % 2 ^ 128) is ∙ mod-add-mod (m * 2 ^ w) (2 ^ 128) n

-- the value of a sign and 128 bits, divided
pub positive_moved : (x : Whole) (k r : ℕ) → x.bits < 2 ^ 128 → x.negative ≡ false → r ≡ x.bits / 2 ^ k → r ≡ residue 128 (int_div_euclid (whole_value x) (pos (2 ^ k)))
positive_moved x k r small plain e =
    let few : x.bits / 2 ^ k < 2 ^ 128 = omega (arith, div-le_self x.bits (2 ^ k)) in
    rw plain (e ∙ sym (residue-pos 128 (x.bits / 2 ^ k) ∙ mod-eq_of_lt few))

pub negative_moved : (x : Whole) (k r : ℕ) → x.bits < 2 ^ 128 → x.negative ≡ true → r ≡ (2 ^ 128 - 1 - x.bits) / 2 ^ k → 2 ^ 128 - 1 - r ≡ residue 128 (int_div_euclid (whole_value x) (pos (2 ^ k)))
negative_moved x k r small below e =
    let m = 2 ^ 128 - 1 - x.bits in
    let is : pos x.bits -ℤ pos (2 ^ 128) ≡ negsuc m = omega (arith, ints, small) in
    let few : m / 2 ^ k < 2 ^ 128 = omega (arith, div-le_self m (2 ^ k)) in
    rw (below, is) (ap (λ n. 2 ^ 128 - 1 - n) (e ∙ sym (mod-eq_of_lt few)) ∙ sym (residue-negsuc 128 (m / 2 ^ k)))

-- ---- shifts
moved_bits : (z : ℤ) (x k : ℕ) → x ≡ residue 128 z → x * 2 ^ k % 2 ^ 128 ≡ residue 128 (z *ℤ pos (2 ^ k))
moved_bits z x k e =
    ap (λ n. n * 2 ^ k % 2 ^ 128) e
    ∙ sym (residue-mul 128 z (pos (2 ^ k)) ∙ (ap (λ n. residue 128 z * n % 2 ^ 128) (residue-pos 128 (2 ^ k)) ∙ mul-mod_second (residue 128 z) (2 ^ k) (2 ^ 128)))

plain_left : (k : ℕ) (a : Point) → IsPoint a → a.form.signed ≡ false → a.number * 2 ^ k ≡ residue (a.form.width + k) (value_at a *ℤ pos (2 ^ k))
plain_left k a f e = rw (value_unsigned a.form a.number e) (fits (a.form.width + k) (a.number * 2 ^ k) (shl_below a.number a.form.width k f.below))

pub wrapped_left : (k : ℕ) (a : Point) (x : ℕ) → IsPoint a → AreBits a x → IsWrapped (Left k) (a ∷ []) (x * 2 ^ k % 2 ^ 128)
wrapped_left k a x f p =
    let z = value_at a *ℤ pos (2 ^ k) in
    let w = λ (t : Bool). cond t (a.form.width + k) (a.form.width + k) in
    wrapped_is (Left k) (a ∷ []) z (x * 2 ^ k % 2 ^ 128) (by_sign a.form.signed w z (a.number * 2 ^ k) (plain_left k a f)) (moved_bits (value_at a) x k p)

plain_left_by : (k : ℕ) (a : Point) → a.form.signed ≡ false → a.number * 2 ^ k % 2 ^ a.form.width ≡ residue a.form.width (value_at a *ℤ pos (2 ^ k))
plain_left_by k a e = rw (value_unsigned a.form a.number e) (sym (residue-pos a.form.width (a.number * 2 ^ k)))

pub wrapped_left_by : (a by : Point) (x : ℕ) → AreBits a x → IsWrapped LeftBy (a ∷ by ∷ []) (x * 2 ^ by.number % 2 ^ 128)
wrapped_left_by a by x p =
    let k = by.number in
    let z = value_at a *ℤ pos (2 ^ k) in
    let w = λ (t : Bool). cond t a.form.width a.form.width in
    wrapped_is LeftBy (a ∷ by ∷ []) z (x * 2 ^ k % 2 ^ 128) (by_sign a.form.signed w z (a.number * 2 ^ k % 2 ^ a.form.width) (plain_left_by k a)) (moved_bits (value_at a) x k p)

plain_right : (k v : ℕ) (a : Point) → a.number < 2 ^ (v + k) → a.form.signed ≡ false → a.number / 2 ^ k ≡ residue v (int_div_euclid (value_at a) (pos (2 ^ k)))
plain_right k v a few e = rw (value_unsigned a.form a.number e) (fits v (a.number / 2 ^ k) (shr_below a.number v k few))

pub wrapped_right : (k : ℕ) (a : Point) (x : ℕ) → IsPoint a → x ≡ residue 128 (int_div_euclid (value_at a) (pos (2 ^ k))) → IsWrapped (Right k) (a ∷ []) x
wrapped_right k a x f p =
    let v = max 1 (a.form.width - k) in
    let z = int_div_euclid (value_at a) (pos (2 ^ k)) in
    let few : a.number < 2 ^ (v + k) = omega (arith, f.below, wide a.form.width (v + k) (omega arith)) in
    wrapped_is (Right k) (a ∷ []) z x (by_sign a.form.signed (λ t. cond t v v) z (a.number / 2 ^ k) (plain_right k v a few)) p

pub wrapped_right_by : (a by : Point) (x : ℕ) → IsPoint a → x ≡ residue 128 (int_div_euclid (value_at a) (pos (2 ^ by.number))) → IsWrapped RightBy (a ∷ by ∷ []) x
wrapped_right_by a by x f p =
    let v = a.form.width in
    let k = by.number in
    let z = int_div_euclid (value_at a) (pos (2 ^ k)) in
    let few : a.number < 2 ^ (v + k) = omega (arith, f.below, wide v (v + k) (omega arith)) in
    wrapped_is RightBy (a ∷ by ∷ []) z x (by_sign a.form.signed (λ t. cond t v v) z (a.number / 2 ^ k) (plain_right k v a few)) p

-- ---- slices and concatenations
pub wrapped_slice : (high low : ℕ) (a : Point) (x : ℕ) → x < 2 ^ 128 → x ≡ a.number / 2 ^ low → IsWrapped (Slice high low) (a ∷ []) x
wrapped_slice high low a x few e =
    let w = high - low + 1 in
    wrapped_is (Slice high low) (a ∷ []) (pos (a.number / 2 ^ low)) x (sym (residue-pos w (a.number / 2 ^ low))) (fits 128 x few ∙ ap (λ n. residue 128 (pos n)) e)

pub wrapped_cat : (a b : Point) (x : ℕ) → IsPoint a → IsPoint b → x ≡ (a.number * 2 ^ b.form.width + b.number) % 2 ^ 128 → IsWrapped Cat (a ∷ b ∷ []) x
wrapped_cat a b x f g e =
    let v = a.form.width in
    let w = b.form.width in
    let n = a.number * 2 ^ w + b.number in
    let few : n < 2 ^ (v + w) = omega (arith, mul-add-lt a.number (2 ^ w) b.number (2 ^ v) f.below g.below, pow-add 2 v w) in
    wrapped_is Cat (a ∷ b ∷ []) (pos n) x (fits (v + w) n few) (e ∙ sym (residue-pos 128 n))
