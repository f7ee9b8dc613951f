-- The natural width of an operator holds its number.
use Rattle.std.proofs.Common.{◌≡◌, ℕ, ◌+◌, ◌-◌, ◌*◌, ◌/◌, ◌^◌, ◌<◌, ◌≤◌, Bool, true, false, cond, max, List, [], ◌∷◌, nat_eq, ◌∙◌, ap, inl, inr, arith, ℤ}
use Rattle.std.proofs.lemmas.Bool.{cases_lt}
use Rattle.std.proofs.lemmas.Nat.{pow_pos, pow-add, mul-lt, or_lt, xor_lt, and_le_l}
use Rattle.std.proofs.Math.Nat.{mod-lt, pow-le-pow_right, le-max_left, le-max_right, div-le_self, div-lt_iff_lt-mul}
use Rattle.pr_flat.specs.declared.equations.Op.{Op}
use Rattle.pr_flat.specs.declared.equations.Op.TheVariants.{Add, Sub, Mul, And, Or, Xor, Not, Equal, NotEqual, Less, LessEqual, Greater, GreaterEqual, Choose, Left, Right, LeftBy, RightBy, Slice, Cat, Fit}
use Rattle.pr_flat.specs.declared.forms.Point.{Point}
use Rattle.pr_flat.specs.Forms.{residue}
use Rattle.pr_flat.specs.Rows.{AreLawful, has_signed, unsigned_width, signed_result_width, natural_width, bit, unsigned_number, signed_value, forms_of, natural_number}
use Rattle.pr_flat.proofs.FormLemmas.{residue-lt}

widened : (n v w : ℕ) → n < 2 ^ v → v ≤ w → n < 2 ^ w
widened n v w low more = let two : 0 < 2 = omega arith in omega (arith, pow-le-pow_right two more)

widened_first : (n v w : ℕ) → n < 2 ^ v → n < 2 ^ max v w
widened_first n v w low = widened n v (max v w) low (le-max_left v w)

widened_next : (n v w : ℕ) → n < 2 ^ w → n < 2 ^ max v w
widened_next n v w low = widened n w (max v w) low (le-max_right v w)

sum_lt : (a b v w : ℕ) → a < 2 ^ v → b < 2 ^ w → a + b < 2 ^ (max v w + 1)
sum_lt a b v w low high =
    let one = widened_first a v w low in
    let other = widened_next b v w high in
    let double : 2 ^ (max v w + 1) ≡ 2 ^ max v w * 2 = pow-add 2 (max v w) 1 in omega arith

product_lt : (a b v w : ℕ) → a < 2 ^ v → b < 2 ^ w → a * b < 2 ^ (v + w)
product_lt a b v w low high = let whole : 2 ^ (v + w) ≡ 2 ^ v * 2 ^ w = pow-add 2 v w in rw whole (mul-lt a b (2 ^ v) (2 ^ w) low high)

shifted_lt : (a w k : ℕ) → a < 2 ^ w → a * 2 ^ k < 2 ^ (w + k)
shifted_lt a w k low = let whole : 2 ^ (w + k) ≡ 2 ^ w * 2 ^ k = pow-add 2 w k in let positive = pow_pos k in rw whole (times a (2 ^ w) (2 ^ k) low positive) where
  times : (m n p : ℕ) → m < n → 0 < p → m * p < n * p
  times m n p less positive = grind arith

joined_lt : (a b v w : ℕ) → a < 2 ^ v → b < 2 ^ w → a * 2 ^ w + b < 2 ^ (v + w)
joined_lt a b v w low high = let whole : 2 ^ (v + w) ≡ 2 ^ v * 2 ^ w = pow-add 2 v w in rw whole (times a (2 ^ v) (2 ^ w) b low high) where
  times : (m n p r : ℕ) → m < n → r < p → m * p + r < n * p
  times m n p r less rest = grind arith

moved_lt : (a w k : ℕ) → a < 2 ^ w → a / 2 ^ k < 2 ^ max 1 (w - k)
moved_lt a w k low = elim (cases_lt w k) [
  | inl less ↦ (let positive = pow_pos k in let small : a < 1 * 2 ^ k = omega (arith, widened a w k low (omega arith)) in let none : a / 2 ^ k < 1 = (div-lt_iff_lt-mul positive).1 small in widened (a / 2 ^ k) 0 (max 1 (w - k)) none (omega arith))
  | inr more ↦ (let positive = pow_pos k in let whole : 2 ^ w ≡ 2 ^ (w - k) * 2 ^ k = ap (λ n. 2 ^ n) (parts w k more) ∙ pow-add 2 (w - k) k in let small : a < 2 ^ (w - k) * 2 ^ k = omega arith in widened_next (a / 2 ^ k) 1 (w - k) ((div-lt_iff_lt-mul positive).1 small))
] where
  parts : (m n : ℕ) → n ≤ m → m ≡ m - n + n
  parts m n less = omega arith

bit_lt : (b : Bool) → bit b < 2 ^ 1
bit_lt true = omega arith
bit_lt false = omega arith

chosen_lt : (b : Bool) (m n p : ℕ) → m < p → n < p → cond b m n < p
chosen_lt true m n p one other = one
chosen_lt false m n p one other = other

unsigned_number-lt : (op : Op) (points : List Point) → AreLawful points → unsigned_number op points < 2 ^ unsigned_width op (forms_of points)
unsigned_number-lt Add (a ∷ b ∷ []) low = sum_lt a.number b.number a.form.width b.form.width low.0 low.1.0
unsigned_number-lt Sub (a ∷ b ∷ []) low = residue-lt _ _
unsigned_number-lt Mul (a ∷ b ∷ []) low = product_lt a.number b.number a.form.width b.form.width low.0 low.1.0
unsigned_number-lt And (a ∷ b ∷ []) low = let less = and_le_l a.number b.number in let high = widened_first a.number a.form.width b.form.width low.0 in omega arith
unsigned_number-lt Or (a ∷ b ∷ []) low = or_lt (max a.form.width b.form.width) a.number b.number (widened_first a.number a.form.width b.form.width low.0) (widened_next b.number a.form.width b.form.width low.1.0)
unsigned_number-lt Xor (a ∷ b ∷ []) low = xor_lt (max a.form.width b.form.width) a.number b.number (widened_first a.number a.form.width b.form.width low.0) (widened_next b.number a.form.width b.form.width low.1.0)
unsigned_number-lt Not (a ∷ []) low = let positive = pow_pos a.form.width in omega arith
unsigned_number-lt Equal (a ∷ b ∷ []) low = bit_lt _
unsigned_number-lt NotEqual (a ∷ b ∷ []) low = bit_lt _
unsigned_number-lt Less (a ∷ b ∷ []) low = bit_lt _
unsigned_number-lt LessEqual (a ∷ b ∷ []) low = bit_lt _
unsigned_number-lt Greater (a ∷ b ∷ []) low = bit_lt _
unsigned_number-lt GreaterEqual (a ∷ b ∷ []) low = bit_lt _
unsigned_number-lt Choose (c ∷ a ∷ b ∷ []) low = chosen_lt (nat_eq c.number 1) a.number b.number (2 ^ max a.form.width b.form.width) (widened_first a.number a.form.width b.form.width low.1.0) (widened_next b.number a.form.width b.form.width low.1.1.0)
unsigned_number-lt (Left k) (a ∷ []) low = shifted_lt a.number a.form.width k low.0
unsigned_number-lt (Right k) (a ∷ []) low = moved_lt a.number a.form.width k low.0
unsigned_number-lt LeftBy (a ∷ by ∷ []) low = mod-lt (a.number * 2 ^ by.number) (pow_pos a.form.width)
unsigned_number-lt RightBy (a ∷ by ∷ []) low = let less = div-le_self a.number (2 ^ by.number) in let here = low.0 in omega arith
unsigned_number-lt (Slice high below) (a ∷ []) low = mod-lt (a.number / 2 ^ below) (pow_pos (high - below + 1))
unsigned_number-lt Cat (a ∷ b ∷ []) low = joined_lt a.number b.number a.form.width b.form.width low.0 low.1.0
unsigned_number-lt Fit (a ∷ []) low = low.0
unsigned_number-lt op points low = pow_pos (unsigned_width op (forms_of points))

either_lt : (b : Bool) (v w n : ℕ) (z : ℤ) → n < 2 ^ w → cond b (residue (cond b v w) z) n < 2 ^ cond b v w
either_lt true v w n z low = residue-lt v z
either_lt false v w n z low = low

-- the number of an operator has the bits of its natural width
pub natural_number-lt : (op : Op) (points : List Point) → AreLawful points → natural_number op points < 2 ^ natural_width op (forms_of points)
natural_number-lt op points low = either_lt (has_signed op (forms_of points)) (signed_result_width op (forms_of points)) (unsigned_width op (forms_of points)) (unsigned_number op points) (signed_value op points) (unsigned_number-lt op points low)
