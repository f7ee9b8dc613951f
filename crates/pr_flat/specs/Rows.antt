-- The operators row by row: which operands they take, the kind and the width that hold the result, and the number of the result at one sample.
-- A condition, a shift amount, and the parts of a slice and of a concatenation are read as numbers; any other operand by its kind.
use Rattle.std.specs.Prelude.{ℕ, ◌+◌, ◌-◌, ◌*◌, ◌/◌, ◌%◌, ◌^◌, ◌<◌, Bool, true, false, cond, not, ◌&&◌, ◌||◌, max, nat_eq, nat_lt, nat_le, List, [], ◌∷◌, map, bit_and, bit_or, bit_xor, ℤ, pos, negsuc, ◌+ℤ◌, ◌-ℤ◌, ◌*ℤ◌, int_lt}
use Rattle.std.specs.Int.{int_div_euclid}
use Rattle.pr_flat.specs.declared.equations.Op.{Op}
use Rattle.pr_flat.specs.declared.equations.Op.TheVariants.{Add, Sub, Mul, And, Or, Xor, Not, Equal, NotEqual, Less, LessEqual, Greater, GreaterEqual, Choose, Left, Right, LeftBy, RightBy, Slice, Cat, Fit, Delay}
use Rattle.pr_flat.specs.declared.forms.Form.{Form}
use Rattle.pr_flat.specs.declared.forms.Point.{Point}
use Rattle.pr_flat.specs.Forms.{value_at, residue, signed_width, wider, wider_signed}

-- whether an operand that decides is signed, so that the rows for signed operands hold
abbrev pub has_signed : Op → List Form → Bool
has_signed Not (f ∷ []) = f.signed
has_signed (Left k) (f ∷ []) = f.signed
has_signed (Right k) (f ∷ []) = f.signed
has_signed LeftBy (f ∷ by ∷ []) = f.signed
has_signed RightBy (f ∷ by ∷ []) = f.signed
has_signed Choose (c ∷ f ∷ g ∷ []) = f.signed || g.signed
has_signed Add (f ∷ g ∷ []) = f.signed || g.signed
has_signed Sub (f ∷ g ∷ []) = f.signed || g.signed
has_signed Mul (f ∷ g ∷ []) = f.signed || g.signed
has_signed And (f ∷ g ∷ []) = f.signed || g.signed
has_signed Or (f ∷ g ∷ []) = f.signed || g.signed
has_signed Xor (f ∷ g ∷ []) = f.signed || g.signed
has_signed Equal (f ∷ g ∷ []) = f.signed || g.signed
has_signed NotEqual (f ∷ g ∷ []) = f.signed || g.signed
has_signed Less (f ∷ g ∷ []) = f.signed || g.signed
has_signed LessEqual (f ∷ g ∷ []) = f.signed || g.signed
has_signed Greater (f ∷ g ∷ []) = f.signed || g.signed
has_signed GreaterEqual (f ∷ g ∷ []) = f.signed || g.signed
has_signed op fs = false

abbrev pub is_comparison : Op → Bool
is_comparison Equal = true
is_comparison NotEqual = true
is_comparison Less = true
is_comparison LessEqual = true
is_comparison Greater = true
is_comparison GreaterEqual = true
is_comparison op = false

-- the kind of the result
abbrev pub gives_signed : Op → List Form → Bool
gives_signed Fit (f ∷ []) = f.signed
gives_signed (Delay c) (f ∷ []) = f.signed
gives_signed op fs = has_signed op fs && not (is_comparison op)

-- a condition is one bit wide, and a slice's high end lies in the operand
abbrev pub takes : Op → List Form → Bool
takes Choose (c ∷ f ∷ g ∷ []) = nat_eq c.width 1
takes (Slice high low) (f ∷ []) = nat_lt high f.width
takes op fs = true

-- the natural width where no operand that decides is signed
abbrev pub unsigned_width : Op → List Form → ℕ
unsigned_width Add (f ∷ g ∷ []) = wider f g + 1
unsigned_width Sub (f ∷ g ∷ []) = wider f g
unsigned_width Mul (f ∷ g ∷ []) = f.width + g.width
unsigned_width And (f ∷ g ∷ []) = wider f g
unsigned_width Or (f ∷ g ∷ []) = wider f g
unsigned_width Xor (f ∷ g ∷ []) = wider f g
unsigned_width Not (f ∷ []) = f.width
unsigned_width Equal (f ∷ g ∷ []) = 1
unsigned_width NotEqual (f ∷ g ∷ []) = 1
unsigned_width Less (f ∷ g ∷ []) = 1
unsigned_width LessEqual (f ∷ g ∷ []) = 1
unsigned_width Greater (f ∷ g ∷ []) = 1
unsigned_width GreaterEqual (f ∷ g ∷ []) = 1
unsigned_width Choose (c ∷ f ∷ g ∷ []) = wider f g
unsigned_width (Left k) (f ∷ []) = f.width + k
unsigned_width (Right k) (f ∷ []) = max 1 (f.width - k)
unsigned_width LeftBy (f ∷ by ∷ []) = f.width
unsigned_width RightBy (f ∷ by ∷ []) = f.width
unsigned_width (Slice high low) (f ∷ []) = high - low + 1
unsigned_width Cat (f ∷ g ∷ []) = f.width + g.width
unsigned_width Fit (f ∷ []) = f.width
unsigned_width (Delay c) (f ∷ []) = f.width
unsigned_width op fs = 0

-- the natural width where one is signed
abbrev pub signed_result_width : Op → List Form → ℕ
signed_result_width Add (f ∷ g ∷ []) = wider_signed f g + 1
signed_result_width Sub (f ∷ g ∷ []) = wider_signed f g + 1
signed_result_width Mul (f ∷ g ∷ []) = signed_width f + signed_width g
signed_result_width And (f ∷ g ∷ []) = wider_signed f g
signed_result_width Or (f ∷ g ∷ []) = wider_signed f g
signed_result_width Xor (f ∷ g ∷ []) = wider_signed f g
signed_result_width Choose (c ∷ f ∷ g ∷ []) = wider_signed f g
signed_result_width op fs = unsigned_width op fs

abbrev pub natural_width : Op → List Form → ℕ
natural_width op fs = cond (has_signed op fs) (signed_result_width op fs) (unsigned_width op fs)

abbrev pub natural_form : Op → List Form → Form
natural_form op fs = record { signed = gives_signed op fs; width = natural_width op fs }

-- a truth is 1 or 0
abbrev pub bit : Bool → ℕ
bit t = cond t 1 0

-- the number where no operand that decides is signed
abbrev pub unsigned_number : Op → List Point → ℕ
unsigned_number Add (a ∷ b ∷ []) = a.number + b.number
unsigned_number Sub (a ∷ b ∷ []) = residue (wider a.form b.form) (pos a.number -ℤ pos b.number)
unsigned_number Mul (a ∷ b ∷ []) = a.number * b.number
unsigned_number And (a ∷ b ∷ []) = bit_and a.number b.number
unsigned_number Or (a ∷ b ∷ []) = bit_or a.number b.number
unsigned_number Xor (a ∷ b ∷ []) = bit_xor a.number b.number
unsigned_number Not (a ∷ []) = 2 ^ a.form.width - 1 - a.number
unsigned_number Equal (a ∷ b ∷ []) = bit (nat_eq a.number b.number)
unsigned_number NotEqual (a ∷ b ∷ []) = bit (not (nat_eq a.number b.number))
unsigned_number Less (a ∷ b ∷ []) = bit (nat_lt a.number b.number)
unsigned_number LessEqual (a ∷ b ∷ []) = bit (nat_le a.number b.number)
unsigned_number Greater (a ∷ b ∷ []) = bit (nat_lt b.number a.number)
unsigned_number GreaterEqual (a ∷ b ∷ []) = bit (nat_le b.number a.number)
unsigned_number Choose (c ∷ a ∷ b ∷ []) = cond (nat_eq c.number 1) a.number b.number
unsigned_number (Left k) (a ∷ []) = a.number * 2 ^ k
unsigned_number (Right k) (a ∷ []) = a.number / 2 ^ k
unsigned_number LeftBy (a ∷ by ∷ []) = a.number * 2 ^ by.number % 2 ^ a.form.width
unsigned_number RightBy (a ∷ by ∷ []) = a.number / 2 ^ by.number
unsigned_number (Slice high low) (a ∷ []) = a.number / 2 ^ low % 2 ^ (high - low + 1)
unsigned_number Cat (a ∷ b ∷ []) = a.number * 2 ^ b.form.width + b.number
unsigned_number Fit (a ∷ []) = a.number
unsigned_number op points = 0

-- the value where one is signed; it is taken modulo 2 to the power of the natural width
abbrev pub signed_value : Op → List Point → ℤ
signed_value Add (a ∷ b ∷ []) = value_at a +ℤ value_at b
signed_value Sub (a ∷ b ∷ []) = value_at a -ℤ value_at b
signed_value Mul (a ∷ b ∷ []) = value_at a *ℤ value_at b
signed_value And (a ∷ b ∷ []) = let m = wider_signed a.form b.form in pos (bit_and (residue m (value_at a)) (residue m (value_at b)))
signed_value Or (a ∷ b ∷ []) = let m = wider_signed a.form b.form in pos (bit_or (residue m (value_at a)) (residue m (value_at b)))
signed_value Xor (a ∷ b ∷ []) = let m = wider_signed a.form b.form in pos (bit_xor (residue m (value_at a)) (residue m (value_at b)))
signed_value Not (a ∷ []) = negsuc 0 -ℤ value_at a
signed_value Equal (a ∷ b ∷ []) = pos (bit (not (int_lt (value_at a) (value_at b)) && not (int_lt (value_at b) (value_at a))))
signed_value NotEqual (a ∷ b ∷ []) = pos (bit (int_lt (value_at a) (value_at b) || int_lt (value_at b) (value_at a)))
signed_value Less (a ∷ b ∷ []) = pos (bit (int_lt (value_at a) (value_at b)))
signed_value LessEqual (a ∷ b ∷ []) = pos (bit (not (int_lt (value_at b) (value_at a))))
signed_value Greater (a ∷ b ∷ []) = pos (bit (int_lt (value_at b) (value_at a)))
signed_value GreaterEqual (a ∷ b ∷ []) = pos (bit (not (int_lt (value_at a) (value_at b))))
signed_value Choose (c ∷ a ∷ b ∷ []) = cond (nat_eq c.number 1) (value_at a) (value_at b)
signed_value (Left k) (a ∷ []) = value_at a *ℤ pos (2 ^ k)
signed_value (Right k) (a ∷ []) = int_div_euclid (value_at a) (pos (2 ^ k))
signed_value LeftBy (a ∷ by ∷ []) = value_at a *ℤ pos (2 ^ by.number)
signed_value RightBy (a ∷ by ∷ []) = int_div_euclid (value_at a) (pos (2 ^ by.number))
signed_value op points = pos 0

abbrev pub forms_of : List Point → List Form
forms_of points = map (λ (a : Point). a.form) points

-- the number of the result at its natural width
abbrev pub natural_number : Op → List Point → ℕ
natural_number op points = cond (has_signed op (forms_of points)) (residue (natural_width op (forms_of points)) (signed_value op points)) (unsigned_number op points)

-- each number has the bits of its width
abbrev pub AreLawful : List Point → Type 0
AreLawful [] = Unit {0}
AreLawful (p ∷ points) = (p.number < 2 ^ p.form.width) × AreLawful points
