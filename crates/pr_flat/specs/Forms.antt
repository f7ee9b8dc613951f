-- Kinds, widths and numbers of streams, and the values that numbers stand for.
use Rattle.std.specs.Prelude.{ℕ, zero, suc, ◌+◌, ◌-◌, ◌^◌, ◌<◌, ◌≤◌, Bool, cond, ◌&&◌, max, nat_le, nat_lt, Option, Some, None, unwrap_or, List, map, ℤ, pos, ◌-ℤ◌, unsigned_abs}
use Rattle.std.specs.Int.{int_rem_euclid}
use Rattle.std.specs.List.{range_with_len}
use Rattle.pr_flat.specs.declared.forms.Form.{Form}
use Rattle.pr_flat.specs.declared.forms.Point.{Point}

-- the value that a number below 2 to the power of the width stands for
unfoldable pub value : Form → ℕ → ℤ
value f n = cond (f.signed && nat_le (2 ^ (f.width - 1)) n) (pos n -ℤ pos (2 ^ f.width)) (pos n)

-- a value modulo 2 to the power of w
unfoldable pub residue : ℕ → ℤ → ℕ
residue w z = unsigned_abs (int_rem_euclid z (pos (2 ^ w)))

abbrev pub value_at : Point → ℤ
value_at p = value p.form p.number

-- a stream that an operator takes is 1 to 128 bits wide
pub record IsForm (f : Form) : Type 0 where
  pub positive : 1 ≤ f.width
  pub greatest : f.width ≤ 128

-- and each of its numbers has no more bits
pub record IsPoint (p : Point) : Type 0 where
  pub form : IsForm p.form
  pub below : p.number < 2 ^ p.form.width

-- the width that an operand has among signed ones
abbrev pub signed_width : Form → ℕ
signed_width f = cond f.signed f.width (f.width + 1)

abbrev pub wider : Form → Form → ℕ
wider f g = max f.width g.width

abbrev pub wider_signed : Form → Form → ℕ
wider_signed f g = max (signed_width f) (signed_width g)

-- a stream of as many numbers as there are samples
pub record Stream : Type 0 where
  pub form : Form
  pub numbers : List ℕ

-- the list with this number at each of m places
abbrev pub numbers_by : ℕ → (ℕ → ℕ) → List ℕ
numbers_by m f = map f (range_with_len 0 m)

-- the least w of so many, from this one on, that passes the test
abbrev pub least_from : ℕ → ℕ → (ℕ → Bool) → Option ℕ
least_from zero at test = None
least_from (suc k) at test = cond (test at) (Some at) (least_from k (at + 1) test)

-- the least number of bits, from 1 on, that hold a number below 2 to the power of 64
unfoldable pub number_width : ℕ → ℕ
number_width n = unwrap_or (least_from 64 1 (λ w. nat_lt n (2 ^ w))) 64
