-- Values in two's complement of 128 bits, and results that are right so far as their width shows.
use Rattle.std.specs.Prelude.{◌≡◌, ◌<◌, ℕ, ◌%◌, ◌-◌, ◌^◌, ◌&&◌, Bool, nat_le, min, cond, List, ℤ, pos, ◌-ℤ◌}
use Rattle.pr_flat_ops.specs.declared.wholes.Whole.{Whole}
use Rattle.pr_flat.specs.declared.equations.Op.{Op}
use Rattle.pr_flat.specs.declared.forms.Form.{Form}
use Rattle.pr_flat.specs.declared.forms.Point.{Point}
use Rattle.pr_flat.specs.Rows.{forms_of, natural_width, natural_number}

-- the value that a sign and 128 bits stand for
abbrev pub whole_value : Whole → ℤ
whole_value w = cond w.negative (pos w.bits -ℤ pos (2 ^ 128)) (pos w.bits)

-- whether a number of at most 128 bits stands for a value below 0
abbrev pub shows_sign : Form → ℕ → Bool
shows_sign f n = f.signed && (nat_le f.width 128 && nat_le (2 ^ (f.width - 1)) n)

-- the result fits its natural width, and agrees with a number so far as both the width and 128 bits show
pub record IsWrapped (op : Op) (points : List Point) (n : ℕ) : Type 0 where
  pub below : natural_number op points < 2 ^ natural_width op (forms_of points)
  pub same : natural_number op points % 2 ^ min (natural_width op (forms_of points)) 128 ≡ n % 2 ^ min (natural_width op (forms_of points)) 128
