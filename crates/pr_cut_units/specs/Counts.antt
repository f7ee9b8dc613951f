-- How many units an equation has, from widths and kinds alone.
use Rattle.std.specs.Prelude.{ℕ, ◌+◌, ◌-◌, ◌/◌, ◌%◌, ◌==◌, ◌&&◌, ◌||◌, Bool, nat_lt, if◌then◌else◌, min, List, [], ◌∷◌}
use Rattle.std.specs.List.{sum}
use Rattle.pr_base.specs.Numbers.{slices_of}
use Rattle.pr_flat.specs.declared.equations.Op.{Op}
use Rattle.pr_flat.specs.declared.forms.Form.{Form}
use Rattle.pr_flat.specs.Forms.{wider, wider_signed}
use Rattle.pr_flat.specs.Rows.{gives_signed}
use Rattle.pr_cut_units.specs.Parts.{each}
use Rattle.pr_cut_units.specs.Operators.{ends_whole}
use Rattle.pr_cut_units.specs.Products.{row_width}
use Rattle.pr_cut_units.specs.Table.{factor_width, computed_bits}

-- a unit where one is needed
abbrev pub one_where : Bool → ℕ
one_where needed = if needed then 1 else 0

abbrev pub widening_count : Form → ℕ → ℕ
widening_count f t = one_where (f.signed && nat_lt f.width t)

abbrev pub both_count : ℕ → Form → Form → ℕ
both_count t f g = widening_count f t + widening_count g t

-- the segments of a chain of n cells
abbrev pub chain_count : ℕ → ℕ
chain_count n = (n + 3) / 4

abbrev pub less_count : Form → Form → ℕ
less_count f g =
    let m = wider_signed f g in
    if f.signed || g.signed then both_count (m + 1) f g + chain_count (slices_of (m + 1)) + 1 else chain_count (slices_of (wider f g))

abbrev pub equal_count : Form → Form → ℕ
equal_count f g =
    let m = if f.signed || g.signed then wider_signed f g else wider f g in
    both_count m f g + chain_count (slices_of m)

abbrev pub left_count : ℕ → ℕ → ℕ → ℕ
left_count e w k = if k % 8 == 0 && ends_whole e (w + k) then 0 else 1

abbrev pub extract_count : ℕ → ℕ → ℕ → ℕ
extract_count e w l = if l % 8 == 0 && ends_whole (l + e) w then 0 else 1

abbrev pub right_count : ℕ → ℕ → Form → ℕ
right_count e k f =
    if f.signed then extract_count e f.width (min k (f.width - 1))
    else if nat_lt k f.width then extract_count e f.width k
    else 0

-- the rows of a product, each a chain
abbrev pub product_count : ℕ → ℕ → ℕ → ℕ
product_count e wa wb = sum (each (min wb e) (λ j. chain_count (slices_of (row_width e wa j) - j / 8)))

-- the units of e bits of an operator's result
abbrev pub operator_count : ℕ → Op → List Form → ℕ
operator_count e Op.And (f ∷ g ∷ []) = both_count e f g + 1
operator_count e Op.Or (f ∷ g ∷ []) = both_count e f g + 1
operator_count e Op.Xor (f ∷ g ∷ []) = both_count e f g + 1
operator_count e Op.Not (f ∷ []) = 1
operator_count e Op.Choose (c ∷ f ∷ g ∷ []) = both_count e f g + 1
operator_count e Op.Add (f ∷ g ∷ []) = both_count e f g + chain_count (slices_of e)
operator_count e Op.Sub (f ∷ g ∷ []) = both_count e f g + chain_count (slices_of e)
operator_count e Op.Mul (f ∷ g ∷ []) = both_count e f g + product_count e (factor_width (f.signed || g.signed) e f) (factor_width (f.signed || g.signed) e g)
operator_count e Op.Less (f ∷ g ∷ []) = less_count f g
operator_count e Op.GreaterEqual (f ∷ g ∷ []) = less_count f g
operator_count e Op.Greater (f ∷ g ∷ []) = less_count g f
operator_count e Op.LessEqual (f ∷ g ∷ []) = less_count g f
operator_count e Op.Equal (f ∷ g ∷ []) = equal_count f g
operator_count e Op.NotEqual (f ∷ g ∷ []) = equal_count f g
operator_count e (Op.Left k) (f ∷ []) = left_count e f.width k
operator_count e (Op.Right k) (f ∷ []) = right_count e k f
operator_count e (Op.Slice high low) (f ∷ []) = extract_count e f.width low
operator_count e Op.Fit (f ∷ []) = extract_count e f.width 0
operator_count e Op.Cat (f ∷ g ∷ []) = left_count e f.width g.width
operator_count e Op.LeftBy (f ∷ by ∷ []) = by.width + extract_count e f.width 0
operator_count e Op.RightBy (f ∷ by ∷ []) = (if f.signed then 2 else 0) + by.width + extract_count e f.width 0
operator_count e op fs = 0

-- the units of an operator at width w
abbrev pub count_at : ℕ → Op → List Form → ℕ
count_at w op fs =
    let e = computed_bits w op fs in
    operator_count e op fs + widening_count (record { signed = gives_signed op fs; width = e }) w

-- the units of a recurrence of width w: those before its first hold unit, and k hold units
abbrev pub body_count : ℕ → List Form → ℕ
body_count w (f ∷ []) = widening_count f w
body_count w fs = 0
