-- What is known of a stream: its kind and width, between which values it stands, and of a constant which number it is.
use Rattle.std.specs.Prelude.{ℕ, Bool, true, false, cond, ◌&&◌, ◌+◌, ◌-◌, nat_eq, nat_le, nat_lt, if◌then◌else◌, List, [], ◌∷◌, Option, Some, None, option_map}
use Rattle.std.specs.Option.{option_and_then}
use Rattle.std.specs.Result.{result_ok}
use Rattle.pr_lang.specs.declared.trees.BinOp.{BinOp}
use Rattle.pr_lang.specs.declared.trees.BinOp.TheVariants as binary
use Rattle.pr_scope_names.specs.Constants.{applied}
use Rattle.pr_scope_names.specs.Amounts.{fixed_op}
use Rattle.pr_flat.specs.declared.equations.Op.{Op}
use Rattle.pr_flat.specs.declared.equations.Op.TheVariants as op
use Rattle.pr_flat.specs.declared.forms.Form.{Form}
use Rattle.pr_flat.specs.Facts.{is_width}
use Rattle.pr_flat.specs.Forms.{number_width}
use Rattle.pr_flat.specs.Rows.{natural_form, takes}
use Rattle.pr_lang_meaning.specs.Expressions.{operator, shift_by}
use Rattle.pr_lens_reach.specs.declared.extents.Extent.{Extent}
use Rattle.pr_lens_reach.specs.declared.reaches.Bound.{Bound}
use Rattle.pr_lens_reach.specs.declared.reaches.Reach.{Reach}
use Rattle.pr_lens_reach.specs.Reaches.{apart_of, common_of, difference_of, either_of, fits_at, greatest_of, lowered_of, only, over, product_of, raised_of, read_signed, sum_of, together_of, under, whole, whole_of, within}

abbrev pub unsigned_form : ℕ → Form
unsigned_form width = record { signed = false; width = width }

-- a stream that is not always one number
abbrev pub varied : Option Reach → Form → Extent
varied r f = record { form = f; number = None; still = None; reach = r }

-- a stream of which the kind and the width alone are known
abbrev pub plain : Form → Extent
plain f = varied (whole f) f

abbrev pub constant : ℕ → Extent
constant n = record { form = unsigned_form (number_width n); number = Some n; still = Some n; reach = Some (only (over n)) }

-- a comparison is 1 or 0
abbrev pub truth : Extent
truth = plain (unsigned_form 1)

-- an operand is 1 to 128 bits wide
abbrev pub held_form : Form → Option Form
held_form f = cond (is_width f.width) (Some f) None

abbrev pub form_of : Extent → Option Form
form_of e = held_form e.form

abbrev pub held : Option Extent → Option Form
held e = option_and_then form_of e

-- ---- operators
-- the kind and width of what an operator makes of operands that it takes
abbrev pub taken : Op → List Form → Option Form
taken o fs = cond (takes o fs) (Some (natural_form o fs)) None

abbrev pub of_one : Op → Option Form → Option Form
of_one o None = None
of_one o (Some f) = taken o (f ∷ [])

abbrev pub of_two : Op → Option Form → Option Form → Option Form
of_two o (Some f) (Some g) = Some (natural_form o (f ∷ g ∷ []))
of_two o _ _ = None

abbrev pub of_branches : Option Form → Option Form → Option Form
of_branches (Some f) (Some g) = taken op.Choose (unsigned_form 1 ∷ f ∷ g ∷ [])
of_branches _ _ = None

abbrev pub number_of : Option Extent → Option ℕ
number_of None = None
number_of (Some e) = e.number

-- a sum, difference or product of constants
abbrev pub applied_to : Option ℕ → Option ℕ → BinOp → Option ℕ
applied_to (Some a) (Some b) o = option_and_then (λ f. result_ok (applied f a b)) (fixed_op o)
applied_to _ _ o = None

abbrev pub reach_of : Option Extent → Option Reach
reach_of None = None
reach_of (Some e) = e.reach

-- an operator of two operands, of which the kind and width are these: a difference of unsigned numbers that goes below 0 wraps around
abbrev pub reach_on : BinOp → Form → Reach → Reach → Option Reach
reach_on binary.Add f r s = sum_of r s
reach_on binary.Mul f r s = product_of r s
reach_on binary.Sub f r s = within (whole f) (difference_of r s)
reach_on binary.And f r s = within (whole f) (common_of r s)
reach_on binary.Or f r s = within (whole f) (together_of r s)
reach_on binary.Xor f r s = within (whole f) (apart_of r s)
reach_on o f r s = whole f

abbrev pub reach_by : BinOp → Form → Option Reach → Option Reach → Option Reach
reach_by o f (Some r) (Some s) = reach_on o f r s
reach_by o f _ _ = whole f

abbrev pub numbered : Option ℕ → Option Reach → Form → Extent
numbered None r f = varied r f
numbered (Some n) r f = record { form = f; number = Some n; still = Some n; reach = Some (only (over n)) }

abbrev pub two_numbered : BinOp → Option Extent → Option Extent → Form → Extent
two_numbered o a b f = numbered (applied_to (number_of a) (number_of b) o) (reach_by o f (reach_of a) (reach_of b)) f

abbrev pub operated : BinOp → Option Extent → Option Extent → Option Extent
operated o a b = option_map (two_numbered o a b) (of_two (operator o) (held a) (held b))

abbrev pub reach_shifted : Op → Form → Reach → Option Reach
reach_shifted (op.Left k) f r = raised_of k r
reach_shifted (op.Right k) f r = Some (lowered_of k r)
reach_shifted o f r = whole f

abbrev pub reach_shifted_by : Op → Form → Option Reach → Option Reach
reach_shifted_by shift f None = whole f
reach_shifted_by shift f (Some r) = reach_shifted shift f r

abbrev pub one_shifted : Op → Option Extent → Form → Extent
one_shifted shift a f = varied (reach_shifted_by shift f (reach_of a)) f

-- a shift by a constant, and by a stream, where the first operand's width stays
abbrev pub shifted_by : Option Op → Option Extent → Option Extent
shifted_by None a = option_map plain (held a)
shifted_by (Some shift) a = option_map (one_shifted shift a) (of_one shift (held a))

abbrev pub shifted : BinOp → Option Extent → Option Extent → Option Extent
shifted o a b = shifted_by (option_and_then (shift_by o) (number_of b)) a

abbrev pub binary_of : BinOp → Option Extent → Option Extent → Option Extent
binary_of binary.Equal a b = Some truth
binary_of binary.NotEqual a b = Some truth
binary_of binary.Less a b = Some truth
binary_of binary.LessEqual a b = Some truth
binary_of binary.Greater a b = Some truth
binary_of binary.GreaterEqual a b = Some truth
binary_of binary.Left a b = shifted binary.Left a b
binary_of binary.Right a b = shifted binary.Right a b
binary_of o a b = operated o a b

-- a value and its complement together
abbrev pub all_ones : Form → Option Bound
all_ones f = if f.signed then Some (under 1) else cond (nat_le f.width 128) (Some (over (greatest_of false f.width))) None

abbrev pub complements : Option Bound → Option Reach → Option Reach
complements (Some ones) (Some r) = difference_of (only ones) r
complements _ _ = None

abbrev pub one_not : Option Extent → Form → Extent
one_not a f = varied (within (whole f) (complements (all_ones f) (reach_of a))) f

abbrev pub not_of : Option Extent → Option Extent
not_of a = option_map (one_not a) (of_one op.Not (held a))

abbrev pub either_by : Option Reach → Option Reach → Option Reach
either_by (Some r) (Some s) = Some (either_of r s)
either_by _ _ = None

abbrev pub choice_of : Option Extent → Option Extent → Option Extent
choice_of a b = option_map (varied (either_by (reach_of a) (reach_of b))) (of_branches (held a) (held b))

abbrev pub slice_of : Option ℕ → Option ℕ → Option Extent
slice_of (Some high) (Some low) = cond (nat_le low high && nat_lt high 128) (Some (plain (unsigned_form (high - low + 1)))) None
slice_of _ _ = None

-- ---- readings
-- the same under a name: it is no constant, though it can be always the same number
abbrev pub named : Extent → Extent
named e = record { form = e.form; number = None; still = e.still; reach = e.reach }

abbrev pub stream_of : Option Extent → Option Extent
stream_of e = option_map named e

-- the same some samples ago: it was 0 before the first one
abbrev pub late : Extent → Extent
late e = varied (either_by e.reach (Some (only (over 0)))) e.form

abbrev pub past_of : Option Extent → Option Extent
past_of e = option_map late e

abbrev pub signed_form : Form → Form
signed_form f = record { signed = true; width = f.width }

abbrev pub signed_extent : Extent → Extent
signed_extent e = record { form = signed_form e.form; number = None; still = e.still; reach = read_signed e.form.width e.still e.reach }

-- `signed` of a stream
abbrev pub signed_of : Option Extent → Option Extent
signed_of e = option_map signed_extent e

-- ---- parts beside one another
-- no parts
abbrev pub no_parts : Extent
no_parts = record { form = unsigned_form 0; number = None; still = Some 0; reach = Some (only (over 0)) }

-- parts are read as numbers
abbrev pub bits_reach : Extent → Option Reach
bits_reach e = if e.form.signed then whole_of false e.form.width else e.reach

-- those of a part of this width beside what stands above it
abbrev pub raised_beside : Option Reach → Option Reach → Option Reach
raised_beside (Some above) (Some r) = sum_of above r
raised_beside _ _ = None

abbrev pub reach_beside : Option Reach → ℕ → Option Reach → Option Reach
reach_beside above w r = raised_beside (option_and_then (raised_of w) above) r

-- a part below others that are all 0
abbrev pub below_zeros : ℕ → Extent → Extent
below_zeros w e = record { form = unsigned_form w; number = None; still = e.still; reach = bits_reach e }

abbrev pub is_zero : Option ℕ → Bool
is_zero None = false
is_zero (Some n) = nat_eq n 0

abbrev pub both_beside : Extent → Extent → Extent
both_beside above e =
    let w = above.form.width + e.form.width in
    if is_zero above.still then below_zeros w e
    else varied (reach_beside (bits_reach above) e.form.width (bits_reach e)) (unsigned_form w)

abbrev pub two_beside : Extent → Extent → Option Extent
two_beside above e = cond (nat_le above.form.width 128 && is_width e.form.width) (Some (both_beside above e)) None

-- a part beside what stands above it
abbrev pub beside : Option Extent → Option Extent → Option Extent
beside (Some above) (Some e) = two_beside above e
beside _ _ = None

-- ---- declared widths
abbrev pub width_form : Bool → ℕ → Option Extent
width_form signed w = cond (is_width w) (Some (plain (record { signed = signed; width = w }))) None

-- a stream that fits keeps its values, and an unsigned one its bits
abbrev pub fitted_in : Form → Extent → Extent
fitted_in f e =
    if fits_at f.signed f.width e.reach then record { form = f; number = None; still = if f.signed then None else e.still; reach = e.reach } else plain f

abbrev pub fitted_to : ℕ → Extent → Option Extent
fitted_to w e = cond (is_width w) (Some (fitted_in (record { signed = e.form.signed; width = w }) e)) None

abbrev pub fitted : ℕ → Option Extent → Option Extent
fitted w e = option_and_then (fitted_to w) e

-- what is assigned, under the declared width where there is one
abbrev pub settled_as : Option ℕ → Option Extent → Option Extent
settled_as None e = stream_of e
settled_as (Some w) e = fitted w e

-- a recurrence is unsigned; one without declared width is not looked at
abbrev pub recurrence_of : Option ℕ → Option Extent
recurrence_of None = None
recurrence_of (Some w) = width_form false w
