-- The units of products by a constant, and of the shifts that make them.
use Rattle.std.specs.Prelude.{◌≡◌, ℕ, ◌+◌, ◌==◌, not, nat_lt, if◌then◌else◌, List, [], ◌∷◌, Option, None, Some, ⊤}
use Rattle.pr_flat.specs.declared.equations.Op.{Op}
use Rattle.pr_flat.specs.declared.forms.Form.{Form}
use Rattle.pr_flat.specs.Forms.{number_width}
use Rattle.pr_flat.specs.Rows.{natural_width}
use Rattle.pr_cut_units.specs.Counts.{count_at}
use Rattle.pr_lens_reach.specs.Extents.{unsigned_form}
use Rattle.pr_lens_products.specs.declared.shifts.Shifts.{Shifts}
use Rattle.pr_lens_products.specs.declared.shifts.Shifts.TheVariants.{One, Sum, Difference}
use Rattle.pr_lens_products.specs.declared.units.Cheaper.{Cheaper}
use Rattle.pr_lens_products.specs.declared.units.Product.{Product}
use Rattle.pr_lens_products.specs.declared.units.Way.{Way}
use Rattle.pr_lens_products.specs.declared.units.Way.TheVariants.{Shifted, Swapped}
use Rattle.pr_lens_products.specs.Shifts.{number_of, shifts_of}

-- the units of an operator at its natural width
abbrev pub natural_units : Op → List Form → ℕ
natural_units op forms = count_at (natural_width op forms) op forms

-- on unsigned streams of these widths
abbrev pub natural_one : Op → ℕ → ℕ
natural_one op width = natural_units op (unsigned_form width ∷ [])

abbrev pub natural_two : Op → ℕ → ℕ → ℕ
natural_two op one other = natural_units op (unsigned_form one ∷ unsigned_form other ∷ [])

-- a shift by no bits is not written
abbrev pub shift_units : ℕ → ℕ → ℕ
shift_units width by = if by == 0 then 0 else natural_one (Op.Left by) width

abbrev pub shifts_units : ℕ → Shifts → ℕ
shifts_units width (One by) = shift_units width by
shifts_units width (Sum by and) = shift_units width by + shift_units width and + natural_two Op.Add (width + by) (width + and)
shifts_units width (Difference by less) = shift_units width by + shift_units width less + natural_two Op.Sub (width + by) (width + less)

-- the factors in their order
abbrev pub factors : Product → List Form
factors p =
    if p.reversed then unsigned_form (number_width p.number) ∷ unsigned_form p.width ∷ []
    else unsigned_form p.width ∷ unsigned_form (number_width p.number) ∷ []

abbrev pub product_units : Product → ℕ
product_units p = natural_units Op.Mul (factors p)

-- the other order
abbrev pub swapped : Product → Product
swapped p = record { width = p.width; number = p.number; reversed = not p.reversed }

-- ---- ways with fewer units
abbrev pub cheaper_by : Product → ℕ → Way → Option Cheaper
cheaper_by p units way =
    if nat_lt units (product_units p) then Some (record { product = product_units p; units = units; way = way }) else None

abbrev pub by_swap : Product → Option Cheaper
by_swap p = cheaper_by p (product_units (swapped p)) Swapped

abbrev pub cheaper_with : Product → Option Shifts → Option Cheaper
cheaper_with p None = None
cheaper_with p (Some shifts) = cheaper_by p (shifts_units p.width shifts) (Shifted shifts)

abbrev pub by_shifts : Product → Option Cheaper
by_shifts p = cheaper_with p (shifts_of p.number)

-- the way with fewer units; of two with as many the first one
abbrev pub fewer : Option Cheaper → Option Cheaper → Option Cheaper
fewer None other = other
fewer (Some a) None = Some a
fewer (Some a) (Some b) = if nat_lt b.units a.units then Some b else Some a

-- the factors in the other order, or shifts, where these take fewer units
abbrev pub cheaper_of : Product → Option Cheaper
cheaper_of p = fewer (by_swap p) (by_shifts p)

-- a way makes the product by a number
abbrev pub Makes : ℕ → Way → Type 0
Makes n (Shifted shifts) = number_of shifts ≡ n
Makes n Swapped = ⊤
