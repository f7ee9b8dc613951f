-- The units of operators on unsigned streams.
use Rattle.std.proofs.Common.{◌≡◌, ◌∙◌, ◌+◌, ◌%◌, ℕ, Bool, true, false, List, [], ◌∷◌, max, min, inl, inr, refl, sym, ap, subst, arith}
use Rattle.std.proofs.lemmas.Bool.{eq-eqb}
use Rattle.std.proofs.lemmas.Bool.Decides.{eqb_tells}
use Rattle.std.specs.Prelude.{◌==◌, ◌&&◌, ◌||◌, not, if◌then◌else◌}
use Rattle.pr_base.specs.Numbers.{slices_of}
use Rattle.pr_flat.specs.declared.equations.Op.{Op}
use Rattle.pr_flat.specs.declared.forms.Form.{Form}
use Rattle.pr_flat.specs.Forms.{number_width}
use Rattle.pr_flat.specs.Rows.{natural_width}
use Rattle.pr_cut_units.specs.Counts.{chain_count, left_count, one_where, product_count}
use Rattle.pr_lens_reach.specs.Extents.{unsigned_form}
use Rattle.pr_lens_products.specs.declared.units.Product.{Product}
use Rattle.pr_lens_products.specs.Units.{factors, natural_one, natural_two, shift_units, swapped}

same_width : (w : ℕ) → min w w ≡ w
same_width w = omega arith

bare : (n : ℕ) → 0 + n + 0 ≡ n
bare n = omega arith

pub sum_natural : (one other : ℕ) → natural_two Op.Add one other ≡ chain_count (slices_of (max one other + 1))
sum_natural one other = bare _ ∙ ap (λ (e : ℕ). chain_count (slices_of e)) (same_width (max one other + 1))

pub difference_natural : (one other : ℕ) → natural_two Op.Sub one other ≡ chain_count (slices_of (max one other))
difference_natural one other = bare _ ∙ ap (λ (e : ℕ). chain_count (slices_of e)) (same_width (max one other))

pub product_natural : (one other : ℕ) → natural_two Op.Mul one other ≡ product_count (one + other) one other
product_natural one other = bare _ ∙ ap (λ (e : ℕ). product_count e one other) (same_width (one + other))

-- ---- factors in the other order
abbrev in_order : Bool → ℕ → ℕ → List Form
in_order reversed one other = if reversed then unsigned_form other ∷ unsigned_form one ∷ [] else unsigned_form one ∷ unsigned_form other ∷ []

either_order : (reversed : Bool) (one other : ℕ) → natural_width Op.Mul (in_order (not reversed) one other) ≡ natural_width Op.Mul (in_order reversed one other)
either_order true one other = order one other
  where
    order : (m n : ℕ) → m + n ≡ n + m
    order m n = omega arith
either_order false one other = order one other
  where
    order : (m n : ℕ) → n + m ≡ m + n
    order m n = omega arith

pub swapped_natural : (p : Product) → natural_width Op.Mul (factors (swapped p)) ≡ natural_width Op.Mul (factors p)
swapped_natural p = either_order p.reversed p.width (number_width p.number)

-- ---- shifts by a constant
equal_self : (n : ℕ) → (n == n) ≡ true
equal_self n = eq-eqb n n refl

alone : (n : ℕ) → n + 0 ≡ n
alone n = omega arith

picked : (whole ends more : Bool) → ends ≡ true → (if whole && (ends || more) then 0 else 1) ≡ one_where (not whole)
picked false ends more is = refl
picked true ends more is = ap (λ (b : Bool). if b || more then 0 else 1) is

shift_by_some : (width by : ℕ) → natural_one (Op.Left by) width ≡ one_where (not (by % 8 == 0))
shift_by_some width by =
    alone _ ∙ (ap (λ (e : ℕ). left_count e width by) (same_width (width + by)) ∙ picked (by % 8 == 0) (width + by == width + by) ((width + by) % 8 == 0) (equal_self (width + by)))

pub shift_natural : (width by : ℕ) → shift_units width by ≡ one_where (not (by % 8 == 0))
shift_natural width by = elim (eqb_tells by 0) [
  | inl none ↦ subst (λ (k : ℕ). shift_units width k ≡ one_where (not (k % 8 == 0))) (sym none.1) refl
  | inr some ↦ ap (λ (b : Bool). if b then 0 else natural_one (Op.Left by) width) some.0 ∙ shift_by_some width by
]
