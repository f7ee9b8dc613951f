-- The table: the units of an operator.
use Rattle.std.specs.Prelude.{ℕ, Bool, true, false, if◌then◌else◌, max, min, List, [], ◌∷◌, map}
use Rattle.pr_base.specs.Numbers.{slices_of}
use Rattle.pr_flat.specs.declared.equations.Op.{Op}
use Rattle.pr_flat.specs.declared.forms.Form.{Form}
use Rattle.pr_flat.specs.Forms.{signed_width}
use Rattle.pr_flat.specs.Rows.{natural_width, gives_signed}
use Rattle.pr_cut_units.specs.Cells.{table_c, table_not_c, table_and, table_or, table_xor}
use Rattle.pr_cut_units.specs.Parts.{Making, kept, followed_by, filled}
use Rattle.pr_cut_units.specs.Widening.{Argument, widened, both_widened}
use Rattle.pr_cut_units.specs.Operators.{bitwise, inverted, chosen, added, subtracted, is_any_signed, less, greater_equal, equal, moved_left, moved_right, extracted, concatenated}
use Rattle.pr_cut_units.specs.Products.{product}
use Rattle.pr_cut_units.specs.Shifts.{moved_by, signed_moved_by}

-- the width of a factor as the rows see it: among signed ones that of the widened operand, and 128 at most
abbrev pub factor_width : Bool → ℕ → Form → ℕ
factor_width any e f = if any then min 128 (max e (signed_width f)) else f.width

-- Mul
abbrev pub multiplied : ℕ → Argument → Argument → Making
multiplied e a b = let any = is_any_signed a b in both_widened e a b (λ x y. product e x (factor_width any e a.form) y (factor_width any e b.form))

-- e bits of an operator's result; operands that are not signed stay as they are where it widens them
abbrev pub operator_units : ℕ → Op → List Argument → Making
operator_units e Op.And (a ∷ b ∷ []) = both_widened e a b (bitwise e table_and)
operator_units e Op.Or (a ∷ b ∷ []) = both_widened e a b (bitwise e table_or)
operator_units e Op.Xor (a ∷ b ∷ []) = both_widened e a b (bitwise e table_xor)
operator_units e Op.Not (a ∷ []) = inverted e a.slices
operator_units e Op.Choose (c ∷ a ∷ b ∷ []) = both_widened e a b (chosen e c.slices)
operator_units e Op.Add (a ∷ b ∷ []) = both_widened e a b (added e)
operator_units e Op.Sub (a ∷ b ∷ []) = both_widened e a b (subtracted e)
operator_units e Op.Mul (a ∷ b ∷ []) = multiplied e a b
operator_units e Op.Less (a ∷ b ∷ []) = less a b
operator_units e Op.GreaterEqual (a ∷ b ∷ []) = greater_equal a b
operator_units e Op.Greater (a ∷ b ∷ []) = less b a
operator_units e Op.LessEqual (a ∷ b ∷ []) = greater_equal b a
operator_units e Op.Equal (a ∷ b ∷ []) = equal table_c a b
operator_units e Op.NotEqual (a ∷ b ∷ []) = equal table_not_c a b
operator_units e (Op.Left k) (a ∷ []) = moved_left e a.form.width k a.slices
operator_units e (Op.Right k) (a ∷ []) = moved_right e k a
operator_units e (Op.Slice high low) (a ∷ []) = extracted e a.form.width low a.slices
operator_units e Op.Fit (a ∷ []) = extracted e a.form.width 0 a.slices
operator_units e Op.Cat (a ∷ b ∷ []) = concatenated e a b
operator_units e Op.LeftBy (a ∷ by ∷ []) = moved_by true e a by
operator_units e Op.RightBy (a ∷ by ∷ []) = if a.form.signed then signed_moved_by e a by else moved_by false e a by
operator_units e op args = kept []

abbrev pub argument_forms : List Argument → List Form
argument_forms args = map (λ (a : Argument). a.form) args

-- how many bits of a result are computed at this width: no more than the natural ones
abbrev pub computed_bits : ℕ → Op → List Form → ℕ
computed_bits w op fs = min w (natural_width op fs)

-- a result of e bits at width w: a signed one is widened, and above an unsigned one are zeros
abbrev pub result_units : ℕ → ℕ → Bool → Making → Making
result_units w e signed making = filled (slices_of w) (followed_by making (λ x. widened (record { slices = x; form = record { signed = signed; width = e } }) w))

-- an operator at width w
abbrev pub units_at : ℕ → Op → List Argument → Making
units_at w op args =
    let fs = argument_forms args in
    let e = computed_bits w op fs in
    result_units w e (gives_signed op fs) (operator_units e op args)
