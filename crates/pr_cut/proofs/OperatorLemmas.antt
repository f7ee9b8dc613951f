-- What the units of an operator ask of it.
use Rattle.std.proofs.Common.{◌≡◌, ◌≤◌, ℕ, ◌++◌, Bool, true, false, min, Option, Some, None, List, [], ◌∷◌, length, subst, refl, sym, ap, ◌∙◌, arith}
use Rattle.std.specs.Prelude.{MatchOption}
use Rattle.std.proofs.lemmas.Bool.{false≢true}
use Rattle.std.proofs.lemmas.List.FromFn.{fill_by_all}
use Rattle.pr_base.specs.Numbers.{slices_of}
use Rattle.pr_flat.specs.declared.equations.Op.{Op}
use Rattle.pr_flat.specs.declared.forms.Form.{Form}
use Rattle.pr_flat.specs.Facts.{arity, is_input, is_rec}
use Rattle.pr_flat.specs.Rows.{takes, natural_form, gives_signed}
use Rattle.pr_net.specs.declared.cells.Slice.{Slice}
use Rattle.pr_net.specs.declared.cells.Cell.{Cell}
use Rattle.pr_cut_units.specs.Cells.{slice_at}
use Rattle.pr_cut_units.specs.Parts.{Making, each, filled}
use Rattle.pr_cut_units.specs.Widening.{Argument, widened}
use Rattle.pr_cut_units.specs.Table.{operator_units, computed_bits, units_at, argument_forms}
use Rattle.pr_cut_units.proofs.CountNets.{is_stated}
use Rattle.pr_cut_units.proofs.WideNets.{natural_some}
use Rattle.pr_cut_units.proofs.JoinLemmas.{then_slices}
use Rattle.pr_cut_units.proofs.LongTable.{long_one, long_two}
use Rattle.pr_cut.specs.Operators.{is_operator}

not_stated : (op : Op) → is_operator op ≡ true → is_stated op ≡ false
not_stated Op.Input h = absurd (false≢true h)
not_stated (Op.Delay c) h = absurd (false≢true h)
not_stated (Op.Rec init first) h = absurd (false≢true h)
not_stated op h = refl

pub not_input : (op : Op) → is_operator op ≡ true → is_input op ≡ false
not_input Op.Input h = absurd (false≢true h)
not_input op h = refl

pub not_rec : (op : Op) → is_operator op ≡ true → is_rec op ≡ false
not_rec (Op.Rec init first) h = absurd (false≢true h)
not_rec op h = refl

two_operator : (op : Op) → arity op ≡ 2 → is_operator op ≡ true
two_operator Op.Input n = absurd (omega (arith, n))
two_operator (Op.Delay c) n = absurd (omega (arith, n))
two_operator (Op.Rec init first) n = absurd (omega (arith, n))
two_operator op n = refl

-- what an operator's natural kind and width are, where it takes its operands
pub natural_is : (o : Option Form) (op : Op) (fs : List Form) (f : Form) → o ≡ Some f → MatchOption o (takes op fs ≡ false) (λ g. (takes op fs ≡ true) × (g ≡ natural_form op fs)) → f ≡ natural_form op fs
natural_is None op fs f is m = cc
natural_is (Some g) op fs f is m = let same : g ≡ f = cc in sym same ∙ m.1

-- the bits that are computed
pub bits_are : (w e : ℕ) (op : Op) (fs : List Form) (f : Form) → f ≡ natural_form op fs → e ≡ min w f.width → e ≡ computed_bits w op fs
bits_are w e op fs f is h = h ∙ ap (λ (g : Form). min w g.width) is

-- ---- the bits that are computed
pub some_one : (w : ℕ) (op : Op) (a : Argument) → 1 ≤ w → is_operator op ≡ true → arity op ≡ 1 → 1 ≤ a.form.width → 1 ≤ computed_bits w op (a.form ∷ [])
some_one w op a h o n s = let m = natural_some op (a.form ∷ []) (sym n) (not_input op o) (not_rec op o) (s, tt) in omega (arith, h, m)

pub some_two : (w : ℕ) (op : Op) (a b : Argument) → 1 ≤ w → arity op ≡ 2 → 1 ≤ a.form.width → 1 ≤ b.form.width → 1 ≤ computed_bits w op (a.form ∷ b.form ∷ [])
some_two w op a b h n s t = let o = two_operator op n in let m = natural_some op (a.form ∷ b.form ∷ []) (sym n) (not_input op o) (not_rec op o) (s, (t, tt)) in omega (arith, h, m)

pub some_choice : (w : ℕ) (c a b : Argument) → 1 ≤ w → 1 ≤ c.form.width → 1 ≤ a.form.width → 1 ≤ b.form.width → 1 ≤ computed_bits w Op.Choose (c.form ∷ a.form ∷ b.form ∷ [])
some_choice w c a b h r s t = let m = natural_some Op.Choose (c.form ∷ a.form ∷ b.form ∷ []) refl refl refl (r, (s, (t, tt))) in omega (arith, h, m)

-- ---- their slices
pub whole_one : (w : ℕ) (op : Op) (a : Argument) (u : ℕ) → 1 ≤ w → is_operator op ≡ true → arity op ≡ 1 → 1 ≤ a.form.width → length (operator_units (computed_bits w op (a.form ∷ [])) op (a ∷ []) u).slices ≡ slices_of (computed_bits w op (a.form ∷ []))
whole_one w op a u h o n s = long_one (computed_bits w op (a.form ∷ [])) op a u (not_stated op o) (some_one w op a h o n s) (omega arith)

pub whole_two : (w : ℕ) (op : Op) (a b : Argument) (u : ℕ) → 1 ≤ w → w ≤ 128 → arity op ≡ 2 → 1 ≤ a.form.width → 1 ≤ b.form.width → length (operator_units (computed_bits w op (a.form ∷ b.form ∷ [])) op (a ∷ b ∷ []) u).slices ≡ slices_of (computed_bits w op (a.form ∷ b.form ∷ []))
whole_two w op a b u h l n s t = long_two (computed_bits w op (a.form ∷ b.form ∷ [])) op a b u (some_two w op a b h n s t) (omega (arith, l)) t (omega arith)

-- ---- a result, after the units of its bits
pub result_slices : (w : ℕ) (op : Op) (args : List Argument) (us vs : List (List Cell)) (x y z : List Slice) (e : ℕ) (signed : Bool) → e ≡ computed_bits w op (argument_forms args) → signed ≡ gives_signed op (argument_forms args) → z ≡ x
    → vs ≡ us ++ (operator_units e op args (length us)).units → x ≡ (operator_units e op args (length us)).slices
    → y ≡ (filled (slices_of w) (widened (record { slices = z; form = record { signed = signed; width = e } }) w) (length vs)).slices
    → y ≡ (units_at w op args (length us)).slices
result_slices w op args us vs x y z e signed ee es ez ev ex ey =
    let fs = argument_forms args in
    let bits = computed_bits w op fs in
    let wide : List Slice → Bool → ℕ → Making = λ (s : List Slice) (b : Bool) (k : ℕ). filled (slices_of w) (widened (record { slices = s; form = record { signed = b; width = k } }) w) in
    let now : y ≡ (wide x (gives_signed op fs) bits (length vs)).slices = ey ∙ ap (λ (s : List Slice). (wide s signed e (length vs)).slices) ez ∙ ap (λ (b : Bool). (wide x b e (length vs)).slices) es ∙ ap (λ (k : ℕ). (wide x (gives_signed op fs) k (length vs)).slices) ee in
    let units : vs ≡ us ++ (operator_units bits op args (length us)).units = subst (λ (k : ℕ). vs ≡ us ++ (operator_units k op args (length us)).units) ee ev in
    let slices : x ≡ (operator_units bits op args (length us)).slices = subst (λ (k : ℕ). x ≡ (operator_units k op args (length us)).slices) ee ex in
    now ∙ ap (λ (s : List Slice). each (slices_of w) (slice_at s)) (then_slices (operator_units bits op args) (λ (s : List Slice). widened (record { slices = s; form = record { signed = gives_signed op fs; width = bits } }) w) x us vs units slices)

pub result_whole : (op : Op) (args : List Argument) (u : ℕ) (z x : List Slice) (e bits : ℕ) → e ≡ bits → z ≡ x → x ≡ (operator_units e op args u).slices → length (operator_units bits op args u).slices ≡ slices_of bits → length z ≡ slices_of e
result_whole op args u z x e bits ee ez ex h = ap length (ez ∙ ex) ∙ subst (λ (k : ℕ). length (operator_units k op args u).slices ≡ slices_of k) (sym ee) h

-- slices that are as many as they should be
pub all_slices : (x : List Slice) (n : ℕ) → length x ≡ n → each n (slice_at x) ≡ x
all_slices x n h = sym (fill_by_all (slice_at x) x n (Slice.Const 0) h (λ k lt. refl))
