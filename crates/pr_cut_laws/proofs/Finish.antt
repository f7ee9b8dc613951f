-- A result at its declared width.
use Rattle.std.proofs.Common.{ℕ, ◌≡◌, ◌+◌, ◌*◌, ◌/◌, ◌%◌, ◌^◌, ◌<◌, ◌≤◌, Bool, true, false, min, List, length, subst, refl, ap, sym, ◌∙◌, inl, inr, ℤ, arith}
use Rattle.std.proofs.Math.Nat.{mod-eq_of_lt, min-eq_left, min-eq_right, pow-le-pow_right, mod-mod, mod-lt}
use Rattle.std.proofs.lemmas.Nat.{pow_pos}
use Rattle.std.proofs.lemmas.Bool.{cases_lt}
use Rattle.pr_base.specs.Numbers.{slices_of}
use Rattle.pr_flat.specs.declared.forms.Form.{Form}
use Rattle.pr_flat.specs.Forms.{value, residue}
use Rattle.pr_flat.proofs.FormLemmas.{residue-value}
use Rattle.pr_flat_ops.proofs.Residues.{residue-pos, residue_narrower, residue_below}
use Rattle.pr_flat_ops.proofs.Values.{value_unsigned}
use Rattle.pr_net.specs.declared.cells.Slice.{Slice}
use Rattle.pr_net.specs.Reading.{Reading, Has, shown}
use Rattle.pr_net.specs.Runs.{AreBytes}
use Rattle.pr_cut_units.specs.Cells.{slice_at}
use Rattle.pr_cut_units.specs.Parts.{Making}
use Rattle.pr_cut_units.specs.Widening.{Argument, widened}
use Rattle.pr_cut_units.specs.Table.{result_units}
use Rattle.pr_cut_units.proofs.GoodParts.{GoodPart}
use Rattle.pr_cut_units.proofs.GoodTable.{good_widened}
use Rattle.pr_cut_laws.proofs.Digits.{bytes_pow}
use Rattle.pr_cut_laws.proofs.Shown.{operand_bytes, byte_is, shown_each}
use Rattle.pr_cut_laws.proofs.Values.{signed_form, unsigned_form}
use Rattle.pr_cut_laws.proofs.Widen.{IsOperand}
use Rattle.pr_cut_laws.proofs.Wides.{IsWide, wide_shows, then_has}

abbrev pub IsOperandIf : Bool → Reading → List Slice → ℕ → Type 0
IsOperandIf s r x v = s ≡ true → IsOperand r x v

-- what the slices of e bits of a number show when they are read at w bits
finish_by : (s : Bool) (r : Reading) (u w v n : ℕ) (x : List Slice) → 1 ≤ w → 1 ≤ v → n < 2 ^ v → IsOperandIf s r x (min w v) → shown r x ≡ n % 2 ^ min w v → Has r u (widened (record { slices = x; form = record { signed = s; width = min w v } }) w u).units → shown r (widened (record { slices = x; form = record { signed = s; width = min w v } }) w u).slices ≡ residue w (value (record { signed = s; width = v }) n)
finish_by false r u w v n x hw hv small o e h = e ∙ sym (ap (residue w) (value_unsigned (unsigned_form v) n refl) ∙ residue-pos w n ∙ same)
  where
    same : n % 2 ^ w ≡ n % 2 ^ min w v
    same = elim (cases_lt v w) [
      | inl l ↦ (
          let two : 0 < 2 = omega arith in
          let m : min w v ≡ v = min-eq_right (omega (arith, l)) in
          let more : 2 ^ v ≤ 2 ^ w = pow-le-pow_right two (omega (arith, l)) in
          mod-eq_of_lt (omega (arith, small, more)) ∙ sym (mod-eq_of_lt small) ∙ ap (λ (i : ℕ). n % 2 ^ i) (sym m))
      | inr g ↦ ap (λ (i : ℕ). n % 2 ^ i) (sym (min-eq_left g))
    ]
finish_by true r u w v n x hw hv small o e h =
    let t : IsWide r (signed_form (min w v)) w (shown r x) (widened (record { slices = x; form = signed_form (min w v) }) w u).slices = wide_shows r u w (record { slices = x; form = signed_form (min w v) }) (o refl) h in
    t.exact (omega arith) ∙ ap (λ (i : ℕ). residue w (value (signed_form (min w v)) i)) e ∙ same
  where
    same : residue w (value (signed_form (min w v)) (n % 2 ^ min w v)) ≡ residue w (value (signed_form v) n)
    same = elim (cases_lt v w) [
      | inl l ↦ (
          let m : min w v ≡ v = min-eq_right (omega (arith, l)) in
          ap (λ (i : ℕ). residue w (value (signed_form i) (n % 2 ^ i))) m ∙ ap (λ (i : ℕ). residue w (value (signed_form v) i)) (mod-eq_of_lt small))
      | inr g ↦ (
          let m : min w v ≡ w = min-eq_left g in
          ap (λ (i : ℕ). residue w (value (signed_form i) (n % 2 ^ i))) m ∙ residue-value (signed_form w) w (n % 2 ^ w) (omega arith) ∙ again ∙ sym (residue-value (signed_form v) w n g))
    ]
      where
        again : n % 2 ^ w % 2 ^ w ≡ n % 2 ^ w
        again = mod-mod n (2 ^ w)

-- the result of an operator whose own slices show so many low bits of a number
pub finish : (r : Reading) (u w n : ℕ) (f : Form) (making : Making) → 1 ≤ w → 1 ≤ f.width → n < 2 ^ f.width → AreBytes r → GoodPart u (making u) → (f.signed ≡ true → Has r u (making u).units → min w f.width / 8 ≤ length (making u).slices) → (Has r u (making u).units → shown r (making u).slices ≡ n % 2 ^ min w f.width) → Has r u (result_units w (min w f.width) f.signed making u).units → shown r (result_units w (min w f.width) f.signed making u).slices ≡ residue w (value f n)
finish r u w n f making hw hv small b good long own h =
    let e : ℕ = min w f.width in
    let x : List Slice = (making u).slices in
    let a : Argument = record { slices = x; form = record { signed = f.signed; width = e } } in
    let v : ℕ = u + length (making u).units in
    let two = then_has r u making (λ x. widened (record { slices = x; form = record { signed = f.signed; width = e } }) w) h in
    let is : shown r x ≡ n % 2 ^ e = own two.0 in
    let few : shown r x < 2 ^ e = subst (λ (i : ℕ). i < 2 ^ e) (sym is) (mod-lt n (pow_pos e)) in
    let y : List Slice = (widened a w v).slices in
    let p : GoodPart v (widened a w v) = good_widened v a w good.slices in
    let last : shown r y ≡ residue w (value f n) = finish_by f.signed r v w f.width n x hw hv small (λ s. record { some = omega (arith, hw, hv); count = long s two.0; bytes = operand_bytes r v x b good.slices; below = few }) is two.1 in
    let fits : residue w (value f n) < 256 ^ slices_of w = in_bytes w (residue w (value f n)) (residue_below w (value f n)) in
    shown_each r (slice_at y) (shown r y) (slices_of w) (λ i l. byte_is r y i (operand_bytes r (v + length (widened a w v).units) y b p.slices)) ∙ ap (λ (i : ℕ). i % 256 ^ slices_of w) last ∙ mod-eq_of_lt fits
  where
    in_bytes : (w n : ℕ) → n < 2 ^ w → n < 256 ^ slices_of w
    in_bytes w n h =
        let two : 0 < 2 = omega arith in
        let more : 2 ^ w ≤ 2 ^ (8 * slices_of w) = pow-le-pow_right two (omega arith) in
        omega (arith, h, more, bytes_pow (slices_of w))

-- the low bits of a natural number that is a value modulo its width
pub low_of_value : (e v n : ℕ) (z : ℤ) → n ≡ residue v z → e ≤ v → residue e z ≡ n % 2 ^ e
low_of_value e v n z is h = sym (ap (λ (i : ℕ). i % 2 ^ e) is ∙ residue_narrower v e z h)
