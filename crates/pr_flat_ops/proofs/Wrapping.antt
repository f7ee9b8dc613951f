-- Results that are right so far as their width shows.
use Rattle.std.proofs.Common.{◌≡◌, ℕ, ◌%◌, ◌^◌, ◌<◌, ◌≤◌, ◌||◌, inl, inr, Bool, true, false, cond, min, List, ℤ, pos, refl, sym, ap, subst, ◌∙◌, arith, lit<}
use Rattle.std.proofs.Math.Nat.{pow-le-pow_right, mod-eq_of_lt, min-eq_left, min-eq_right}
use Rattle.std.proofs.lemmas.Bool.{cases_lt, or_parts}
use Rattle.pr_flat.specs.declared.equations.Op.{Op}
use Rattle.pr_flat.specs.declared.forms.Point.{Point}
use Rattle.pr_flat.specs.Forms.{value_at, residue}
use Rattle.pr_flat.specs.Rows.{forms_of, natural_width, natural_number}
use Rattle.pr_flat_ops.specs.Wholes.{IsWrapped}
use Rattle.pr_flat_ops.proofs.Residues.{residue-pos, residue_below, residue_both}
use Rattle.pr_flat_ops.proofs.Values.{value_unsigned}

-- the 128 bits of a point's value
abbrev pub AreBits : Point → ℕ → Type 0
AreBits p x = x ≡ residue 128 (value_at p)

-- a result that is a value modulo 2 to the power of its width agrees with the value's 128 bits
pub wrapped_is : (op : Op) (points : List Point) (z : ℤ) (x : ℕ) → natural_number op points ≡ residue (natural_width op (forms_of points)) z → x ≡ residue 128 z → IsWrapped op points x
wrapped_is op points z x e is =
    let w = natural_width op (forms_of points) in
    record {
      below = subst (λ n. n < 2 ^ w) (sym e) (residue_below w z);
      same = ap (λ n. n % 2 ^ min w 128) e ∙ (residue_both w 128 z ∙ ap (λ n. n % 2 ^ min w 128) (sym is));
    }

-- the number that a result's width and 128 bits show
pub finished : (op : Op) (points : List Point) (x w r : ℕ) → IsWrapped op points x → w ≡ natural_width op (forms_of points) → r ≡ x % 2 ^ min w 128 → r ≡ natural_number op points % 2 ^ 128
finished op points x w r h e is =
    let n = natural_number op points in
    let below : n < 2 ^ w = subst (λ v. n < 2 ^ v) (sym e) h.below in
    let same : r ≡ n % 2 ^ min w 128 = is ∙ sym (subst (λ v. n % 2 ^ min v 128 ≡ x % 2 ^ min v 128) (sym e) h.same) in
    elim (cases_lt w 128) [
      | inl less ↦
          let narrow : w ≤ 128 = omega arith in
          let more : 2 ^ w ≤ 2 ^ 128 = pow-le-pow_right (lit< tt) narrow in
          let few : n < 2 ^ 128 = omega arith in
          same ∙ (ap (λ v. n % 2 ^ v) (min-eq_left narrow) ∙ (mod-eq_of_lt below ∙ sym (mod-eq_of_lt few)))
      | inr more ↦ same ∙ ap (λ v. n % 2 ^ v) (min-eq_right more)
    ]

-- the row for unsigned operands is the one for signed operands, at its own width
pub by_sign : (s : Bool) (w : Bool → ℕ) (z : ℤ) (n : ℕ) → (s ≡ false → n ≡ residue (w false) z) → cond s (residue (w s) z) n ≡ residue (w s) z
by_sign true w z n f = refl
by_sign false w z n f = f refl

pub fits : (w n : ℕ) → n < 2 ^ w → n ≡ residue w (pos n)
fits w n h = sym (residue-pos w n ∙ mod-eq_of_lt h)

pub wide : (v w : ℕ) → v ≤ w → 2 ^ v ≤ 2 ^ w
wide v w h = pow-le-pow_right (lit< tt) h

-- two operands that are read as numbers
pub plain : (a b : Point) → (a.form.signed || b.form.signed) ≡ false → (value_at a ≡ pos a.number) × (value_at b ≡ pos b.number)
plain a b e = let s = or_parts a.form.signed b.form.signed e in (value_unsigned a.form a.number s.0, value_unsigned b.form b.number s.1)
