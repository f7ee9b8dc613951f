-- Operations on the bits of two values.
use Rattle.std.proofs.Common.{◌≡◌, ℕ, ◌%◌, ◌^◌, ◌<◌, ◌||◌, Bool, true, false, cond, min, bit_and, bit_or, bit_xor, [], ◌∷◌, pos, refl, sym, ap, subst, ◌∙◌, arith}
use Rattle.std.proofs.Math.Nat.{mod-eq_of_lt, mod-lt, le-max_left, le-max_right}
use Rattle.std.proofs.lemmas.Nat.{pow_pos, and_mod, or_mod, xor_mod}
use Rattle.pr_flat.specs.declared.equations.Op.{Op}
use Rattle.pr_flat.specs.declared.equations.Op.TheVariants.{And, Or, Xor}
use Rattle.pr_flat.specs.declared.forms.Point.{Point}
use Rattle.pr_flat.specs.Forms.{IsPoint, value_at, residue, wider, wider_signed}
use Rattle.pr_flat.specs.Rows.{natural_width, natural_number}
use Rattle.pr_flat_ops.specs.Wholes.{IsWrapped}
use Rattle.pr_flat_ops.proofs.Residues.{residue-pos, residue_below, residue_both}
use Rattle.pr_flat_ops.proofs.Wrapping.{AreBits, fits, wide, plain}

-- an operation on bits, each of which comes from those at its place
abbrev IsBitwise : (ℕ → ℕ → ℕ) → Type 0
IsBitwise f = (m n k : ℕ) → f m n % 2 ^ k ≡ f (m % 2 ^ k) (n % 2 ^ k)

low_bits : (f : ℕ → ℕ → ℕ) → IsBitwise f → (m n w : ℕ) → m < 2 ^ w → n < 2 ^ w → f m n % 2 ^ w ≡ f m n
low_bits f each m n w p q = each m n w ∙ (ap (λ k. f k (n % 2 ^ w)) (mod-eq_of_lt p) ∙ ap (λ k. f m k) (mod-eq_of_lt q))

-- in either row an operation on bits is that on the values' bits at the result's width
bits_shown : (f : ℕ → ℕ → ℕ) → IsBitwise f → (a b : Point) → IsPoint a → IsPoint b → (s : Bool) → s ≡ (a.form.signed || b.form.signed) → (let w = cond s (wider_signed a.form b.form) (wider a.form b.form) in
    cond s (residue w (pos (f (residue (wider_signed a.form b.form) (value_at a)) (residue (wider_signed a.form b.form) (value_at b))))) (f a.number b.number) ≡ f (residue w (value_at a)) (residue w (value_at b)))
bits_shown f each a b p q true e =
    let w = wider_signed a.form b.form in
    let m = residue w (value_at a) in
    let n = residue w (value_at b) in
    residue-pos w (f m n) ∙ low_bits f each m n w (residue_below w (value_at a)) (residue_below w (value_at b))
bits_shown f each a b p q false e =
    let w = wider a.form b.form in
    let s = plain a b (sym e) in
    let few : a.number < 2 ^ w = omega (arith, p.below, wide a.form.width w (le-max_left a.form.width b.form.width)) in
    let less : b.number < 2 ^ w = omega (arith, q.below, wide b.form.width w (le-max_right a.form.width b.form.width)) in
    rw (s.0, s.1) (ap (λ k. f k b.number) (fits w a.number few) ∙ ap (λ k. f (residue w (pos a.number)) k) (fits w b.number less))

wrapped_bits : (op : Op) (f : ℕ → ℕ → ℕ) → IsBitwise f → (a b : Point) (x y : ℕ) → AreBits a x → AreBits b y
    → (let w = natural_width op (a.form ∷ b.form ∷ []) in natural_number op (a ∷ b ∷ []) ≡ f (residue w (value_at a)) (residue w (value_at b))) → IsWrapped op (a ∷ b ∷ []) (f x y)
wrapped_bits op f each a b x y p q e =
    let w = natural_width op (a.form ∷ b.form ∷ []) in
    let m = residue w (value_at a) in
    let n = residue w (value_at b) in
    let v = min w 128 in
    let low : f m n % 2 ^ w ≡ f m n = low_bits f each m n w (residue_below w (value_at a)) (residue_below w (value_at b)) in
    let small : f m n % 2 ^ w < 2 ^ w = mod-lt (f m n) (pow_pos w) in
    record {
      below = subst (λ k. k < 2 ^ w) (low ∙ sym e) small;
      same =
          ap (λ k. k % 2 ^ v) e ∙ (each m n v
          ∙ (ap (λ k. f k (n % 2 ^ v)) (residue_both w 128 (value_at a) ∙ ap (λ k. k % 2 ^ v) (sym p))
          ∙ (ap (λ k. f (x % 2 ^ v) k) (residue_both w 128 (value_at b) ∙ ap (λ k. k % 2 ^ v) (sym q))
          ∙ sym (each x y v))));
    }

pub wrapped_and : (a b : Point) (x y : ℕ) → IsPoint a → IsPoint b → AreBits a x → AreBits b y → IsWrapped And (a ∷ b ∷ []) (bit_and x y)
wrapped_and a b x y f g p q = wrapped_bits And bit_and and_mod a b x y p q (bits_shown bit_and and_mod a b f g (a.form.signed || b.form.signed) refl)

pub wrapped_or : (a b : Point) (x y : ℕ) → IsPoint a → IsPoint b → AreBits a x → AreBits b y → IsWrapped Or (a ∷ b ∷ []) (bit_or x y)
wrapped_or a b x y f g p q = wrapped_bits Or bit_or or_mod a b x y p q (bits_shown bit_or or_mod a b f g (a.form.signed || b.form.signed) refl)

pub wrapped_xor : (a b : Point) (x y : ℕ) → IsPoint a → IsPoint b → AreBits a x → AreBits b y → IsWrapped Xor (a ∷ b ∷ []) (bit_xor x y)
wrapped_xor a b x y f g p q = wrapped_bits Xor bit_xor xor_mod a b x y p q (bits_shown bit_xor xor_mod a b f g (a.form.signed || b.form.signed) refl)
