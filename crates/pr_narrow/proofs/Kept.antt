-- An operator whose operands lost bits: its number keeps those that are demanded.
use Rattle.std.proofs.Common.{◌&&◌, length, ◌≡◌, ℕ, ◌+◌, ◌-◌, ◌*◌, ◌/◌, ◌%◌, ◌^◌, ◌<◌, ◌≤◌, ◌⊎◌, inl, inr, ◌||◌, Bool, true, false, cond, min, max, nat_eq, nat_lt, bit_and, bit_or, bit_xor, List, [], ◌∷◌, pos, negsuc, ◌-ℤ◌, ◌*ℤ◌, refl, sym, ap, ap₂, subst, ◌∙◌, arith}
use Rattle.std.proofs.lemmas.Bool.{cases_lt, ltb-false, eqb-true}
use Rattle.std.proofs.lemmas.Nat.{pow_pos, mul-mod_first, and_mod, or_mod, xor_mod}
use Rattle.std.proofs.Math.Nat.{mod-lt, mod-eq_of_lt, div-eq_of_lt, add-mod}
use Rattle.pr_flat.specs.declared.equations.Op.{Op}
use Rattle.pr_flat.specs.declared.equations.Op.TheVariants.{Input, Add, Sub, Mul, And, Or, Xor, Not, Equal, NotEqual, Less, LessEqual, Greater, GreaterEqual, Choose, Left, Right, LeftBy, RightBy, Slice, Cat, Fit, Delay, Rec}
use Rattle.pr_flat.specs.declared.forms.Form.{Form}
use Rattle.pr_flat.specs.declared.forms.Point.{Point}
use Rattle.pr_flat.specs.Forms.{IsPoint, value, value_at, residue, signed_width, wider, wider_signed}
use Rattle.pr_flat.specs.Facts.{arity}
use Rattle.pr_narrow.specs.Known.{is_steady}
use Rattle.pr_width.proofs.OperandLemmas.{arity-le}
use Rattle.pr_flat.specs.Rows.{takes, forms_of, natural_width, natural_form, natural_number}
use Rattle.pr_flat.specs.Values.{operator_number}
use Rattle.pr_flat.proofs.FormLemmas.{residue-value, residue-pos}
use Rattle.pr_flat_ops.specs.Wholes.{IsWrapped}
use Rattle.pr_flat_ops.proofs.Residues.{narrower, residue_narrower, residue-sub, residue-mul, residue-not}
use Rattle.pr_flat_ops.proofs.Wrapping.{wide}
use Rattle.pr_flat_ops.proofs.SumLemmas.{wrapped_sum, wrapped_difference, wrapped_product, wrapped_complement}
use Rattle.pr_flat_ops.proofs.BitLemmas.{wrapped_and, wrapped_or, wrapped_xor}
use Rattle.pr_flat_ops.proofs.TestLemmas.{wrapped_choice}
use Rattle.std.specs.Int.{int_div_euclid}
use Rattle.pr_narrow.specs.Demand.{asked, asked_right}
use Rattle.pr_narrow.specs.Narrowed.{narrowed_op}
use Rattle.pr_narrow.proofs.Numbers.{moved_low, field, residue_moved, mod_less}
use Rattle.pr_flat_ops.proofs.Values.{value_unsigned}
use Rattle.pr_flat_ops.proofs.ShiftLemmas.{wrapped_left, wrapped_left_by, wrapped_right}

-- an operand that lost bits, and no more than its reader does without
pub record IsCut (need : ℕ) (old new : Point) : Type 0 where
  pub kind : new.form.signed ≡ old.form.signed
  pub fewer : new.form.width ≤ old.form.width
  pub number : new.number ≡ old.number % 2 ^ new.form.width
  pub enough : (new.form.width ≡ old.form.width) ⊎ (need ≤ new.form.width)
  pub positive : 1 ≤ new.form.width

same_point : (p q : Point) → p.form.signed ≡ q.form.signed → p.form.width ≡ q.form.width → p.number ≡ q.number → p ≡ q
same_point p q kind width number = ap₂ (λ (f : Form) (n : ℕ). record { form = f; number = n }) (ap₂ (λ (s : Bool) (w : ℕ). record { signed = s; width = w }) kind width) number

-- an operand that is as wide as before is the same
pub uncut : (need : ℕ) (old new : Point) → IsCut need old new → old.number < 2 ^ old.form.width → new.form.width ≡ old.form.width → new ≡ old
uncut need old new c low same =
    let P : ℕ → Type 0 = λ w. new.number ≡ old.number % 2 ^ w in
    same_point new old c.kind same (subst P same c.number ∙ mod-eq_of_lt low)

-- the bits that are needed are the same
pub same_bits : (need v : ℕ) (old new : Point) → IsCut need old new → old.number < 2 ^ old.form.width → v ≤ need → residue v (value_at new) ≡ residue v (value_at old)
same_bits need v old new c low less = elim c.enough [
  | inl same ↦ ap (λ (p : Point). residue v (value_at p)) (uncut need old new c low same)
  | inr enough ↦ by_width (omega arith) (omega (arith, c.fewer))
] where
  by_width : v ≤ new.form.width → v ≤ old.form.width → residue v (value_at new) ≡ residue v (value_at old)
  by_width one other = residue-value new.form v new.number one ∙ ap (λ n. n % 2 ^ v) c.number ∙ narrower old.number v new.form.width one ∙ sym (residue-value old.form v old.number other)

-- the low bits of a result are those of the number that it shows
pub shown : (op : Op) (points : List Point) (x d : ℕ) → IsWrapped op points x → d ≤ natural_width op (forms_of points) → d ≤ 128 → operator_number d op points ≡ x % 2 ^ d
shown op points x d wrapped low most =
    let u = natural_width op (forms_of points) in
    let m = min u 128 in
    let within : d ≤ m = omega arith in
    residue-value (natural_form op (forms_of points)) d (natural_number op points) low
    ∙ sym (narrower (natural_number op points) d m within)
    ∙ ap (λ n. n % 2 ^ d) wrapped.same
    ∙ narrower x d m within

-- fewer bits of a result are those of more
pub shorter : (op : Op) (points : List Point) (d w : ℕ) → d ≤ w → operator_number w op points % 2 ^ d ≡ operator_number d op points
shorter op points d w less = residue_narrower w d (value (natural_form op (forms_of points)) (natural_number op points)) less

-- ---- sums, differences, products and complements
pub sum_shown : (d : ℕ) (a b : Point) → IsPoint a → IsPoint b → d ≤ natural_width Add (a.form ∷ b.form ∷ []) → d ≤ 128 → operator_number d Add (a ∷ b ∷ []) ≡ (residue d (value_at a) + residue d (value_at b)) % 2 ^ d
sum_shown d a b p q low most =
    let x = residue 128 (value_at a) in
    let y = residue 128 (value_at b) in
    shown Add (a ∷ b ∷ []) ((x + y) % 2 ^ 128) d (wrapped_sum a b x y p q refl refl) low most
    ∙ narrower (x + y) d 128 most ∙ add-mod x y (2 ^ d) ∙ ap₂ (λ m n. (m + n) % 2 ^ d) (residue_narrower 128 d (value_at a) most) (residue_narrower 128 d (value_at b) most)

pub difference_shown : (d : ℕ) (a b : Point) → d ≤ natural_width Sub (a.form ∷ b.form ∷ []) → d ≤ 128 → operator_number d Sub (a ∷ b ∷ []) ≡ (residue d (value_at a) + (2 ^ d - residue d (value_at b))) % 2 ^ d
difference_shown d a b low most =
    let x = residue 128 (value_at a) in
    let y = residue 128 (value_at b) in
    shown Sub (a ∷ b ∷ []) ((x + (2 ^ 128 - y)) % 2 ^ 128) d (wrapped_difference a b x y refl refl) low most
    ∙ ap (λ n. n % 2 ^ d) (sym (residue-sub 128 (value_at a) (value_at b))) ∙ residue_narrower 128 d (value_at a -ℤ value_at b) most ∙ residue-sub d (value_at a) (value_at b)

pub product_shown : (d : ℕ) (a b : Point) → IsPoint a → IsPoint b → d ≤ natural_width Mul (a.form ∷ b.form ∷ []) → d ≤ 128 → operator_number d Mul (a ∷ b ∷ []) ≡ residue d (value_at a) * residue d (value_at b) % 2 ^ d
product_shown d a b p q low most =
    let x = residue 128 (value_at a) in
    let y = residue 128 (value_at b) in
    shown Mul (a ∷ b ∷ []) (x * y % 2 ^ 128) d (wrapped_product a b x y p q refl refl) low most
    ∙ ap (λ n. n % 2 ^ d) (sym (residue-mul 128 (value_at a) (value_at b))) ∙ residue_narrower 128 d (value_at a *ℤ value_at b) most ∙ residue-mul d (value_at a) (value_at b)

pub complement_shown : (d : ℕ) (a : Point) → IsPoint a → d ≤ natural_width Not (a.form ∷ []) → d ≤ 128 → operator_number d Not (a ∷ []) ≡ 2 ^ d - 1 - residue d (value_at a)
complement_shown d a p low most =
    let x = residue 128 (value_at a) in
    shown Not (a ∷ []) (2 ^ 128 - 1 - x) d (wrapped_complement a x p refl) low most
    ∙ ap (λ n. n % 2 ^ d) (sym (residue-not 128 (value_at a))) ∙ residue_narrower 128 d (negsuc 0 -ℤ value_at a) most ∙ residue-not d (value_at a)

pub cut_point : (need : ℕ) (old new : Point) → IsPoint old → IsCut need old new → IsPoint new
cut_point need old new p c =
    let fewer = c.fewer in
    let most = p.form.greatest in
    record {
      form = record { positive = c.positive; greatest = omega arith };
      below = let small : old.number % 2 ^ new.form.width < 2 ^ new.form.width = mod-lt old.number (pow_pos new.form.width) in rw c.number small;
    }

-- an operand that is needed whole is the same
pub whole : (old new : Point) → IsPoint old → IsCut old.form.width old new → new ≡ old
whole old new p c = uncut old.form.width old new c p.below (elim c.enough [ inl same ↦ same | inr enough ↦ (let fewer = c.fewer in omega arith) ])

-- either both operands are the same, or what is demanded is not more than the width of one that lost bits
both : (d : ℕ) (a b x y : Point) → IsPoint a → IsPoint b → IsCut d a x → IsCut d b y → ((x ≡ a) × (y ≡ b)) ⊎ (d ≤ max x.form.width y.form.width)
both d a b x y p q c e = elim c.enough [
  | inl same ↦ elim e.enough [
    | inl also ↦ inl (uncut d a x c p.below same, uncut d b y e q.below also)
    | inr enough ↦ inr (omega arith)
  ]
  | inr enough ↦ inr (omega arith)
]

-- the natural width of an operation is not below those of its two operands
abbrev pub IsWidest : Op → Type 0
IsWidest op = (p q : Point) → max p.form.width q.form.width ≤ natural_width op (p.form ∷ q.form ∷ [])

-- so far as its width goes the result comes from the values' bits
abbrev pub ComesBy : Op → ℕ → (ℕ → ℕ → ℕ) → Type 0
ComesBy op d f = (p q : Point) → IsPoint p → IsPoint q → d ≤ natural_width op (p.form ∷ q.form ∷ []) → operator_number d op (p ∷ q ∷ []) ≡ f (residue d (value_at p)) (residue d (value_at q))

pub two_kept : (op : Op) (d : ℕ) (f : ℕ → ℕ → ℕ) → IsWidest op → ComesBy op d f → (a b x y : Point) → IsPoint a → IsPoint b → IsCut d a x → IsCut d b y → operator_number d op (x ∷ y ∷ []) ≡ operator_number d op (a ∷ b ∷ [])
two_kept op d f widest comes a b x y p q c e = elim (both d a b x y p q c e) [
  | inl same ↦ ap₂ (λ (m n : Point). operator_number d op (m ∷ n ∷ [])) same.0 same.1
  | inr less ↦
      let new = widest x y in
      let old = widest a b in
      let fewer = c.fewer in
      let few = e.fewer in
      comes x y (cut_point d a x p c) (cut_point d b y q e) (omega arith)
      ∙ ap₂ f (same_bits d d a x c p.below (omega arith)) (same_bits d d b y e q.below (omega arith))
      ∙ sym (comes a b p q (omega arith))
]

at_least : (s : Bool) (k m n : ℕ) → k ≤ m → k ≤ n → k ≤ cond s m n
at_least true k m n one other = one
at_least false k m n one other = other

signed-le : (f : Form) → f.width ≤ signed_width f
signed-le f = at_least f.signed f.width f.width (f.width + 1) (omega arith) (omega arith)

wider-le : (f g : Form) → wider f g ≤ wider_signed f g
wider-le f g = let one = signed-le f in let other = signed-le g in more f.width g.width (signed_width f) (signed_width g) one other where
  more : (k m v w : ℕ) → k ≤ v → m ≤ w → max k m ≤ max v w
  more k m v w one other = omega arith

pub widest-Add : IsWidest Add
widest-Add p q = let more = wider-le p.form q.form in at_least (p.form.signed || q.form.signed) (wider p.form q.form) (wider_signed p.form q.form + 1) (wider p.form q.form + 1) (omega arith) (omega arith)

pub widest-Sub : IsWidest Sub
widest-Sub p q = let more = wider-le p.form q.form in at_least (p.form.signed || q.form.signed) (wider p.form q.form) (wider_signed p.form q.form + 1) (wider p.form q.form) (omega arith) (omega arith)

pub widest-Mul : IsWidest Mul
widest-Mul p q =
    let more = wider-le p.form q.form in
    let one = signed-le p.form in
    let other = signed-le q.form in
    at_least (p.form.signed || q.form.signed) (wider p.form q.form) (signed_width p.form + signed_width q.form) (p.form.width + q.form.width) (sum (signed_width p.form) (signed_width q.form) p.form.width q.form.width one other) (omega arith) where
      sum : (v w k m : ℕ) → k ≤ v → m ≤ w → max k m ≤ v + w
      sum v w k m one other = omega arith

pub widest-And : IsWidest And
widest-And p q = at_least (p.form.signed || q.form.signed) (wider p.form q.form) (wider_signed p.form q.form) (wider p.form q.form) (wider-le p.form q.form) (omega arith)

pub widest-Or : IsWidest Or
widest-Or p q = at_least (p.form.signed || q.form.signed) (wider p.form q.form) (wider_signed p.form q.form) (wider p.form q.form) (wider-le p.form q.form) (omega arith)

pub widest-Xor : IsWidest Xor
widest-Xor p q = at_least (p.form.signed || q.form.signed) (wider p.form q.form) (wider_signed p.form q.form) (wider p.form q.form) (wider-le p.form q.form) (omega arith)

pub sum_kept : (d : ℕ) (a b x y : Point) → d ≤ 128 → IsPoint a → IsPoint b → IsCut d a x → IsCut d b y → operator_number d Add (x ∷ y ∷ []) ≡ operator_number d Add (a ∷ b ∷ [])
sum_kept d a b x y most = two_kept Add d (λ m n. (m + n) % 2 ^ d) widest-Add (λ p q r s low. sum_shown d p q r s low most) a b x y

pub difference_kept : (d : ℕ) (a b x y : Point) → d ≤ 128 → IsPoint a → IsPoint b → IsCut d a x → IsCut d b y → operator_number d Sub (x ∷ y ∷ []) ≡ operator_number d Sub (a ∷ b ∷ [])
difference_kept d a b x y most = two_kept Sub d (λ m n. (m + (2 ^ d - n)) % 2 ^ d) widest-Sub (λ p q r s low. difference_shown d p q low most) a b x y

pub product_kept : (d : ℕ) (a b x y : Point) → d ≤ 128 → IsPoint a → IsPoint b → IsCut d a x → IsCut d b y → operator_number d Mul (x ∷ y ∷ []) ≡ operator_number d Mul (a ∷ b ∷ [])
product_kept d a b x y most = two_kept Mul d (λ m n. m * n % 2 ^ d) widest-Mul (λ p q r s low. product_shown d p q r s low most) a b x y

-- ---- bits
bits_shown : (op : Op) (f : ℕ → ℕ → ℕ) → ((m n k : ℕ) → f m n % 2 ^ k ≡ f (m % 2 ^ k) (n % 2 ^ k)) → (d : ℕ) (a b : Point) → d ≤ 128 → IsWrapped op (a ∷ b ∷ []) (f (residue 128 (value_at a)) (residue 128 (value_at b))) → d ≤ natural_width op (a.form ∷ b.form ∷ []) → operator_number d op (a ∷ b ∷ []) ≡ f (residue d (value_at a)) (residue d (value_at b))
bits_shown op f each d a b most wrapped low =
    let x = residue 128 (value_at a) in
    let y = residue 128 (value_at b) in
    shown op (a ∷ b ∷ []) (f x y) d wrapped low most ∙ each x y d ∙ ap₂ f (residue_narrower 128 d (value_at a) most) (residue_narrower 128 d (value_at b) most)

pub and_kept : (d : ℕ) (a b x y : Point) → d ≤ 128 → IsPoint a → IsPoint b → IsCut d a x → IsCut d b y → operator_number d And (x ∷ y ∷ []) ≡ operator_number d And (a ∷ b ∷ [])
and_kept d a b x y most = two_kept And d bit_and widest-And (λ p q r s low. bits_shown And bit_and and_mod d p q most (wrapped_and p q (residue 128 (value_at p)) (residue 128 (value_at q)) r s refl refl) low) a b x y

pub or_kept : (d : ℕ) (a b x y : Point) → d ≤ 128 → IsPoint a → IsPoint b → IsCut d a x → IsCut d b y → operator_number d Or (x ∷ y ∷ []) ≡ operator_number d Or (a ∷ b ∷ [])
or_kept d a b x y most = two_kept Or d bit_or widest-Or (λ p q r s low. bits_shown Or bit_or or_mod d p q most (wrapped_or p q (residue 128 (value_at p)) (residue 128 (value_at q)) r s refl refl) low) a b x y

pub xor_kept : (d : ℕ) (a b x y : Point) → d ≤ 128 → IsPoint a → IsPoint b → IsCut d a x → IsCut d b y → operator_number d Xor (x ∷ y ∷ []) ≡ operator_number d Xor (a ∷ b ∷ [])
xor_kept d a b x y most = two_kept Xor d bit_xor widest-Xor (λ p q r s low. bits_shown Xor bit_xor xor_mod d p q most (wrapped_xor p q (residue 128 (value_at p)) (residue 128 (value_at q)) r s refl refl) low) a b x y

-- ---- one operand
one_kept : (op : Op) (need d : ℕ) (f : ℕ → ℕ) → ((p : Point) → IsPoint p → need ≤ p.form.width → d ≤ natural_width op (p.form ∷ [])) → ((p : Point) → IsPoint p → d ≤ natural_width op (p.form ∷ []) → operator_number d op (p ∷ []) ≡ f (residue need (value_at p))) → (a x : Point) → IsPoint a → IsCut need a x → operator_number d op (x ∷ []) ≡ operator_number d op (a ∷ [])
one_kept op need d f widest comes a x p c = elim c.enough [
  | inl same ↦ ap (λ (m : Point). operator_number d op (m ∷ [])) (uncut need a x c p.below same)
  | inr enough ↦
      let fewer = c.fewer in
      let q = cut_point need a x p c in
      comes x q (widest x q enough) ∙ ap f (same_bits need need a x c p.below (omega arith)) ∙ sym (comes a p (widest a p (omega arith)))
]

natural-Not : (p : Point) → p.form.width ≤ natural_width Not (p.form ∷ [])
natural-Not p = at_least p.form.signed p.form.width p.form.width p.form.width (omega arith) (omega arith)

pub complement_kept : (d : ℕ) (a x : Point) → d ≤ 128 → IsPoint a → IsCut d a x → operator_number d Not (x ∷ []) ≡ operator_number d Not (a ∷ [])
complement_kept d a x most = one_kept Not d d (λ n. 2 ^ d - 1 - n) (λ p r low. let width = natural-Not p in omega arith) (λ p r low. complement_shown d p r low most) a x

pub fit_kept : (d : ℕ) (a x : Point) → IsPoint a → IsCut d a x → operator_number d Fit (x ∷ []) ≡ operator_number d Fit (a ∷ [])
fit_kept d a x p c = same_bits d d a x c p.below (omega arith)

-- ---- choices
chosen_bits : (t : Bool) (d : ℕ) (a b : Point) → residue d (value_at (cond t a b)) ≡ cond t (residue d (value_at a)) (residue d (value_at b))
chosen_bits true d a b = refl
chosen_bits false d a b = refl

choice_shown : (d : ℕ) (c a b : Point) → IsPoint a → IsPoint b → d ≤ natural_width Choose (c.form ∷ a.form ∷ b.form ∷ []) → d ≤ 128 → operator_number d Choose (c ∷ a ∷ b ∷ []) ≡ cond (nat_eq c.number 1) (residue d (value_at a)) (residue d (value_at b))
choice_shown d c a b p q low most =
    let one = cond (nat_eq c.number 1) a b in
    let x = residue 128 (value_at one) in
    shown Choose (c ∷ a ∷ b ∷ []) x d (wrapped_choice c a b one x p q refl refl) low most ∙ residue_narrower 128 d (value_at one) most ∙ chosen_bits (nat_eq c.number 1) d a b

natural-Choose : (c p q : Point) → max p.form.width q.form.width ≤ natural_width Choose (c.form ∷ p.form ∷ q.form ∷ [])
natural-Choose c p q = at_least (p.form.signed || q.form.signed) (wider p.form q.form) (wider_signed p.form q.form) (wider p.form q.form) (wider-le p.form q.form) (omega arith)

pub choice_kept : (d : ℕ) (c a b z x y : Point) → d ≤ 128 → IsPoint c → IsPoint a → IsPoint b → c.form.width ≡ 1 → IsCut 1 c z → IsCut d a x → IsCut d b y → operator_number d Choose (z ∷ x ∷ y ∷ []) ≡ operator_number d Choose (c ∷ a ∷ b ∷ [])
choice_kept d c a b z x y most r p q one k m n =
    let whole_width : z.form.width ≡ c.form.width = omega (arith, k.fewer, k.positive) in
    let condition : z ≡ c = uncut 1 c z k r.below whole_width in
    elim (both d a b x y p q m n) [
      | inl same ↦ (let P : Point → Point → Point → Type 0 = λ u v w. operator_number d Choose (u ∷ v ∷ w ∷ []) ≡ operator_number d Choose (c ∷ a ∷ b ∷ []) in rw (condition, same.0, same.1) refl)
      | inr less ↦
          let new = natural-Choose c x y in
          let old = natural-Choose c a b in
          let fewer = m.fewer in
          let few = n.fewer in
          ap (λ (u : Point). operator_number d Choose (u ∷ x ∷ y ∷ [])) condition
          ∙ choice_shown d c x y (cut_point d a x p m) (cut_point d b y q n) (omega arith) most
          ∙ ap₂ (cond (nat_eq c.number 1)) (same_bits d d a x m p.below (omega arith)) (same_bits d d b y n q.below (omega arith))
          ∙ sym (choice_shown d c a b p q (omega arith) most)
    ]

-- ---- shifts
natural-Left : (k : ℕ) (p : Point) → p.form.width + k ≤ natural_width (Left k) (p.form ∷ [])
natural-Left k p = at_least p.form.signed (p.form.width + k) (p.form.width + k) (p.form.width + k) (omega arith) (omega arith)

-- x moved up, by its low bits
left_shown : (k d : ℕ) (a : Point) → IsPoint a → d ≤ natural_width (Left k) (a.form ∷ []) → d ≤ 128 → operator_number d (Left k) (a ∷ []) ≡ residue (d - k) (value_at a) * 2 ^ k % 2 ^ d
left_shown k d a p low most =
    let x = residue 128 (value_at a) in
    shown (Left k) (a ∷ []) (x * 2 ^ k % 2 ^ 128) d (wrapped_left k a x p refl) low most ∙ narrower (x * 2 ^ k) d 128 most
    ∙ sym (ap (λ n. n * 2 ^ k % 2 ^ d) (sym (residue_narrower 128 (d - k) (value_at a) (omega arith))) ∙ moved_low (x % 2 ^ (d - k)) x k d (mod_less x (d - k) (d - k) (omega arith)))

pub left_kept : (k d : ℕ) (a x : Point) → d ≤ 128 → IsPoint a → IsCut (d - k) a x → operator_number d (Left k) (x ∷ []) ≡ operator_number d (Left k) (a ∷ [])
left_kept k d a x most = one_kept (Left k) (d - k) d (λ n. n * 2 ^ k % 2 ^ d) (λ p r low. let width = natural-Left k p in omega arith) (λ p r low. left_shown k d p r low most) a x

natural-LeftBy : (p by : Point) → p.form.width ≤ natural_width LeftBy (p.form ∷ by.form ∷ [])
natural-LeftBy p by = at_least p.form.signed p.form.width p.form.width p.form.width (omega arith) (omega arith)

left_by_shown : (d : ℕ) (a by : Point) → d ≤ natural_width LeftBy (a.form ∷ by.form ∷ []) → d ≤ 128 → operator_number d LeftBy (a ∷ by ∷ []) ≡ residue d (value_at a) * 2 ^ by.number % 2 ^ d
left_by_shown d a by low most =
    let k = by.number in
    let x = residue 128 (value_at a) in
    shown LeftBy (a ∷ by ∷ []) (x * 2 ^ k % 2 ^ 128) d (wrapped_left_by a by x refl) low most ∙ narrower (x * 2 ^ k) d 128 most
    ∙ sym (mul-mod_first x (2 ^ k) (2 ^ d)) ∙ ap (λ n. n * 2 ^ k % 2 ^ d) (residue_narrower 128 d (value_at a) most)

pub left_by_kept : (d : ℕ) (a by x y : Point) → d ≤ 128 → IsPoint a → IsPoint by → IsCut d a x → IsCut by.form.width by y → operator_number d LeftBy (x ∷ y ∷ []) ≡ operator_number d LeftBy (a ∷ by ∷ [])
left_by_kept d a by x y most p q c e = ap (λ (m : Point). operator_number d LeftBy (x ∷ m ∷ [])) (whole by y q e) ∙ elim c.enough [
  | inl same ↦ ap (λ (m : Point). operator_number d LeftBy (m ∷ by ∷ [])) (uncut d a x c p.below same)
  | inr enough ↦
      let fewer = c.fewer in
      let new = natural-LeftBy x by in
      let old = natural-LeftBy a by in
      left_by_shown d x by (omega arith) most ∙ ap (λ n. n * 2 ^ by.number % 2 ^ d) (same_bits d d a x c p.below (omega arith)) ∙ sym (left_by_shown d a by (omega arith) most)
]

natural-Right : (k : ℕ) (p : Point) → max 1 (p.form.width - k) ≤ natural_width (Right k) (p.form ∷ [])
natural-Right k p = at_least p.form.signed (max 1 (p.form.width - k)) (max 1 (p.form.width - k)) (max 1 (p.form.width - k)) (omega arith) (omega arith)

right_shown : (k d : ℕ) (a : Point) → IsPoint a → d ≤ natural_width (Right k) (a.form ∷ []) → d ≤ 128 → operator_number d (Right k) (a ∷ []) ≡ residue (d + k) (value_at a) / 2 ^ k
right_shown k d a p low most =
    let z = int_div_euclid (value_at a) (pos (2 ^ k)) in
    shown (Right k) (a ∷ []) (residue 128 z) d (wrapped_right k a (residue 128 z) p refl) low most ∙ residue_narrower 128 d z most ∙ residue_moved d k (value_at a)

-- an operand from which all bits are moved out
right_none : (k d : ℕ) (a : Point) → a.form.signed ≡ false → a.number < 2 ^ k → operator_number d (Right k) (a ∷ []) ≡ 0
right_none k d a plain few =
    let none : a.number / 2 ^ k ≡ 0 = div-eq_of_lt few in
    let form = natural_form (Right k) (a.form ∷ []) in
    let number : natural_number (Right k) (a ∷ []) ≡ 0 = ap (λ s. cond s (residue (cond s (max 1 (a.form.width - k)) (max 1 (a.form.width - k))) (int_div_euclid (value_at a) (pos (2 ^ k)))) (a.number / 2 ^ k)) plain ∙ none in
    let unsigned : form.signed ≡ false = ap (λ s. s && true) plain in
    ap (λ n. residue d (value form n)) number ∙ ap (residue d) (value_unsigned form 0 unsigned) ∙ residue-pos d 0 ∙ zero_mod (2 ^ d) (pow_pos d) where
      zero_mod : (m : ℕ) → 0 < m → 0 % m ≡ 0
      zero_mod m positive = mod-eq_of_lt positive

right_near : (k d : ℕ) (a x : Point) → d ≤ 128 → IsPoint a → IsCut (d + k) a x → operator_number d (Right k) (x ∷ []) ≡ operator_number d (Right k) (a ∷ [])
right_near k d a x most = one_kept (Right k) (d + k) d (λ n. n / 2 ^ k) (λ p r low. let width = natural-Right k p in omega arith) (λ p r low. right_shown k d p r low most) a x

right_far : (k d : ℕ) (s : Bool) (a x : Point) → IsPoint a → a.form.signed ≡ s → a.form.width ≤ k → IsCut (cond s a.form.width 1) a x → operator_number d (Right k) (x ∷ []) ≡ operator_number d (Right k) (a ∷ [])
right_far k d true a x p kind far c = ap (λ (m : Point). operator_number d (Right k) (m ∷ [])) (whole a x p c)
right_far k d false a x p kind far c =
    let fewer = c.fewer in
    let few : a.number < 2 ^ k = omega (arith, p.below, wide a.form.width k far) in
    let shorter_far : x.form.width ≤ k = omega arith in
    let less : x.number < 2 ^ k = omega (arith, (cut_point 1 a x p c).below, wide x.form.width k shorter_far) in
    right_none k d x (c.kind ∙ kind) less ∙ sym (right_none k d a kind few)

pub right_kept : (k d : ℕ) (a x : Point) → d ≤ 128 → IsPoint a → IsCut (asked_right k a.form d) a x → operator_number d (Right k) (x ∷ []) ≡ operator_number d (Right k) (a ∷ [])
right_kept k d a x most p c = by_test (nat_lt k a.form.width) refl c where
  by_test : (b : Bool) → nat_lt k a.form.width ≡ b → IsCut (cond b (d + k) (cond a.form.signed a.form.width 1)) a x → operator_number d (Right k) (x ∷ []) ≡ operator_number d (Right k) (a ∷ [])
  by_test true near e = right_near k d a x most p e
  by_test false far e = right_far k d a.form.signed a x p refl (ltb-false k a.form.width far) e

-- ---- slices and concatenations
slice_shown : (high low d : ℕ) (a : Point) → operator_number d (Slice high low) (a ∷ []) ≡ a.number / 2 ^ low % 2 ^ (high - low + 1) % 2 ^ d
slice_shown high low d a =
    let form = natural_form (Slice high low) (a.form ∷ []) in
    let n = a.number / 2 ^ low % 2 ^ (high - low + 1) in
    ap (residue d) (value_unsigned form n refl) ∙ residue-pos d n

-- the fewer of two counts of low bits
least_of_two : (n u d : ℕ) → n % 2 ^ u % 2 ^ d ≡ n % 2 ^ min d u
least_of_two n u d = elim (cases_lt u d) [
  | inl less ↦
      let m : min d u ≡ u = omega arith in
      let below : n % 2 ^ u < 2 ^ u = mod-lt n (pow_pos u) in
      let small : u ≤ d = omega arith in
      let few : n % 2 ^ u < 2 ^ d = omega (arith, wide u d small) in
      mod-eq_of_lt few ∙ ap (λ k. n % 2 ^ k) (sym m)
  | inr more ↦ (let m : min d u ≡ d = omega arith in mod_less n d u more ∙ ap (λ k. n % 2 ^ k) (sym m))
]

same_field : (low m need : ℕ) (a x : Point) → IsPoint a → IsCut need a x → m + low ≤ need → x.number / 2 ^ low % 2 ^ m ≡ a.number / 2 ^ low % 2 ^ m
same_field low m need a x p c less = elim c.enough [
  | inl same ↦ ap (λ (q : Point). q.number / 2 ^ low % 2 ^ m) (uncut need a x c p.below same)
  | inr enough ↦ (let within : m + low ≤ x.form.width = omega arith in field x.number m low ∙ ap (λ n. n / 2 ^ low) (ap (λ n. n % 2 ^ (m + low)) c.number ∙ mod_less a.number (m + low) x.form.width within) ∙ sym (field a.number m low))
]

pub slice_kept : (high low d : ℕ) (a x : Point) → 1 ≤ d → IsPoint a → IsCut (d + low) a x → operator_number d (narrowed_op d (Slice high low)) (x ∷ []) ≡ operator_number d (Slice high low) (a ∷ [])
slice_kept high low d a x some p c =
    let u = high - low + 1 in
    let m = min d u in
    let new : low + m - 1 - low + 1 ≡ m = omega arith in
    let few : m ≤ d = omega arith in
    let within : m + low ≤ d + low = omega arith in
    slice_shown (low + m - 1) low d x ∙ ap (λ k. x.number / 2 ^ low % 2 ^ k % 2 ^ d) new ∙ least_of_two (x.number / 2 ^ low) m d
    ∙ ap (λ k. x.number / 2 ^ low % 2 ^ k) (again d u)
    ∙ same_field low m (d + low) a x p c within
    ∙ sym (slice_shown high low d a ∙ least_of_two (a.number / 2 ^ low) u d) where
      again : (v w : ℕ) → min v (min v w) ≡ min v w
      again v w = omega arith

cat_shown : (d : ℕ) (a b : Point) → operator_number d Cat (a ∷ b ∷ []) ≡ (a.number * 2 ^ b.form.width + b.number) % 2 ^ d
cat_shown d a b =
    let form = natural_form Cat (a.form ∷ b.form ∷ []) in
    let n = a.number * 2 ^ b.form.width + b.number in
    ap (residue d) (value_unsigned form n refl) ∙ residue-pos d n

same_low : (need : ℕ) (a x : Point) → IsPoint a → IsCut need a x → x.number % 2 ^ need ≡ a.number % 2 ^ need
same_low need a x p c = elim c.enough [
  | inl same ↦ ap (λ (q : Point). q.number % 2 ^ need) (uncut need a x c p.below same)
  | inr enough ↦ ap (λ n. n % 2 ^ need) c.number ∙ mod_less a.number need x.form.width enough
]

-- the first part lies above all that is demanded
cat_far : (d w : ℕ) (m n : ℕ) → d ≤ w → (m * 2 ^ w + n) % 2 ^ d ≡ n % 2 ^ d
cat_far d w m n far = add-mod (m * 2 ^ w) n (2 ^ d) ∙ ap (λ k. (k + n % 2 ^ d) % 2 ^ d) (moved_low m 0 w d none ∙ none_left) ∙ ap (λ k. k % 2 ^ d) (nothing (n % 2 ^ d)) ∙ mod_less n d d (omega arith) where
  nothing : (k : ℕ) → 0 + k ≡ k
  nothing k = omega arith

  zero : d - w ≡ 0
  zero = omega arith

  one_left : (k : ℕ) → k % 2 ^ 0 ≡ 0
  one_left k = omega arith

  none : m % 2 ^ (d - w) ≡ 0 % 2 ^ (d - w)
  none = ap (λ k. m % 2 ^ k) zero ∙ one_left m ∙ sym (ap (λ k. 0 % 2 ^ k) zero ∙ one_left 0)

  none_left : 0 * 2 ^ w % 2 ^ d ≡ 0
  none_left = let e : 0 * 2 ^ w ≡ 0 = omega arith in ap (λ k. k % 2 ^ d) e ∙ mod-eq_of_lt (pow_pos d)

pub cat_kept : (d : ℕ) (a b x y : Point) → IsPoint a → IsPoint b → IsCut (d - b.form.width) a x → IsCut d b y → operator_number d Cat (x ∷ y ∷ []) ≡ operator_number d Cat (a ∷ b ∷ [])
cat_kept d a b x y p q c e = cat_shown d x y ∙ elim e.enough [
  | inl same ↦
      let w = b.form.width in
      ap (λ (m : Point). (x.number * 2 ^ m.form.width + m.number) % 2 ^ d) (uncut d b y e q.below same)
      ∙ add-mod (x.number * 2 ^ w) b.number (2 ^ d)
      ∙ ap (λ k. (k + b.number % 2 ^ d) % 2 ^ d) (moved_low x.number a.number w d (same_low (d - w) a x p c))
      ∙ sym (add-mod (a.number * 2 ^ w) b.number (2 ^ d)) ∙ sym (cat_shown d a b)
  | inr enough ↦
      let fewer = e.fewer in
      cat_far d y.form.width x.number y.number enough ∙ same_low d b y q e ∙ sym (cat_far d b.form.width a.number b.number (omega arith)) ∙ sym (cat_shown d a b)
]

-- ---- operators that need their operands whole
pub whole_kept : (op : Op) (d : ℕ) (a b x y : Point) → IsPoint a → IsPoint b → IsCut a.form.width a x → IsCut b.form.width b y → operator_number d op (x ∷ y ∷ []) ≡ operator_number d op (a ∷ b ∷ [])
whole_kept op d a b x y p q c e = ap₂ (λ (m n : Point). operator_number d op (m ∷ n ∷ [])) (whole a x p c) (whole b y q e)

-- ---- all operators
-- each operand lost no bits that are needed
abbrev pub AreCut : List ℕ → List Point → List Point → Type 0
AreCut (n ∷ needs) (a ∷ old) (x ∷ new) = IsPoint a × (IsCut n a x × AreCut needs old new)
AreCut [] [] [] = Unit {0}
AreCut needs old new = ⊥

kept_one : (op : Op) (d : ℕ) (a x : Point) → 1 ≤ d → d ≤ 128 → arity op ≡ 1 → is_steady op ≡ true → AreCut (asked op (a.form ∷ []) d) (a ∷ []) (x ∷ []) → operator_number d (narrowed_op d op) (x ∷ []) ≡ operator_number d op (a ∷ [])
kept_one Not d a x some most one steady c = complement_kept d a x most c.0 c.1.0
kept_one (Left k) d a x some most one steady c = left_kept k d a x most c.0 c.1.0
kept_one (Right k) d a x some most one steady c = right_kept k d a x most c.0 c.1.0
kept_one (Slice high low) d a x some most one steady c = slice_kept high low d a x some c.0 c.1.0
kept_one Fit d a x some most one steady c = fit_kept d a x c.0 c.1.0
kept_one (Delay k) d a x some most one steady c = absurd (let none : false ≡ true = steady in cc)
kept_one (Rec init first) d a x some most one steady c = absurd (let none : false ≡ true = steady in cc)
kept_one op d a x some most one steady c = absurd (omega arith)

kept_two : (op : Op) (d : ℕ) (a b x y : Point) → d ≤ 128 → arity op ≡ 2 → AreCut (asked op (a.form ∷ b.form ∷ []) d) (a ∷ b ∷ []) (x ∷ y ∷ []) → operator_number d (narrowed_op d op) (x ∷ y ∷ []) ≡ operator_number d op (a ∷ b ∷ [])
kept_two Add d a b x y most two c = sum_kept d a b x y most c.0 c.1.1.0 c.1.0 c.1.1.1.0
kept_two Sub d a b x y most two c = difference_kept d a b x y most c.0 c.1.1.0 c.1.0 c.1.1.1.0
kept_two Mul d a b x y most two c = product_kept d a b x y most c.0 c.1.1.0 c.1.0 c.1.1.1.0
kept_two And d a b x y most two c = and_kept d a b x y most c.0 c.1.1.0 c.1.0 c.1.1.1.0
kept_two Or d a b x y most two c = or_kept d a b x y most c.0 c.1.1.0 c.1.0 c.1.1.1.0
kept_two Xor d a b x y most two c = xor_kept d a b x y most c.0 c.1.1.0 c.1.0 c.1.1.1.0
kept_two Equal d a b x y most two c = whole_kept Equal d a b x y c.0 c.1.1.0 c.1.0 c.1.1.1.0
kept_two NotEqual d a b x y most two c = whole_kept NotEqual d a b x y c.0 c.1.1.0 c.1.0 c.1.1.1.0
kept_two Less d a b x y most two c = whole_kept Less d a b x y c.0 c.1.1.0 c.1.0 c.1.1.1.0
kept_two LessEqual d a b x y most two c = whole_kept LessEqual d a b x y c.0 c.1.1.0 c.1.0 c.1.1.1.0
kept_two Greater d a b x y most two c = whole_kept Greater d a b x y c.0 c.1.1.0 c.1.0 c.1.1.1.0
kept_two GreaterEqual d a b x y most two c = whole_kept GreaterEqual d a b x y c.0 c.1.1.0 c.1.0 c.1.1.1.0
kept_two LeftBy d a b x y most two c = left_by_kept d a b x y most c.0 c.1.1.0 c.1.0 c.1.1.1.0
kept_two RightBy d a b x y most two c = whole_kept RightBy d a b x y c.0 c.1.1.0 c.1.0 c.1.1.1.0
kept_two Cat d a b x y most two c = cat_kept d a b x y c.0 c.1.1.0 c.1.0 c.1.1.1.0
kept_two op d a b x y most two c = absurd (omega arith)

kept_three : (op : Op) (d : ℕ) (e a b z x y : Point) → d ≤ 128 → arity op ≡ 3 → takes op (e.form ∷ a.form ∷ b.form ∷ []) ≡ true → AreCut (asked op (e.form ∷ a.form ∷ b.form ∷ []) d) (e ∷ a ∷ b ∷ []) (z ∷ x ∷ y ∷ []) → operator_number d (narrowed_op d op) (z ∷ x ∷ y ∷ []) ≡ operator_number d op (e ∷ a ∷ b ∷ [])
kept_three Choose d e a b z x y most three taken c = choice_kept d e a b z x y most c.0 c.1.1.0 c.1.1.1.1.0 (eqb-true e.form.width 1 taken) c.1.0 c.1.1.1.0 c.1.1.1.1.1.0
kept_three op d e a b z x y most three taken c = absurd (omega arith)

-- the bits that are demanded of an operator's number stay
pub kept : (op : Op) (d : ℕ) (old new : List Point) → 1 ≤ d → d ≤ 128 → is_steady op ≡ true → length old ≡ arity op → length new ≡ arity op → takes op (forms_of old) ≡ true → AreCut (asked op (forms_of old) d) old new → operator_number d (narrowed_op d op) new ≡ operator_number d op old
kept op d [] [] some most steady count also taken c = by_op op steady count where
  by_op : (o : Op) → is_steady o ≡ true → 0 ≡ arity o → operator_number d (narrowed_op d o) [] ≡ operator_number d o []
  by_op Input is none = absurd (let no : false ≡ true = is in cc)
  by_op o is none = absurd (omega arith)
kept op d (a ∷ []) (x ∷ []) some most steady count also taken c = kept_one op d a x some most (sym count) steady c
kept op d (a ∷ b ∷ []) (x ∷ y ∷ []) some most steady count also taken c = kept_two op d a b x y most (sym count) c
kept op d (e ∷ a ∷ b ∷ []) (z ∷ x ∷ y ∷ []) some most steady count also taken c = kept_three op d e a b z x y most (sym count) taken c
kept op d old new some most steady count also taken c = absurd (let few = arity-le op in omega arith)
