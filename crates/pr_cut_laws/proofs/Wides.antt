-- Operands as an operator reads them: in so many bits at least, and what they stand for.
use Rattle.std.proofs.Common.{ℕ, ◌≡◌, ◌+◌, ◌*◌, ◌/◌, ◌%◌, ◌^◌, ◌-◌, ◌<◌, ◌≤◌, max, Bool, true, false, nat_lt, List, length, subst, refl, ap, ap₂, sym, ◌∙◌, ℤ, pos, negsuc, ◌+ℤ◌, ◌-ℤ◌, ◌*ℤ◌, arith}
use Rattle.std.specs.Bool.{if◌then◌else◌}
use Rattle.std.proofs.Math.Nat.{mod-eq_of_lt, pow-le-pow_right, add-mod}
use Rattle.std.proofs.lemmas.Nat.{mul-mod}
use Rattle.std.proofs.lemmas.Bool.{ltb-true, ltb-false}
use Rattle.pr_flat.specs.declared.forms.Form.{Form}
use Rattle.pr_flat.specs.declared.forms.Point.{Point}
use Rattle.pr_flat.specs.Forms.{IsPoint, value, value_at, residue}
use Rattle.pr_flat.proofs.FormLemmas.{residue-value}
use Rattle.pr_flat_ops.proofs.Residues.{residue-pos, residue-add, residue-sub, residue-mul, residue-not, residue_narrower, residue_below}
use Rattle.pr_flat_ops.proofs.Values.{value_unsigned}
use Rattle.pr_net.specs.declared.cells.Slice.{Slice}
use Rattle.pr_net.specs.Reading.{Reading, Has, shown}
use Rattle.pr_net.specs.Runs.{AreBytes}
use Rattle.pr_net.proofs.Readings.{has-append}
use Rattle.pr_cut_units.specs.Parts.{Making, Part, kept, followed_by}
use Rattle.pr_cut_units.specs.Widening.{Argument, widened, both_widened}
use Rattle.pr_cut_units.proofs.AddMeaning.{Bytes}
use Rattle.pr_cut_units.proofs.Operands.{AreOperands, operands_more}
use Rattle.pr_cut_units.proofs.GoodParts.{GoodPart}
use Rattle.pr_cut_units.proofs.GoodTable.{good_widened}
use Rattle.pr_cut_laws.proofs.Shown.{operand_bytes}
use Rattle.pr_cut_laws.proofs.Values.{signed_form, unsigned_form}
use Rattle.pr_cut_laws.proofs.Widen.{IsOperand, wide_part, widen_shows}

-- these slices show a value, modulo 2 to the power of t
pub record Stands (r : Reading) (x : List Slice) (t : ℕ) (z : ℤ) : Type 0 where
  pub number : shown r x % 2 ^ t ≡ residue t z
  pub bytes : Bytes r x

-- an argument with the number that it shows
abbrev pub point_of : Reading → Argument → Point
point_of r a = record { form = a.form; number = shown r a.slices }

-- an argument that units from number u on may read
pub record IsArgument (r : Reading) (u : ℕ) (a : Argument) : Type 0 where
  pub known : AreOperands u a.slices
  pub count : a.form.width / 8 ≤ length a.slices
  pub point : IsPoint (point_of r a)

pub operand_of : (r : Reading) (u : ℕ) (a : Argument) → AreBytes r → IsArgument r u a → IsOperand r a.slices a.form.width
operand_of r u a b h = record { some = h.point.form.positive; count = h.count; bytes = operand_bytes r u a.slices b h.known; below = h.point.below }

-- what is known of the wider operand
pub record IsWide (r : Reading) (f : Form) (t n : ℕ) (x : List Slice) : Type 0 where
  pub number : shown r x % 2 ^ t ≡ residue t (value f n)
  pub exact : f.width ≤ t → shown r x ≡ residue t (value f n)
  pub below : shown r x < 2 ^ max f.width t
  pub plain : f.signed ≡ false → shown r x ≡ n

more_room : (n v t : ℕ) → n < 2 ^ v → v ≤ t → n < 2 ^ t
more_room n v t l h =
    let two : 0 < 2 = omega arith in
    omega (arith, l, pow-le-pow_right two h)

abbrev IsTrue : Bool → Type 0
IsTrue true = Unit {0}
IsTrue false = ⊥

wide_by : (s : Bool) (r : Reading) (u v t : ℕ) (x : List Slice) → IsOperand r x v → Has r u (widened (record { slices = x; form = record { signed = s; width = v } }) t u).units → IsWide r (record { signed = s; width = v }) t (shown r x) (widened (record { slices = x; form = record { signed = s; width = v } }) t u).slices
wide_by false r u v t x o h =
    let e : residue t (value (unsigned_form v) (shown r x)) ≡ shown r x % 2 ^ t = ap (residue t) (value_unsigned (unsigned_form v) (shown r x) refl) ∙ residue-pos t (shown r x) in
    record { number = sym e; exact = λ l. sym (mod-eq_of_lt (more_room (shown r x) v t o.below l)) ∙ sym e; below = more_room (shown r x) v (max v t) o.below (omega arith); plain = λ f. refl }
wide_by true r u v t x o h = go (nat_lt v t) refl h
  where
    a : Argument
    a = record { slices = x; form = record { signed = true; width = v } }

    no : true ≡ false → ⊥
    no e = subst IsTrue e tt

    go : (b : Bool) → nat_lt v t ≡ b → Has r u ((if b then wide_part a t else kept x) u).units → IsWide r (signed_form v) t (shown r x) ((if b then wide_part a t else kept x) u).slices
    go true is has =
        let l : v < t = ltb-true v t is in
        let e : shown r (wide_part a t u).slices ≡ residue t (value (signed_form v) (shown r x)) = widen_shows r u t a o l has in
        record {
          number = ap (λ (k : ℕ). k % 2 ^ t) e ∙ mod-eq_of_lt (residue_below t (value (signed_form v) (shown r x)));
          exact = λ g. e;
          below = subst (λ (k : ℕ). k < 2 ^ max v t) (sym e) (more_room (residue t (value (signed_form v) (shown r x))) t (max v t) (residue_below t (value (signed_form v) (shown r x))) (omega arith));
          plain = λ f. absurd (no f);
        }
    go false is has =
        let g : t ≤ v = ltb-false v t is in
        let e : residue t (value (signed_form v) (shown r x)) ≡ shown r x % 2 ^ t = residue-value (signed_form v) t (shown r x) g in
        record { number = sym e; exact = λ l. sym (mod-eq_of_lt (more_room (shown r x) v t o.below l)) ∙ sym e; below = more_room (shown r x) v (max v t) o.below (omega arith); plain = λ f. refl }

-- an operand made wider, where it is signed and narrower, shows its value
pub wide_shows : (r : Reading) (u t : ℕ) (a : Argument) → IsOperand r a.slices a.form.width → Has r u (widened a t u).units → IsWide r a.form t (shown r a.slices) (widened a t u).slices
wide_shows r u t a o h = wide_by a.form.signed r u a.form.width t a.slices o h

-- ---- parts one after the other
pub then_has : (r : Reading) (u : ℕ) (first : Making) (second : List Slice → Making) → Has r u (followed_by first second u).units → Has r u (first u).units × Has r (u + length (first u).units) (second (first u).slices (u + length (first u).units)).units
then_has r u first second h = has-append r u (first u).units (second (first u).slices (u + length (first u).units)).units h

-- two operands as they are read, and where the units behind them stand
pub record BothWide (r : Reading) (u t : ℕ) (a b : Argument) (making : List Slice → List Slice → Making) : Type 0 where
  pub v : ℕ
  pub later : u ≤ v
  pub x : List Slice
  pub y : List Slice
  pub first : IsWide r a.form t (shown r a.slices) x
  pub second : IsWide r b.form t (shown r b.slices) y
  pub known_x : AreOperands v x
  pub known_y : AreOperands v y
  pub has : Has r v (making x y v).units
  pub slices : (both_widened t a b making u).slices ≡ (making x y v).slices

pub both_wide : (r : Reading) (u t : ℕ) (a b : Argument) (making : List Slice → List Slice → Making) → AreBytes r → IsArgument r u a → IsArgument r u b → Has r u (both_widened t a b making u).units → BothWide r u t a b making
both_wide r u t a b making bs ha hb h =
    let p : Part = widened a t u in
    let m : ℕ = u + length p.units in
    let second : List Slice → Making = λ x. followed_by (widened b t) (λ y. making x y) in
    let one = then_has r u (widened a t) second h in
    let q : Part = widened b t m in
    let n : ℕ = m + length q.units in
    let two = then_has r m (widened b t) (λ y. making p.slices y) one.1 in
    let gp : GoodPart u p = good_widened u a t ha.known in
    let gq : GoodPart m q = good_widened m b t (operands_more u m b.slices (omega arith) hb.known) in
    record {
      v = n;
      later = omega arith;
      x = p.slices;
      y = q.slices;
      first = wide_shows r u t a (operand_of r u a bs ha) one.0;
      second = wide_shows r m t b (operand_of r u b bs hb) two.0;
      known_x = operands_more m n p.slices (omega arith) gp.slices;
      known_y = gq.slices;
      has = two.1;
      slices = refl;
    }

-- ---- operators over values: one lemma for signed, mixed and unsigned operands
pub first_stands : (r : Reading) (u t : ℕ) (a b : Argument) (making : List Slice → List Slice → Making) → AreBytes r → (w : BothWide r u t a b making) → Stands r w.x t (value_at (point_of r a))
first_stands r u t a b making bs w = record { number = w.first.number; bytes = operand_bytes r w.v w.x bs w.known_x }

pub second_stands : (r : Reading) (u t : ℕ) (a b : Argument) (making : List Slice → List Slice → Making) → AreBytes r → (w : BothWide r u t a b making) → Stands r w.y t (value_at (point_of r b))
second_stands r u t a b making bs w = record { number = w.second.number; bytes = operand_bytes r w.v w.y bs w.known_y }

pub stands_sum : (r : Reading) (x y : List Slice) (e : ℕ) (p q : ℤ) → Stands r x e p → Stands r y e q → (shown r x + shown r y) % 2 ^ e ≡ residue e (p +ℤ q)
stands_sum r x y e p q s t = add-mod (shown r x) (shown r y) (2 ^ e) ∙ ap₂ (λ (i j : ℕ). (i + j) % 2 ^ e) s.number t.number ∙ sym (residue-add e p q)

pub stands_difference : (r : Reading) (x y : List Slice) (e : ℕ) (p q : ℤ) → Stands r x e p → Stands r y e q → (shown r x + (2 ^ e - shown r y % 2 ^ e)) % 2 ^ e ≡ residue e (p -ℤ q)
stands_difference r x y e p q s t =
    let m : ℕ = 2 ^ e in
    let d : ℕ = m - shown r y % m in
    add-mod (shown r x) d m ∙ ap (λ (i : ℕ). (i + d % m) % m) s.number ∙ ap (λ (i : ℕ). (i + d % m) % m) (sym (mod-eq_of_lt (residue_below e p))) ∙ sym (add-mod (residue e p) d m)
    ∙ ap (λ (i : ℕ). (residue e p + (m - i)) % m) t.number ∙ sym (residue-sub e p q)

pub stands_product : (r : Reading) (x y : List Slice) (e : ℕ) (p q : ℤ) → Stands r x e p → Stands r y e q → (shown r x * shown r y) % 2 ^ e ≡ residue e (p *ℤ q)
stands_product r x y e p q s t = mul-mod (shown r x) (shown r y) (2 ^ e) ∙ ap₂ (λ (i j : ℕ). (i * j) % 2 ^ e) s.number t.number ∙ sym (residue-mul e p q)

pub stands_complement : (r : Reading) (x : List Slice) (e : ℕ) (p : ℤ) → Stands r x e p → 2 ^ e - 1 - shown r x % 2 ^ e ≡ residue e (negsuc 0 -ℤ p)
stands_complement r x e p s = ap (λ (i : ℕ). 2 ^ e - 1 - i) s.number ∙ sym (residue-not e p)

-- an operation bit by bit gives that of the two residues, which is the language's at any greater width
pub stands_word : (r : Reading) (g : ℕ → ℕ → ℕ) (x y : List Slice) (e m : ℕ) (p q : ℤ) → ((i j k : ℕ) → g i j % 2 ^ k ≡ g (i % 2 ^ k) (j % 2 ^ k)) → e ≤ m → Stands r x e p → Stands r y e q → g (shown r x) (shown r y) % 2 ^ e ≡ residue e (pos (g (residue m p) (residue m q)))
stands_word r g x y e m p q c h s t =
    c (shown r x) (shown r y) e ∙ ap₂ g s.number t.number
    ∙ sym (residue-pos e (g (residue m p) (residue m q)) ∙ c (residue m p) (residue m q) e ∙ ap₂ g (residue_narrower m e p h) (residue_narrower m e q h))
