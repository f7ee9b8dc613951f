-- Slices, shifts by constants and concatenations, as units and without units.
use Rattle.std.proofs.Common.{ℕ, ◌≡◌, ◌+◌, ◌*◌, ◌/◌, ◌%◌, ◌^◌, ◌-◌, ◌<◌, ◌≤◌, ◌==◌, ◌&&◌, Bool, true, false, nat_lt, List, bit_or, bit_and, subst, refl, ap, ap₂, sym, ◌∙◌, ◌⊎◌, inl, inr, pow-add, arith}
use Rattle.std.specs.Bool.{if◌then◌else◌}
use Rattle.std.proofs.Math.Nat.{mod-eq_of_lt, pow-le-pow_right}
use Rattle.std.proofs.lemmas.Nat.{or_shifted, or_comm, shr_below, shl_below}
use Rattle.std.proofs.lemmas.Bool.{cases_lt, and_parts, or_cases, eqb-true, lt-ltb, le-ltb}
use Rattle.pr_base.specs.Numbers.{byte_at, slices_of}
use Rattle.pr_base.specs.Pe.{looked_up}
use Rattle.pr_net.specs.declared.cells.Slice.{Slice}
use Rattle.pr_net.specs.declared.cells.Cell.{Cell}
use Rattle.pr_net.specs.Reading.{Reading, slice_byte, Has, shown}
use Rattle.pr_cut_units.specs.Cells.{plain, slice_at, slice_below, byte, top, with_left, with_right, table_b, table_or}
use Rattle.pr_cut_units.specs.Parts.{Making, each, kept, one_unit}
use Rattle.pr_cut_units.specs.Widening.{Argument}
use Rattle.pr_cut_units.specs.Operators.{ends_whole, moved_left, extracted, concatenated}
use Rattle.pr_cut_units.proofs.AddMeaning.{Bytes}
use Rattle.pr_cut_units.proofs.Tables.{byte_b, byte_or as table_or_is}
use Rattle.pr_cut_laws.proofs.Digits.{bytes_pow, byte_whole}
use Rattle.pr_cut_laws.proofs.Shown.{byte_is, shown_each, unit_shows}
use Rattle.pr_cut_laws.proofs.Moved.{b_byte, left_is, right_is, below_is, byte_or, byte_low, byte_high}

-- where the bits are whole bytes, or all that the number has
pub whole_bits : (v e : ℕ) → (e % 8 ≡ 0) ⊎ (v < 2 ^ e) → v % 256 ^ slices_of e ≡ v % 2 ^ e
whole_bits v e (inl h) = ap (λ (k : ℕ). v % k) (bytes_pow (slices_of e)) ∙ ap (λ (k : ℕ). v % 2 ^ k) (omega (arith, h))
whole_bits v e (inr h) =
    let two : 0 < 2 = omega arith in
    let more : 2 ^ e ≤ 2 ^ (8 * slices_of e) = pow-le-pow_right two (omega arith) in
    mod-eq_of_lt (omega (arith, h, more, bytes_pow (slices_of e))) ∙ sym (mod-eq_of_lt h)

whole_power : (k : ℕ) → k % 8 ≡ 0 → 256 ^ (k / 8) ≡ 2 ^ k
whole_power k h = bytes_pow (k / 8) ∙ ap (λ (n : ℕ). 2 ^ n) (omega (arith, h))

-- e bits from bit l on
pub extracted_shows : (r : Reading) (u e w l : ℕ) (x : List Slice) → 1 ≤ e → Bytes r x → shown r x < 2 ^ w → Has r u (extracted e w l x u).units → shown r (extracted e w l x u).slices ≡ shown r x / 2 ^ l % 2 ^ e
extracted_shows r u e w l x some hx small = go (l % 8 == 0 && ends_whole (l + e) w) refl
  where
    v : ℕ
    v = shown r x / 2 ^ l

    none : Making
    none = kept (each (slices_of e) (λ i. slice_at x (i + l / 8)))

    one : Making
    one = one_unit (slices_of e) (λ i. with_right x l i (record plain { table = table_b; mask = top e i }))

    go : (t : Bool) → (l % 8 == 0 && ends_whole (l + e) w) ≡ t → Has r u ((if t then none else one) u).units → shown r ((if t then none else one) u).slices ≡ v % 2 ^ e
    go true is h =
        let both = and_parts (l % 8 == 0) (ends_whole (l + e) w) is in
        let l8 : l % 8 ≡ 0 = eqb-true (l % 8) 0 both.0 in
        let which : (e % 8 ≡ 0) ⊎ (v < 2 ^ e) = elim (or_cases ((l + e) == w) ((l + e) % 8 == 0) both.1) [
          | inl z ↦ (let s : l + e ≡ w = eqb-true (l + e) w z in inr (shr_below (shown r x) e l (subst (λ (k : ℕ). shown r x < 2 ^ k) (omega (arith, s)) small)))
          | inr z ↦ inl (omega (arith, l8, eqb-true ((l + e) % 8) 0 z))
        ] in
        shown_each r (λ i. slice_at x (i + l / 8)) v (slices_of e) (λ i s. byte_is r x (i + l / 8) hx ∙ byte_whole (shown r x) (l / 8) i ∙ ap (λ (k : ℕ). byte_at (shown r x / k) i) (whole_power l l8))
        ∙ whole_bits v e which
    go false is h = unit_shows r u e v (λ i. with_right x l i (record plain { table = table_b; mask = top e i })) some h
        (λ i d s.
        let k : Cell = record plain { table = table_b; mask = top e i } in
        let b : b_byte r (with_right x l i k) ≡ byte_at v i = right_is r x l i k hx in
        ap (λ (n : ℕ). bit_and (looked_up 204 0 n 0) (top e i)) b ∙ ap (λ (n : ℕ). bit_and n (top e i)) (byte_b 0 (byte_at v i) 0 (omega arith) (omega arith)))

-- e bits of a number shifted to the left
pub moved_left_shows : (r : Reading) (u e w k : ℕ) (x : List Slice) → 1 ≤ e → Bytes r x → shown r x < 2 ^ w → Has r u (moved_left e w k x u).units → shown r (moved_left e w k x u).slices ≡ shown r x * 2 ^ k % 2 ^ e
moved_left_shows r u e w k x some hx small = go (k % 8 == 0 && ends_whole e (w + k)) refl
  where
    v : ℕ
    v = shown r x * 2 ^ k

    none : Making
    none = kept (each (slices_of e) (λ i. slice_below x i (k / 8)))

    one : Making
    one = one_unit (slices_of e) (λ i. with_left x k i (record plain { table = table_b; mask = top e i }))

    go : (t : Bool) → (k % 8 == 0 && ends_whole e (w + k)) ≡ t → Has r u ((if t then none else one) u).units → shown r ((if t then none else one) u).slices ≡ v % 2 ^ e
    go true is h =
        let both = and_parts (k % 8 == 0) (ends_whole e (w + k)) is in
        let k8 : k % 8 ≡ 0 = eqb-true (k % 8) 0 both.0 in
        let which : (e % 8 ≡ 0) ⊎ (v < 2 ^ e) = elim (or_cases (e == w + k) (e % 8 == 0) both.1) [
          | inl z ↦ (let s : e ≡ w + k = eqb-true e (w + k) z in inr (subst (λ (j : ℕ). v < 2 ^ j) (sym s) (shl_below (shown r x) w k small)))
          | inr z ↦ inl (eqb-true (e % 8) 0 z)
        ] in
        shown_each r (λ i. slice_below x i (k / 8)) v (slices_of e) (λ i s. below_is r x (k / 8) i hx ∙ ap (λ (m : ℕ). byte_at (shown r x * m) i) (whole_power k k8))
        ∙ whole_bits v e which
    go false is h = unit_shows r u e v (λ i. with_left x k i (record plain { table = table_b; mask = top e i })) some h
        (λ i d s.
        let c : Cell = record plain { table = table_b; mask = top e i } in
        let b : b_byte r (with_left x k i c) ≡ byte_at v i = left_is r x k i c hx in
        ap (λ (n : ℕ). bit_and (looked_up 204 0 n 0) (top e i)) b ∙ ap (λ (n : ℕ). bit_and n (top e i)) (byte_b 0 (byte_at v i) 0 (omega arith) (omega arith)))

-- e bits of one number above those of another
pub concatenated_shows : (r : Reading) (u e : ℕ) (a b : Argument) → 1 ≤ e → Bytes r a.slices → Bytes r b.slices → shown r b.slices < 2 ^ b.form.width → shown r a.slices < 2 ^ a.form.width → Has r u (concatenated e a b u).units → shown r (concatenated e a b u).slices ≡ (shown r a.slices * 2 ^ b.form.width + shown r b.slices) % 2 ^ e
concatenated_shows r u e a b some ha hb low high = go (k % 8 == 0 && ends_whole e (w + k)) refl
  where
    k : ℕ
    k = b.form.width

    w : ℕ
    w = a.form.width

    x : List Slice
    x = a.slices

    y : List Slice
    y = b.slices

    v : ℕ
    v = shown r a.slices * 2 ^ b.form.width + shown r b.slices

    none : Making
    none = kept (each (slices_of e) (λ i. if nat_lt i (b.form.width / 8) then slice_at b.slices i else slice_below a.slices i (b.form.width / 8)))

    one : Making
    one = one_unit (slices_of e) (λ i. with_left a.slices b.form.width i (record plain { a = byte b.slices i; table = table_or; mask = top e i }))

    fits : v < 2 ^ (w + k)
    fits = joined_below (shown r x) (shown r y) w k high low
      where
        joined_below : (m n w k : ℕ) → m < 2 ^ w → n < 2 ^ k → m * 2 ^ k + n < 2 ^ (w + k)
        joined_below m n w k hm hn = subst (λ (p : ℕ). m * 2 ^ k + n < p) (sym (pow-add 2 w k)) (mul-add-lt' m n (2 ^ w) (2 ^ k) hm hn)
          where
            mul-add-lt' : (m n p q : ℕ) → m < p → n < q → m * q + n < p * q
            mul-add-lt' m n p q h l =
                let d : p ≡ m + 1 + (p - m - 1) = omega arith in
                let f : p * q ≡ m * q + q + (p - m - 1) * q = ap (λ (t : ℕ). t * q) d ∙ omega arith in
                omega (arith, f, l)

    place : (q i : ℕ) → shown r y < 256 ^ q → slice_byte r (if nat_lt i q then slice_at y i else slice_below x i q) ≡ byte_at (shown r x * 256 ^ q + shown r y) i
    place q i l = elim (cases_lt i q) [
      | inl s ↦ ap (λ (t : Bool). slice_byte r (if t then slice_at y i else slice_below x i q)) (lt-ltb i q s) ∙ byte_is r y i hb ∙ sym (byte_low (shown r x) (shown r y) q i s)
      | inr g ↦ ap₂ (λ (t z : Bool). slice_byte r (if t then slice_at y i else if z then Slice.Const 0 else slice_at x (i - q))) (le-ltb i q g) (le-ltb i q g) ∙ byte_is r x (i - q) ha ∙ sym (byte_high (shown r x) (shown r y) q i l g)
    ]

    go : (t : Bool) → (k % 8 == 0 && ends_whole e (w + k)) ≡ t → Has r u ((if t then none else one) u).units → shown r ((if t then none else one) u).slices ≡ v % 2 ^ e
    go true is h =
        let both = and_parts (k % 8 == 0) (ends_whole e (w + k)) is in
        let k8 : k % 8 ≡ 0 = eqb-true (k % 8) 0 both.0 in
        let p : 256 ^ (k / 8) ≡ 2 ^ k = whole_power k k8 in
        let l : shown r y < 256 ^ (k / 8) = subst (λ (j : ℕ). shown r y < j) (sym p) low in
        let which : (e % 8 ≡ 0) ⊎ (v < 2 ^ e) = elim (or_cases (e == w + k) (e % 8 == 0) both.1) [
          | inl z ↦ (let s : e ≡ w + k = eqb-true e (w + k) z in inr (subst (λ (j : ℕ). v < 2 ^ j) (sym s) fits))
          | inr z ↦ inl (eqb-true (e % 8) 0 z)
        ] in
        shown_each r (λ i. if nat_lt i (b.form.width / 8) then slice_at b.slices i else slice_below a.slices i (b.form.width / 8)) v (slices_of e) (λ i s. place (k / 8) i l ∙ ap (λ (m : ℕ). byte_at (shown r x * m + shown r y) i) p)
        ∙ whole_bits v e which
    go false is h = unit_shows r u e v (λ i. with_left a.slices b.form.width i (record plain { a = byte b.slices i; table = table_or; mask = top e i })) some h
        (λ i d s.
        let c : Cell = record plain { a = byte b.slices i; table = table_or; mask = top e i } in
        let m : ℕ = shown r x * 2 ^ k in
        let n : ℕ = shown r y in
        let bb : b_byte r (with_left x k i c) ≡ byte_at m i = left_is r x k i c ha in
        let j : bit_or n m ≡ m + n = or_comm n m ∙ or_shifted (shown r x) k n low in
        ap₂ (λ (p q : ℕ). bit_and (looked_up 238 p q 0) (top e i)) (byte_is r y i hb) bb
        ∙ ap (λ (q : ℕ). bit_and q (top e i)) (table_or_is (byte_at n i) (byte_at m i) (omega arith) (omega arith) ∙ sym (byte_or n m i) ∙ ap (λ (q : ℕ). byte_at q i) j))
