-- An operand made wider shows its value, modulo the greater power.
use Rattle.std.proofs.Common.{ℕ, zero, suc, ◌≡◌, ◌+◌, ◌*◌, ◌/◌, ◌%◌, ◌^◌, ◌-◌, ◌<◌, ◌≤◌, ◌==◌, ◌&&◌, nat_lt, Bool, true, false, List, [], ◌∷◌, ◌++◌, length, take, bit_and, bit_or, subst, refl, ap, ap₂, sym, ◌∙◌, pow-add, arith}
use Rattle.std.specs.Bool.{if◌then◌else◌}
use Rattle.std.specs.Int.{bit_at}
use Rattle.std.proofs.Math.Nat.{mod-lt, mod-eq_of_lt, mod-add-div, pow-le-pow_right, mul-sub}
use Rattle.std.proofs.lemmas.Nat.{pow_pos, shr_below, or_comm, or_shifted}
use Rattle.std.proofs.lemmas.Bool.{and_parts, eqb-true, ltb-true, ne_eqb, eq-eqb, ltb-false}
use Rattle.pr_base.specs.Numbers.{byte_at, slices_of, top_mask_of}
use Rattle.pr_base.specs.Pe.{looked_up}
use Rattle.pr_flat.specs.Forms.{value, residue}
use Rattle.pr_net.specs.declared.cells.Slice.{Slice}
use Rattle.pr_net.specs.declared.cells.Wire.{Wire}
use Rattle.pr_net.specs.declared.cells.Cell.{Cell}
use Rattle.pr_net.specs.Reading.{Reading, wire_byte, slice_byte, cell_byte, Has, shown}
use Rattle.pr_cut_units.specs.Cells.{plain, byte, top, table_c, table_a_or_b_and_c}
use Rattle.pr_cut_units.specs.Parts.{Making, one_unit, above}
use Rattle.pr_cut_units.specs.Widening.{Argument, sign_of, widening_cell}
use Rattle.pr_cut_units.proofs.AddMeaning.{Bytes}
use Rattle.pr_cut_units.proofs.Sums.{mod_scaled}
use Rattle.pr_cut_units.proofs.Tables.{byte_c, byte_extended_0, byte_extended_1}
use Rattle.pr_cut_laws.proofs.Digits.{bytes_pow, big_pos, more_bytes, byte_more, byte_first, byte_none, top_upper}
use Rattle.pr_cut_laws.proofs.Shown.{byte_is, bit_is, unit_shows, bytes_tail}
use Rattle.pr_cut_laws.proofs.Plains.{turned_bytes, byte_turned}
use Rattle.pr_cut_laws.proofs.Values.{signed_form, signed_residue}

-- ---- the bytes of a number with ones above
pub ones_byte : (n i : ℕ) → i < n → byte_at (256 ^ n - 1) i ≡ 255
ones_byte n i h =
    let z : 0 % 2 ^ (8 * n) ≡ 0 = mod-eq_of_lt (pow_pos (8 * n)) in
    let e : turned_bytes n 0 ≡ 256 ^ n - 1 = omega (arith, z, bytes_pow n) in
    ap (λ (k : ℕ). byte_at k i) (sym e) ∙ sym (byte_turned n 0 i h) ∙ ap (λ (k : ℕ). 255 - k) (byte_none i)

pow_fits : (i : ℕ) → i ≤ 8 → 2 ^ i ≤ 256
pow_fits i hi = let two : 0 < 2 = omega arith in pow-le-pow_right two hi

-- h has k bits; s is its sign
spread_first : (n k h s : ℕ) → 0 < n → k < 8 → h < 2 ^ k → s < 2 → byte_at (h + s * (256 ^ n - 2 ^ k)) 0 ≡ h + s * (256 - 2 ^ k)
spread_first zero k h s hn hk hh hs = absurd (omega arith)
spread_first (suc n) k h zero hn hk hh hs =
    let f : 2 ^ k ≤ 256 = pow_fits k (omega arith) in
    let e : h + 0 * (256 ^ suc n - 2 ^ k) ≡ h = omega arith in
    ap (λ (j : ℕ). byte_at j 0) e ∙ byte_first h ∙ mod-eq_of_lt (omega (arith, f, hh)) ∙ omega arith
spread_first (suc n) k h (suc zero) hn hk hh hs =
    let f : 2 ^ k ≤ 256 = pow_fits k (omega arith) in
    let some : 0 < 2 ^ k = pow_pos k in
    let m : 256 ^ suc n ≡ 256 * 256 ^ n = more_bytes n in
    let e : h + 1 * (256 ^ suc n - 2 ^ k) ≡ (h + (256 - 2 ^ k)) + 256 * (256 ^ n - 1) = omega (arith, m, big_pos n, f) in
    let r : ((h + (256 - 2 ^ k)) + 256 * (256 ^ n - 1)) % 256 ≡ h + (256 - 2 ^ k) = omega (arith, f, hh, some) in
    byte_first (h + 1 * (256 ^ suc n - 2 ^ k)) ∙ ap (λ (j : ℕ). j % 256) e ∙ r ∙ omega arith
spread_first (suc n) k h (suc (suc s)) hn hk hh hs = absurd (omega arith)

spread_rest : (n k h s i : ℕ) → suc i < n → k < 8 → h < 2 ^ k → s < 2 → byte_at (h + s * (256 ^ n - 2 ^ k)) (suc i) ≡ 255 * s
spread_rest zero k h s i hn hk hh hs = absurd (omega arith)
spread_rest (suc n) k h zero i hn hk hh hs =
    let f : 2 ^ k ≤ 256 = pow_fits k (omega arith) in
    let e : (h + 0 * (256 ^ suc n - 2 ^ k)) / 256 ≡ 0 = omega (arith, f, hh) in
    byte_more (h + 0 * (256 ^ suc n - 2 ^ k)) i ∙ ap (λ (j : ℕ). byte_at j i) e ∙ byte_none i
spread_rest (suc n) k h (suc zero) i hn hk hh hs =
    let f : 2 ^ k ≤ 256 = pow_fits k (omega arith) in
    let some : 0 < 2 ^ k = pow_pos k in
    let m : 256 ^ suc n ≡ 256 * 256 ^ n = more_bytes n in
    let e : (h + 1 * (256 ^ suc n - 2 ^ k)) / 256 ≡ 256 ^ n - 1 = omega (arith, m, big_pos n, f, hh, some) in
    byte_more (h + 1 * (256 ^ suc n - 2 ^ k)) i ∙ ap (λ (j : ℕ). byte_at j i) e ∙ ones_byte n i (omega (arith, hn))
spread_rest (suc n) k h (suc (suc s)) i hn hk hh hs = absurd (omega arith)

-- ones above k bits
or_fill : (k h : ℕ) → k ≤ 8 → h < 2 ^ k → bit_or h (256 - 2 ^ k) ≡ h + (256 - 2 ^ k)
or_fill k h hk hh =
    let e : (8 - k) + k ≡ 8 = omega arith in
    let p : 2 ^ (8 - k) * 2 ^ k ≡ 256 = sym (pow-add 2 (8 - k) k) ∙ ap (λ (j : ℕ). 2 ^ j) e in
    let one : 2 ^ (8 - k) - 1 + 1 ≡ 2 ^ (8 - k) = omega (arith, pow_pos (8 - k)) in
    let q : (2 ^ (8 - k) - 1 + 1) * 2 ^ k ≡ 256 = ap (λ (j : ℕ). j * 2 ^ k) one ∙ p in
    let d : 256 - 2 ^ k ≡ (2 ^ (8 - k) - 1) * 2 ^ k = omega (arith, q) in
    ap (bit_or h) d ∙ or_comm h ((2 ^ (8 - k) - 1) * 2 ^ k) ∙ or_shifted (2 ^ (8 - k) - 1) k h hh ∙ omega (arith, d)

fill_byte : (s k h b : ℕ) → s < 2 → k < 8 → h < 2 ^ k → b ≡ 256 - 2 ^ k → looked_up 234 h b s ≡ h + s * (256 - 2 ^ k)
fill_byte zero k h b hs hk hh e = byte_extended_0 h b (omega (arith, hh, pow_fits k (omega arith))) ∙ omega arith
fill_byte (suc zero) k h b hs hk hh e = byte_extended_1 h b (omega (arith, hh, pow_fits k (omega arith))) (omega (arith, e, pow_pos k)) ∙ ap (bit_or h) e ∙ or_fill k h (omega arith) hh ∙ omega arith
fill_byte (suc (suc s)) k h b hs hk hh e = absurd (omega arith)

fill_is : (v : ℕ) → 0 < v % 8 → 255 - top_mask_of v ≡ 256 - 2 ^ (v % 8)
fill_is v h = ap (λ (t : Bool). 255 - (if t then 255 else 2 ^ (v % 8) - 1)) (ne_eqb (v % 8) 0 (λ e. absurd (omega (arith, h, e)))) ∙ omega (arith, pow_pos (v % 8))

-- ---- parts of values
pub shown-append : (r : Reading) (x y : List Slice) → shown r (x ++ y) ≡ shown r x + 256 ^ length x * shown r y
shown-append r [] y = omega arith
shown-append r (s ∷ x) y =
    let e : 256 ^ suc (length x) * shown r y ≡ 256 * (256 ^ length x * shown r y) = ap (λ (k : ℕ). k * shown r y) (more_bytes (length x)) ∙ omega arith in
    ap (λ (k : ℕ). slice_byte r s + 256 * k) (shown-append r x y) ∙ omega (arith, e)

pub taken_shown : (r : Reading) (k : ℕ) (x : List Slice) → Bytes r x → shown r (take k x) ≡ shown r x % 256 ^ k
taken_shown r zero x h = omega arith
taken_shown r (suc k) [] h = sym (mod-eq_of_lt (big_pos (suc k)))
taken_shown r (suc k) (s ∷ x) h =
    let small : slice_byte r s < 256 = h.at 0 in
    ap (λ (i : ℕ). slice_byte r s + 256 * i) (taken_shown r k x (bytes_tail r s x h)) ∙ sym (mod_scaled (slice_byte r s) 256 (shown r x) (256 ^ k) small (big_pos k)) ∙ ap (λ (i : ℕ). (slice_byte r s + 256 * shown r x) % i) (sym (more_bytes k))

pub length-taken : (k : ℕ) (x : List Slice) → k ≤ length x → length (take k x) ≡ k
length-taken zero x h = refl
length-taken (suc k) [] h = absurd (omega arith)
length-taken (suc k) (s ∷ x) h = ap suc (length-taken k x (omega arith))

-- ---- Widen
spread : (y b h s p q w z a : ℕ) → s < 2 → b * p ≡ w → b * q ≡ z → y + b * h ≡ a → y + b * (h + s * (p - q)) ≡ a + s * (w - z)
spread y b h zero p q w z a hs e1 e2 e3 = omega (arith, e3)
spread y b h (suc zero) p q w z a hs e1 e2 e3 =
    let d : b * (p - q) ≡ w - z = mul-sub b p q ∙ ap₂ (λ (i j : ℕ). i - j) e1 e2 in
    let o : b * (h + 1 * (p - q)) ≡ b * h + b * (p - q) = omega arith in
    omega (arith, d, o, e3)
spread y b h (suc (suc s)) p q w z a hs e1 e2 e3 = absurd (omega arith)

-- the cells above an operand's whole bytes
cell_is : (r : Reading) (a : Argument) (t i d : ℕ) → 1 ≤ a.form.width → a.form.width < t → Bytes r a.slices → shown r a.slices < 2 ^ a.form.width → i < slices_of t - a.form.width / 8
    → cell_byte r (widening_cell a t (a.form.width / 8 + i)) d ≡ bit_and (byte_at (shown r a.slices / 256 ^ (a.form.width / 8) + bit_at (shown r a.slices) (a.form.width - 1) * (256 ^ (slices_of t - a.form.width / 8) - 2 ^ (a.form.width % 8))) i) (top t (a.form.width / 8 + i))
cell_is r a t i d hv vt hb l hi = go (f + i == f && nat_lt 0 k) refl
  where
    v : ℕ
    v = a.form.width

    f : ℕ
    f = a.form.width / 8

    k : ℕ
    k = a.form.width % 8

    x : ℕ
    x = shown r a.slices

    s : ℕ
    s = bit_at x (v - 1)

    h : ℕ
    h = x / 256 ^ f

    n : ℕ
    n = slices_of t - f

    m : ℕ
    m = top t (f + i)

    hs : s < 2
    hs = omega arith

    hk : k < 8
    hk = omega arith

    high : h < 2 ^ k
    high =
        let w : k + 8 * f ≡ v = omega arith in
        subst (λ (j : ℕ). x / j < 2 ^ k) (sym (bytes_pow f)) (shr_below x k (8 * f) (subst (λ (j : ℕ). x < 2 ^ j) (sym w) l))

    sign : bit_at (wire_byte r (byte a.slices ((v - 1) / 8))) ((v - 1) % 8) ≡ s
    sign = bit_is r a.slices (v - 1) hb

    flat : (i : ℕ) → i < n → ((f + i == f && nat_lt 0 k) ≡ false) → 255 * s ≡ byte_at (h + s * (256 ^ n - 2 ^ k)) i
    flat zero g is =
        let z : k ≡ 0 = no_bits (f + 0 == f) (eq-eqb (f + 0) f (omega arith)) is in
        let p : 2 ^ k ≡ 1 = ap (λ (j : ℕ). 2 ^ j) z in
        let none : h ≡ 0 = omega (arith, high, p) in
        sym (spread_first n k h s g hk high hs ∙ ap₂ (λ (i j : ℕ). i + s * (256 - j)) none p ∙ omega arith)
      where
        no_bits : (t : Bool) → t ≡ true → (t && nat_lt 0 k) ≡ false → k ≡ 0
        no_bits true e is = omega (arith, ltb-false 0 k is)
        no_bits false e is = absurd (grind (arith, e))
    flat (suc i) g is = sym (spread_rest n k h s i g hk high hs)

    go : (t' : Bool) → (f + i == f && nat_lt 0 k) ≡ t' → cell_byte r (if t' then record plain { a = byte a.slices (f + i); hi = Wire.Const (255 - top_mask_of a.form.width); c = sign_of a; table = table_a_or_b_and_c; mask = top t (f + i) } else record plain { c = sign_of a; table = table_c; mask = top t (f + i) }) d ≡ bit_and (byte_at (h + s * (256 ^ n - 2 ^ k)) i) m
    go true is =
        let both = and_parts (f + i == f) (nat_lt 0 k) is in
        let z : i ≡ 0 = omega (arith, eqb-true (f + i) f both.0) in
        let g : f + i ≡ f = omega (arith, z) in
        let some : 0 < n = omega (arith, hi) in
        let a_is : wire_byte r (byte a.slices (f + i)) ≡ h = ap (λ (j : ℕ). wire_byte r (byte a.slices j)) g ∙ byte_is r a.slices f hb ∙ mod-eq_of_lt (omega (arith, high, pow_fits k (omega arith))) in
        ap₂ (λ (p q : ℕ). bit_and (looked_up 234 p (255 - top_mask_of v) q) m) a_is sign
        ∙ ap (λ (p : ℕ). bit_and p m) (fill_byte s k h (255 - top_mask_of v) hs hk high (fill_is v (ltb-true 0 k both.1)) ∙ sym (spread_first n k h s some hk high hs) ∙ ap (byte_at (h + s * (256 ^ n - 2 ^ k))) (sym z))
    go false is = ap (λ (q : ℕ). bit_and (looked_up 240 0 0 q) m) sign ∙ ap (λ (p : ℕ). bit_and p m) (byte_c 0 0 s (omega arith) ∙ flat i hi is)

-- an operand of v bits
pub record IsOperand (r : Reading) (x : List Slice) (v : ℕ) : Type 0 where
  pub some : 1 ≤ v
  pub count : v / 8 ≤ length x
  pub bytes : Bytes r x
  pub below : shown r x < 2 ^ v

-- a signed operand, as it is made wider
abbrev pub wide_part : Argument → ℕ → Making
wide_part a t = above (take (a.form.width / 8) a.slices) (one_unit (slices_of t - a.form.width / 8) (λ i. widening_cell a t (a.form.width / 8 + i)))

pub widen_shows : (r : Reading) (u t : ℕ) (a : Argument) → IsOperand r a.slices a.form.width → a.form.width < t → Has r u (wide_part a t u).units → shown r (wide_part a t u).slices ≡ residue t (value (signed_form a.form.width) (shown r a.slices))
widen_shows r u t a o vt has =
    let v : ℕ = a.form.width in
    let x : ℕ = shown r a.slices in
    let f : ℕ = v / 8 in
    let k : ℕ = v % 8 in
    let n : ℕ = slices_of t - f in
    let s : ℕ = bit_at x (v - 1) in
    let h : ℕ = x / 256 ^ f in
    let w : ℕ = h + s * (256 ^ n - 2 ^ k) in
    let e : ℕ = t - 8 * f in
    let lf : 8 * f < t = omega (arith, vt) in
    let ne : n ≡ slices_of e = omega (arith, lf) in
    let cell : ℕ → Cell = λ i. widening_cell a t (f + i) in
    let P : ℕ → Type 0 = λ j. Has r u (one_unit j cell u).units in
    let here : Has r u (one_unit (slices_of e) cell u).units = subst P ne has in
    let up : shown r (one_unit n cell u).slices ≡ w % 2 ^ e = ap (λ j. shown r (one_unit j cell u).slices) ne ∙ unit_shows r u e w cell (omega (arith, lf)) here (λ i d l. cell_is r a t i d o.some vt o.bytes o.below (omega (arith, l, ne)) ∙ ap (bit_and (byte_at w i)) (top_upper t f i lf)) in
    let low : shown r (take f a.slices) ≡ x % 256 ^ f = taken_shown r f a.slices o.bytes in
    let lt : length (take f a.slices) ≡ f = length-taken f a.slices o.count in
    let m : ℕ = 2 ^ e in
    let both : shown r (take f a.slices ++ (one_unit n cell u).slices) ≡ x % 256 ^ f + 256 ^ f * (w % m) = shown-append r (take f a.slices) (one_unit n cell u).slices ∙ ap₂ (λ (p q : ℕ). p + 256 ^ length (take f a.slices) * q) low up ∙ ap (λ (i : ℕ). x % 256 ^ f + 256 ^ i * (w % m)) lt in
    let scaled : x % 256 ^ f + 256 ^ f * (w % m) ≡ (x % 256 ^ f + 256 ^ f * w) % (256 ^ f * m) = sym (mod_scaled (x % 256 ^ f) (256 ^ f) w m (mod-lt x (big_pos f)) (pow_pos e)) in
    let big : ℕ = 8 * slices_of t in
    let p1 : 256 ^ f * 256 ^ n ≡ 2 ^ big = ap₂ (λ (i q : ℕ). i * q) (bytes_pow f) (bytes_pow n) ∙ sym (pow-add 2 (8 * f) (8 * n)) ∙ ap (λ (i : ℕ). 2 ^ i) (omega (arith, lf)) in
    let p2 : 256 ^ f * 2 ^ k ≡ 2 ^ v = ap (λ (i : ℕ). i * 2 ^ k) (bytes_pow f) ∙ sym (pow-add 2 (8 * f) k) ∙ ap (λ (i : ℕ). 2 ^ i) (omega arith) in
    let p3 : 256 ^ f * m ≡ 2 ^ t = ap (λ (i : ℕ). i * m) (bytes_pow f) ∙ sym (pow-add 2 (8 * f) e) ∙ ap (λ (i : ℕ). 2 ^ i) (omega (arith, lf)) in
    let parts : x % 256 ^ f + 256 ^ f * h ≡ x = mod-add-div x (256 ^ f) in
    let whole : x % 256 ^ f + 256 ^ f * w ≡ x + s * (2 ^ big - 2 ^ v) = spread (x % 256 ^ f) (256 ^ f) h s (256 ^ n) (2 ^ k) (2 ^ big) (2 ^ v) x (omega arith) p1 p2 parts in
    both ∙ scaled ∙ ap₂ (λ (p q : ℕ). p % q) whole p3 ∙ signed_residue v t big x o.some (omega (arith, vt)) (omega arith) o.below
