-- Inputs show the numbers of the samples.
use Rattle.std.proofs.Common.{ℕ, zero, suc, ◌≡◌, ◌+◌, ◌/◌, ◌^◌, ◌<◌, ◌≤◌, Bool, true, false, cond, Option, Some, unwrap_or, List, [], ◌∷◌, ◌++◌, length, take, get_or, bit_and, subst, refl, ap, sym, ◌∙◌, arith}
use Rattle.std.specs.List.{slice_get}
use Rattle.std.specs.Prelude.{count_by}
use Rattle.std.proofs.Math.Nat.{mod-eq_of_lt}
use Rattle.std.proofs.lemmas.List.{get_or_append_left}
use Rattle.std.proofs.lemmas.List.Sums.{sum_by-cons}
use Rattle.std.proofs.lemmas.Nat.{pow_pos}
use Rattle.pr_base.specs.Numbers.{byte_at, bytes_of, slices_of}
use Rattle.pr_base.specs.Rows.{row_bytes}
use Rattle.pr_base.proofs.RowLemmas.{length-bytes_of}
use Rattle.pr_flat.specs.declared.equations.Op.{Op}
use Rattle.pr_flat.specs.Shape.{EquationShape}
use Rattle.pr_flat.specs.Facts.{is_input}
use Rattle.pr_flat.specs.Values.{input_widths}
use Rattle.pr_net.specs.declared.cells.Wire.{Wire}
use Rattle.pr_net.specs.Reading.{Reading, wire_byte, Has, shown}
use Rattle.pr_net.specs.Runs.{AreBytes}
use Rattle.pr_cut_units.specs.Cells.{plain, top, table_a}
use Rattle.pr_cut_units.specs.Parts.{one_unit}
use Rattle.pr_cut_units.specs.Equations.{input_units}
use Rattle.pr_cut_units.proofs.Tables.{byte_a}
use Rattle.pr_cut_laws.proofs.Digits.{byte_none, byte_first, byte_more}
use Rattle.pr_cut_laws.proofs.Shown.{unit_shows}
use Rattle.pr_cut_laws.proofs.Holds.{unit_slices}

byte_of_bytes : (k n i : ℕ) → i < k → get_or (bytes_of k n) i 0 ≡ byte_at n i
byte_of_bytes zero n i h = absurd (omega (arith, h))
byte_of_bytes (suc k) n zero h = sym (byte_first n)
byte_of_bytes (suc k) n (suc i) h = byte_of_bytes k (n / 256) i (omega (arith, h)) ∙ sym (byte_more n i)

past_front : (xs ys : List ℕ) (n k : ℕ) → length xs ≡ n → get_or (xs ++ ys) (n + k) 0 ≡ get_or ys k 0
past_front [] ys n k h = let z : n + k ≡ k = omega (arith, h) in ap (λ (j : ℕ). get_or ys j 0) z
past_front (x ∷ xs) ys zero k h = absurd (omega (arith, h))
past_front (x ∷ xs) ys (suc n) k h =
    let z : suc n + k ≡ suc (n + k) = omega arith in
    ap (λ (j : ℕ). get_or (x ∷ (xs ++ ys)) j 0) z ∙ past_front xs ys n k (omega (arith, h))

-- the sample's bytes from this offset on are those of a row
pub record Stands (r : Reading) (offset : ℕ) (bytes : List ℕ) : Type 0 where
  pub at : (k : ℕ) → get_or r.bus (offset + k) 0 ≡ get_or bytes k 0

-- a row that has a number below 2 to the power of its width for each width, or lacks numbers, which then are 0
abbrev pub FitsRow : List ℕ → List ℕ → Type 0
FitsRow [] row = Unit {0}
FitsRow (w ∷ widths) [] = (1 ≤ w) × FitsRow widths []
FitsRow (w ∷ widths) (n ∷ row) = ((1 ≤ w) × (n < 2 ^ w)) × FitsRow widths row

unit_of_input : (r : Reading) (u w offset n : ℕ) (rest : List ℕ) → 1 ≤ w → n < 2 ^ w → AreBytes r → Stands r offset (bytes_of (slices_of w) n ++ rest) → Has r u (one_unit (slices_of w) (λ i. record plain { a = Wire.Bus (offset + i); table = table_a; mask = top w i }) u).units → shown r (unit_slices w u) ≡ n
unit_of_input r u w offset n rest some small b s h =
    unit_shows r u w n (λ i. record plain { a = Wire.Bus (offset + i); table = table_a; mask = top w i }) some h
    (λ i d l. ap (λ (k : ℕ). bit_and k (top w i)) (byte_a (wire_byte r (Wire.Bus (offset + i))) 0 0 (b.bus (offset + i)) (omega arith) ∙ s.at i ∙ get_or_append_left (bytes_of (slices_of w) n) rest 0 i (omega (arith, l, length-bytes_of (slices_of w) n)) ∙ byte_of_bytes (slices_of w) n i l))
    ∙ mod-eq_of_lt small

zero_input : (r : Reading) (u w offset : ℕ) → 1 ≤ w → AreBytes r → Stands r offset [] → Has r u (one_unit (slices_of w) (λ i. record plain { a = Wire.Bus (offset + i); table = table_a; mask = top w i }) u).units → shown r (unit_slices w u) ≡ 0
zero_input r u w offset some b s h =
    unit_shows r u w 0 (λ i. record plain { a = Wire.Bus (offset + i); table = table_a; mask = top w i }) some h
    (λ i d l. ap (λ (k : ℕ). bit_and k (top w i)) (byte_a (wire_byte r (Wire.Bus (offset + i))) 0 0 (b.bus (offset + i)) (omega arith) ∙ s.at i ∙ sym (byte_none i)))
    ∙ mod-eq_of_lt (pow_pos w)

-- input j shows number j of the row
pub input_shows : (r : Reading) (u offset : ℕ) (widths row : List ℕ) (j : ℕ) → j < length widths → AreBytes r → FitsRow widths row → Stands r offset (row_bytes widths row) → Has r u (input_units offset widths) → shown r (unit_slices (get_or widths j 0) (u + j)) ≡ get_or row j 0
input_shows r u offset [] row j l b f s h = absurd (omega (arith, l))
input_shows r u offset (w ∷ widths) [] zero l b f s h =
    let z : u + 0 ≡ u = omega arith in
    ap (λ (k : ℕ). shown r (unit_slices w k)) z ∙ zero_input r u w offset f.0 b s (h.0, tt)
input_shows r u offset (w ∷ widths) (n ∷ row) zero l b f s h =
    let z : u + 0 ≡ u = omega arith in
    ap (λ (k : ℕ). shown r (unit_slices w k)) z ∙ unit_of_input r u w offset n (row_bytes widths row) f.0.0 f.0.1 b s (h.0, tt)
input_shows r u offset (w ∷ widths) [] (suc j) l b f s h =
    let z : u + suc j ≡ suc u + j = omega arith in
    let none : Stands r (offset + slices_of w) (row_bytes widths []) = record { at = λ k. (let q : (offset + slices_of w) + k ≡ offset + (slices_of w + k) = omega arith in ap (λ (i : ℕ). get_or r.bus i 0) q ∙ s.at (slices_of w + k) ∙ sym (no_bytes widths k)) } in
    ap (λ (k : ℕ). shown r (unit_slices (get_or widths j 0) k)) z ∙ input_shows r (suc u) (offset + slices_of w) widths [] j (omega (arith, l)) b f.1 none h.1
  where
    no_bytes : (ws : List ℕ) (k : ℕ) → get_or (row_bytes ws []) k 0 ≡ 0
    no_bytes [] k = refl
    no_bytes (w ∷ ws) k = refl
input_shows r u offset (w ∷ widths) (n ∷ row) (suc j) l b f s h =
    let z : u + suc j ≡ suc u + j = omega arith in
    let rest : Stands r (offset + slices_of w) (row_bytes widths row) = record { at = λ k. (let q : (offset + slices_of w) + k ≡ offset + (slices_of w + k) = omega arith in ap (λ (i : ℕ). get_or r.bus i 0) q ∙ s.at (slices_of w + k) ∙ past_front (bytes_of (slices_of w) n) (row_bytes widths row) (slices_of w) k (length-bytes_of (slices_of w) n)) } in
    ap (λ (k : ℕ). shown r (unit_slices (get_or widths j 0) k)) z ∙ input_shows r (suc u) (offset + slices_of w) widths row j (omega (arith, l)) b f.1 rest h.1

-- ---- which of the inputs equation i is
-- the width of the input that equation i is, and that it is one of the inputs
pub record InputIn (widths : List ℕ) (c w : ℕ) : Type 0 where
  pub within : c < length widths
  pub is : get_or widths c 0 ≡ w

abbrev pub InputAt : List EquationShape → ℕ → ℕ → Type 0
InputAt equations i w = InputIn (input_widths equations) (count_by (λ (e : EquationShape). is_input e.op) (take i equations)) w

pub input_at : (equations : List EquationShape) (i w : ℕ) (e : EquationShape) → slice_get equations i ≡ Some e → e.op ≡ Op.Input → e.declared ≡ Some w → InputAt equations i w
input_at [] i w e there op given = cc
input_at (d ∷ equations) zero w e there op given =
    let same : d ≡ e = cc in
    let is : is_input d.op ≡ true = ap (λ (x : EquationShape). is_input x.op) same ∙ ap is_input op in
    let width : unwrap_or d.declared 0 ≡ w = ap (λ (x : EquationShape). unwrap_or x.declared 0) same ∙ ap (λ (o : Option ℕ). unwrap_or o 0) given in
    let P : Bool → Type 0 = λ b. 0 < length (cond b (unwrap_or d.declared 0 ∷ input_widths equations) (input_widths equations)) in
    let Q : Bool → Type 0 = λ b. get_or (cond b (unwrap_or d.declared 0 ∷ input_widths equations) (input_widths equations)) 0 0 ≡ w in
    record { within = subst P (sym is) (omega arith); is = subst Q (sym is) width }
input_at (d ∷ equations) (suc i) w e there op given =
    let t : InputAt equations i w = input_at equations i w e there op given in
    let counted : EquationShape → ℕ = λ x. cond (is_input x.op) 1 0 in
    let more : count_by (λ (x : EquationShape). is_input x.op) (d ∷ take i equations) ≡ cond (is_input d.op) 1 0 + count_by (λ (x : EquationShape). is_input x.op) (take i equations) = sum_by-cons counted d (take i equations) in
    by (is_input d.op) (count_by (λ (x : EquationShape). is_input x.op) (take i equations)) t.within t.is more
  where
    by : (b : Bool) (c : ℕ) → c < length (input_widths equations) → get_or (input_widths equations) c 0 ≡ w → count_by (λ (x : EquationShape). is_input x.op) (d ∷ take i equations) ≡ cond b 1 0 + c → InputIn (cond b (unwrap_or d.declared 0 ∷ input_widths equations) (input_widths equations)) (count_by (λ (x : EquationShape). is_input x.op) (d ∷ take i equations)) w
    by true c l is more = let z : count_by (λ (x : EquationShape). is_input x.op) (d ∷ take i equations) ≡ suc c = omega (arith, more) in record { within = omega (arith, z, l); is = ap (λ (k : ℕ). get_or (unwrap_or d.declared 0 ∷ input_widths equations) k 0) z ∙ is }
    by false c l is more = let z : count_by (λ (x : EquationShape). is_input x.op) (d ∷ take i equations) ≡ c = omega (arith, more) in record { within = omega (arith, z, l); is = ap (λ (k : ℕ). get_or (input_widths equations) k 0) z ∙ is }
