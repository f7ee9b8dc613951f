-- Units with state.
use Rattle.std.proofs.Common.{ℕ, zero, suc, ◌≡◌, ◌+◌, ◌*◌, ◌%◌, ◌^◌, ◌<◌, ◌≤◌, List, [], map, get_or, bit_and, refl, ap, ap₂, ◌∙◌, arith}
use Rattle.std.specs.List.{range_with_len}
use Rattle.std.proofs.Math.Nat.{mod-eq_of_lt, pow-le-pow_right}
use Rattle.std.proofs.lemmas.Nat.{and_mask}
use Rattle.pr_base.specs.Numbers.{byte_at, slices_of}
use Rattle.pr_base.specs.Pe.{next_state}
use Rattle.pr_base.specs.declared.choices.Next.{Next}
use Rattle.pr_net.specs.declared.cells.Slice.{Slice}
use Rattle.pr_net.specs.declared.cells.Wire.{Wire}
use Rattle.pr_net.specs.declared.cells.Cell.{Cell}
use Rattle.pr_net.specs.Reading.{Reading, wire_byte, slice_byte, outs, shown}
use Rattle.pr_net.specs.Runs.{next_states, unit_inits, AreBytes}
use Rattle.pr_cut_units.specs.Cells.{plain, byte, top, table_b}
use Rattle.pr_cut_units.specs.Parts.{each}
use Rattle.pr_cut_units.specs.States.{hold_cell, later_cell, past_slices}
use Rattle.pr_cut_units.proofs.AddMeaning.{Bytes}
use Rattle.pr_cut_units.proofs.Tables.{byte_a, byte_b}
use Rattle.pr_cut_laws.proofs.Digits.{bytes_pow}
use Rattle.pr_cut_laws.proofs.Shown.{byte_is, shown_each, unit_byte, unit_shows}

-- a unit's cells, in a run
pub record Stays (v : ℕ → Reading) (u : ℕ) (ks : List Cell) : Type 0 where
  pub row : (n : ℕ) → get_or (v n).rows u [] ≡ outs (v n) ks 0
  pub start : get_or (v 0).states u [] ≡ unit_inits ks
  pub next : (n : ℕ) → get_or (v (suc n)).states u [] ≡ next_states (v n) u 0 ks

init_from : (cell : ℕ → Cell) (a n i : ℕ) → i < n → get_or (unit_inits (map cell (range_with_len a n))) i 0 ≡ (cell (a + i)).init
init_from cell a zero i h = absurd (omega arith)
init_from cell a (suc n) zero h = ap (λ (k : ℕ). (cell k).init) (omega arith)
init_from cell a (suc n) (suc i) h = init_from cell (a + 1) n i (omega (arith, h)) ∙ ap (λ (k : ℕ). (cell k).init) (omega arith)

next_from : (r : Reading) (u b : ℕ) (cell : ℕ → Cell) (a n i : ℕ) → i < n → get_or (next_states r u b (map cell (range_with_len a n))) i 0 ≡ next_state (cell (a + i)).next (wire_byte r (Wire.State u (b + i))) (wire_byte r (Wire.Of u (b + i))) (wire_byte r (cell (a + i)).a)
next_from r u b cell a zero i h = absurd (omega arith)
next_from r u b cell a (suc n) zero h =
    let p : a ≡ a + 0 = omega arith in
    let q : b ≡ b + 0 = omega arith in
    ap₂ (λ (k j : ℕ). next_state (cell k).next (wire_byte r (Wire.State u j)) (wire_byte r (Wire.Of u j)) (wire_byte r (cell k).a)) p q
next_from r u b cell a (suc n) (suc i) h =
    let p : (a + 1) + i ≡ a + suc i = omega arith in
    let q : suc b + i ≡ b + suc i = omega arith in
    next_from r u (suc b) cell (a + 1) n i (omega (arith, h)) ∙ ap₂ (λ (k j : ℕ). next_state (cell k).next (wire_byte r (Wire.State u j)) (wire_byte r (Wire.Of u j)) (wire_byte r (cell k).a)) p q

start_at : (v : ℕ → Reading) (u n : ℕ) (cell : ℕ → Cell) (i : ℕ) → Stays v u (each n cell) → i < n → wire_byte (v 0) (Wire.State u i) ≡ (cell i).init
start_at v u n cell i s l = ap (λ (row : List ℕ). get_or row i 0) s.start ∙ init_from cell 0 n i l ∙ ap (λ (k : ℕ). (cell k).init) (omega arith)

next_at : (v : ℕ → Reading) (u n : ℕ) (cell : ℕ → Cell) (m i : ℕ) → Stays v u (each n cell) → i < n → wire_byte (v (suc m)) (Wire.State u i) ≡ next_state (cell i).next (wire_byte (v m) (Wire.State u i)) (wire_byte (v m) (Wire.Of u i)) (wire_byte (v m) (cell i).a)
next_at v u n cell m i s l =
    let z : 0 + i ≡ i = omega arith in
    ap (λ (row : List ℕ). get_or row i 0) (s.next m) ∙ next_from (v m) u 0 cell 0 n i l ∙ ap (λ (k : ℕ). next_state (cell k).next (wire_byte (v m) (Wire.State u k)) (wire_byte (v m) (Wire.Of u k)) (wire_byte (v m) (cell k).a)) z

-- slices that read alike
same_from : (r q : Reading) (f g : ℕ → Slice) (a n : ℕ) → ((i : ℕ) → i < a + n → slice_byte r (f i) ≡ slice_byte q (g i)) → shown r (map f (range_with_len a n)) ≡ shown q (map g (range_with_len a n))
same_from r q f g a zero h = refl
same_from r q f g a (suc n) h = ap₂ (λ (b m : ℕ). b + 256 * m) (h a (omega arith)) (same_from r q f g (a + 1) n (λ i l. h i (omega (arith, l))))

pub same_shown : (r q : Reading) (f g : ℕ → Slice) (n : ℕ) → ((i : ℕ) → i < n → slice_byte r (f i) ≡ slice_byte q (g i)) → shown r (each n f) ≡ shown q (each n g)
same_shown r q f g n h = same_from r q f g 0 n (λ i l. h i (omega (arith, l)))

abbrev pub unit_slices : ℕ → ℕ → List Slice
unit_slices w u = each (slices_of w) (λ i. Slice.Of u i)

pub bytes_hold : (w x : ℕ) → x < 2 ^ w → x < 256 ^ slices_of w
bytes_hold w x h =
    let two : 0 < 2 = omega arith in
    let more : 2 ^ w ≤ 2 ^ (8 * slices_of w) = pow-le-pow_right two (omega arith) in
    omega (arith, h, more, bytes_pow (slices_of w))

-- the first states are the bytes of a number
starts_as : (v : ℕ → Reading) (u w c : ℕ) (cell : ℕ → Cell) → c < 2 ^ w → ((i : ℕ) → (cell i).init ≡ byte_at c i) → Stays v u (each (slices_of w) cell) → shown (v 0) (past_slices w u) ≡ c
starts_as v u w c cell small h s = shown_each (v 0) (λ i. Slice.State u i) c (slices_of w) (λ i l. start_at v u (slices_of w) cell i s l ∙ h i) ∙ mod-eq_of_lt (bytes_hold w c small)

-- what a unit holds
pub record HoldsOn (v : ℕ → Reading) (w c u : ℕ) : Type 0 where
  pub starts : shown (v 0) (past_slices w u) ≡ c
  pub keeps : (n : ℕ) → shown (v (suc n)) (past_slices w u) ≡ shown (v n) (unit_slices w u)

-- hold unit 1
pub first_holds : (v : ℕ → Reading) (w c u : ℕ) (x : List Slice) → c < 2 ^ w → Stays v u (each (slices_of w) (hold_cell w c x)) → HoldsOn v w c u
first_holds v w c u x small s = record {
  starts = starts_as v u w c (hold_cell w c x) small (λ i. refl) s;
  keeps = λ n. same_shown (v (suc n)) (v n) (λ i. Slice.State u i) (λ i. Slice.Of u i) (slices_of w) (λ i l. next_at v u (slices_of w) (hold_cell w c x) n i s l);
}

pub first_shows : (v : ℕ → Reading) (w c u n : ℕ) (x : List Slice) → 1 ≤ w → Bytes (v n) x → Stays v u (each (slices_of w) (hold_cell w c x)) → shown (v n) (unit_slices w u) ≡ shown (v n) x % 2 ^ w
first_shows v w c u n x some hx s =
    unit_shows (v n) u w (shown (v n) x) (hold_cell w c x) some (s.row n, tt)
    (λ i d l. ap (λ (k : ℕ). bit_and k (top w i)) (byte_a (wire_byte (v n) (byte x i)) 0 0 (hx.at i) (omega arith) ∙ byte_is (v n) x i hx))

-- a later one
pub later_holds : (v : ℕ → Reading) (w c u before : ℕ) → c < 2 ^ w → Stays v u (each (slices_of w) (later_cell c before)) → HoldsOn v w c u
later_holds v w c u before small s = record {
  starts = starts_as v u w c (later_cell c before) small (λ i. refl) s;
  keeps = λ n. same_shown (v (suc n)) (v n) (λ i. Slice.State u i) (λ i. Slice.Of u i) (slices_of w) (λ i l. next_at v u (slices_of w) (later_cell c before) n i s l);
}

whole_byte : (x : ℕ) → x < 256 → bit_and x 255 ≡ x
whole_byte x h = and_mask x 8 ∙ mod-eq_of_lt h

pub later_shows : (v : ℕ → Reading) (w c u before n : ℕ) → AreBytes (v n) → Stays v u (each (slices_of w) (later_cell c before)) → shown (v n) (unit_slices w u) ≡ shown (v n) (past_slices w before)
later_shows v w c u before n b s = same_shown (v n) (v n) (λ i. Slice.Of u i) (λ i. Slice.State before i) (slices_of w)
    (λ i l. unit_byte (v n) u (slices_of w) (later_cell c before) i (wire_byte (v n) (Wire.State before i)) (s.row n, tt) l
    (λ d. ap (λ (k : ℕ). bit_and k 255) (byte_a (wire_byte (v n) (Wire.State before i)) 0 0 (b.states before i) (omega arith)) ∙ whole_byte (wire_byte (v n) (Wire.State before i)) (b.states before i)))

-- a delay
pub record DelaysOn (v : ℕ → Reading) (w c u : ℕ) (x : List Slice) : Type 0 where
  pub shows : (n : ℕ) → AreBytes (v n) → shown (v n) (unit_slices w u) ≡ shown (v n) (past_slices w u)
  pub starts : shown (v 0) (past_slices w u) ≡ c
  pub keeps : (n : ℕ) → Bytes (v n) x → shown (v n) x < 2 ^ w → shown (v (suc n)) (past_slices w u) ≡ shown (v n) x

abbrev pub delay_cell : ℕ → ℕ → List Slice → ℕ → Cell
delay_cell c u x i = record plain { a = byte x i; hi = Wire.State u i; table = table_b; next = Next.A; init = byte_at c i }

pub delay_holds : (v : ℕ → Reading) (w c u : ℕ) (x : List Slice) → c < 2 ^ w → Stays v u (each (slices_of w) (delay_cell c u x)) → DelaysOn v w c u x
delay_holds v w c u x small s = record {
  shows = λ n b. same_shown (v n) (v n) (λ i. Slice.Of u i) (λ i. Slice.State u i) (slices_of w)
      (λ i l. unit_byte (v n) u (slices_of w) (delay_cell c u x) i (wire_byte (v n) (Wire.State u i)) (s.row n, tt) l
      (λ d. ap (λ (k : ℕ). bit_and k 255) (byte_b (wire_byte (v n) (byte x i)) (wire_byte (v n) (Wire.State u i)) 0 (b.states u i) (omega arith)) ∙ whole_byte (wire_byte (v n) (Wire.State u i)) (b.states u i)));
  starts = starts_as v u w c (delay_cell c u x) small (λ i. refl) s;
  keeps = λ n hx l. shown_each (v (suc n)) (λ i. Slice.State u i) (shown (v n) x) (slices_of w) (λ i g. next_at v u (slices_of w) (delay_cell c u x) n i s g ∙ byte_is (v n) x i hx) ∙ mod-eq_of_lt (bytes_hold w (shown (v n) x) l);
}
