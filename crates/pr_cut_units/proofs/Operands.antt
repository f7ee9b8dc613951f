-- Slices that name earlier units alone, and cells that read them.
use Rattle.std.proofs.Common.{◌<◌, ◌≤◌, ℕ, zero, suc, ◌+◌, ◌-◌, ◌/◌, ◌%◌, ◌^◌, ◌==◌, true, false, List, [], ◌∷◌, ◌++◌, nat_lt, take, map, arith}
use Rattle.std.specs.Bool.{if◌then◌else◌}
use Rattle.std.specs.List.{range_with_len}
use Rattle.pr_base.specs.Numbers.{slices_of, top_mask_of}
use Rattle.pr_net.specs.declared.cells.Slice.{Slice}
use Rattle.pr_net.specs.declared.cells.Wire.{Wire}
use Rattle.pr_net.specs.declared.cells.WireBit.{WireBit}
use Rattle.pr_net.specs.declared.cells.Cell.{Cell}
use Rattle.pr_net.specs.Shape.{wire_of}
use Rattle.pr_net.specs.Order.{IsBefore, IsBitBefore, ReadsBefore, IsByte, HasBytes}
use Rattle.pr_cut_units.specs.Cells.{slice_at, slice_below, byte, byte_below, bit_of, top, with_left, with_right}
use Rattle.pr_cut_units.specs.Parts.{each}

-- a wire that cells of unit v may have: it names no byte of unit v or a later one, and a byte where it is one
pub record IsSource (v : ℕ) (w : Wire) : Type 0 where
  pub before : IsBefore v w
  pub byte : IsByte w

abbrev pub IsOperand : ℕ → Slice → Type 0
IsOperand v s = IsSource v (wire_of s)

abbrev pub AreOperands : ℕ → List Slice → Type 0
AreOperands v [] = Unit {0}
AreOperands v (s ∷ x) = IsOperand v s × AreOperands v x

pub zero_operand : (v : ℕ) → IsOperand v (Slice.Const 0)
zero_operand v = record { before = tt; byte = omega arith }

pub operand_at : (v : ℕ) (x : List Slice) (i : ℕ) → AreOperands v x → IsOperand v (slice_at x i)
operand_at v [] i h = zero_operand v
operand_at v (s ∷ x) zero h = h.0
operand_at v (s ∷ x) (suc i) h = operand_at v x i h.1

pub operand_below : (v : ℕ) (x : List Slice) (i q : ℕ) → AreOperands v x → IsOperand v (slice_below x i q)
operand_below v x i q h = elim (nat_lt i q) as (λ t. IsOperand v (if t then Slice.Const 0 else slice_at x (i - q))) [ true ↦ zero_operand v | false ↦ operand_at v x (i - q) h ]

pub before_more : (v n : ℕ) → v ≤ n → (w : Wire) → IsBefore v w → IsBefore n w
before_more v n l (Wire.Const k) h = tt
before_more v n l (Wire.Of u i) h = omega (arith, h, l)
before_more v n l (Wire.State u i) h = tt
before_more v n l (Wire.Bus i) h = tt

pub source_more : (v n : ℕ) (w : Wire) → v ≤ n → IsSource v w → IsSource n w
source_more v n w l h = record { before = before_more v n l w h.before; byte = h.byte }

pub operands_more : (v n : ℕ) (x : List Slice) → v ≤ n → AreOperands v x → AreOperands n x
operands_more v n [] l h = tt
operands_more v n (s ∷ x) l h = (source_more v n (wire_of s) l h.0, operands_more v n x l h.1)

pub operands-append : (v : ℕ) (x y : List Slice) → AreOperands v x → AreOperands v y → AreOperands v (x ++ y)
operands-append v [] y h k = k
operands-append v (s ∷ x) y h k = (h.0, operands-append v x y h.1 k)

pub operands-take : (v n : ℕ) (x : List Slice) → AreOperands v x → AreOperands v (take n x)
operands-take v zero x h = tt
operands-take v (suc n) [] h = tt
operands-take v (suc n) (s ∷ x) h = (h.0, operands-take v n x h.1)

pub operands-each : (v n : ℕ) (f : ℕ → Slice) → ((i : ℕ) → IsOperand v (f i)) → AreOperands v (each n f)
operands-each v n f h = go 0 n
  where
    go : (a m : ℕ) → AreOperands v (map f (range_with_len a m))
    go a zero = tt
    go a (suc m) = (h a, go (a + 1) m)

-- ---- cells
-- a bit that cells of unit v may have for C
abbrev pub IsBitSource : ℕ → WireBit → Type 0
IsBitSource v b = IsBitBefore v b

pub bit_source : (v : ℕ) (x : List Slice) (k : ℕ) → AreOperands v x → IsBitBefore v (bit_of x k)
bit_source v x k h = (operand_at v x (k / 8) h).before

-- a cell that may stand in unit v
pub record IsGood (v : ℕ) (k : Cell) : Type 0 where
  pub reads : ReadsBefore v k
  pub bytes : HasBytes k

abbrev pub AllGood : ℕ → List Cell → Type 0
AllGood v [] = Unit {0}
AllGood v (k ∷ ks) = IsGood v k × AllGood v ks

pub all-each : (v n : ℕ) (f : ℕ → Cell) → ((i : ℕ) → IsGood v (f i)) → AllGood v (each n f)
all-each v n f h = go 0 n
  where
    go : (a m : ℕ) → AllGood v (map f (range_with_len a m))
    go a zero = tt
    go a (suc m) = (h a, go (a + 1) m)

top_small_of : (e : ℕ) → top_mask_of e < 256
top_small_of e = elim (e % 8 == 0) as (λ t. (if t then 255 else 2 ^ (e % 8) - 1) < 256) [ true ↦ omega arith | false ↦ omega (arith, power_small (e % 8) (omega arith)) ]
  where
    power_small : (k : ℕ) → k < 8 → 2 ^ k ≤ 256
    power_small zero h = omega arith
    power_small (suc zero) h = omega arith
    power_small (suc (suc zero)) h = omega arith
    power_small (suc (suc (suc zero))) h = omega arith
    power_small (suc (suc (suc (suc zero)))) h = omega arith
    power_small (suc (suc (suc (suc (suc zero))))) h = omega arith
    power_small (suc (suc (suc (suc (suc (suc zero)))))) h = omega arith
    power_small (suc (suc (suc (suc (suc (suc (suc zero))))))) h = omega arith
    power_small (suc (suc (suc (suc (suc (suc (suc (suc k)))))))) h = absurd (omega arith)

pub top_small : (e i : ℕ) → top e i < 256
top_small e i = elim (i + 1 == slices_of e) as (λ t. (if t then top_mask_of e else 255) < 256) [ true ↦ top_small_of e | false ↦ omega arith ]

-- a cell with B of a shifted value, where the cell itself may stand there
pub good_left : (v : ℕ) (x : List Slice) (k i : ℕ) (cell : Cell) → AreOperands v x → IsGood v cell → IsGood v (with_left x k i cell)
good_left v x k i cell h g = record {
  reads = record {
    a = g.reads.a;
    hi = (operand_below v x i (k / 8) h).before;
    lo = elim (k % 8 == 0) as (λ t. IsBefore v (if t then Wire.Const 0 else byte_below x i (k / 8 + 1))) [ true ↦ tt | false ↦ (operand_below v x i (k / 8 + 1) h).before ];
    c = g.reads.c;
  };
  bytes = record { a = g.bytes.a; mask = g.bytes.mask; init = g.bytes.init };
}

pub good_right : (v : ℕ) (x : List Slice) (k i : ℕ) (cell : Cell) → AreOperands v x → IsGood v cell → IsGood v (with_right x k i cell)
good_right v x k i cell h g = record {
  reads = record {
    a = g.reads.a;
    hi = elim (k % 8 == 0) as (λ t. IsBefore v (if t then byte x (i + k / 8) else byte x (i + k / 8 + 1))) [ true ↦ (operand_at v x (i + k / 8) h).before | false ↦ (operand_at v x (i + k / 8 + 1) h).before ];
    lo = elim (k % 8 == 0) as (λ t. IsBefore v (if t then Wire.Const 0 else byte x (i + k / 8))) [ true ↦ tt | false ↦ (operand_at v x (i + k / 8) h).before ];
    c = g.reads.c;
  };
  bytes = record { a = g.bytes.a; mask = g.bytes.mask; init = g.bytes.init };
}
