-- What a prepared stage needs to know of an element.
use Rattle.std.specs.Prelude.{ℕ, suc, ◌+◌, ◌-◌, ◌*◌, ◌/◌, ◌%◌, ◌==◌, ◌^◌, ◌≡◌, ◌<◌, nat_lt, Bool, true, false, List, slice_index, slice_index_or, if◌then◌else◌}
use Rattle.pr_base.specs.Pe.{carry_in, next_state}
use Rattle.pr_stripe_prepared.specs.Places.{is_suited}
use Rattle.pr_stripe_prepared.specs.Rows.{EachItem}
use Rattle.pr_base.specs.declared.choices.Mode.{Mode}
use Rattle.pr_base.specs.declared.choices.Carry.{Carry}
use Rattle.pr_conf.specs.declared.pes.Pe.{Pe}
use Rattle.pr_conf.specs.declared.pes.Bit.{Bit}
use Rattle.pr_conf.specs.declared.pes.Source.{Source}
use Rattle.pr_lanes.specs.Rows.{ones_where, half}

-- ones where a column sums
abbrev pub sum_mark : Mode → ℕ
sum_mark Mode.Plain = 0
sum_mark Mode.Sum = 255
sum_mark Mode.Zero = 0

-- whether the carry-in is the carry-out of the column below
abbrev pub is_chain : Carry → Bool
is_chain Carry.Zero = false
is_chain Carry.One = false
is_chain Carry.Chain = true
is_chain Carry.FromC = false

-- whether the column above takes the carry-out
abbrev pub goes_on : List Pe → ℕ → Pe → Bool
goes_on pes k d = if suc k == 16 then false else is_chain (slice_index_or pes (suc k) d).cin

-- the bits of A and X whose sum the next column sees
abbrev pub low_mask : Mode → Bool → ℕ
low_mask Mode.Plain on = 0
low_mask Mode.Sum on = if on then 255 else 127
low_mask Mode.Zero on = 0

-- all ones in a column that tests for 0, where the next column sees the carry
abbrev pub zero_mask : Mode → Bool → ℕ
zero_mask Mode.Plain on = 0
zero_mask Mode.Sum on = 0
zero_mask Mode.Zero on = if on then 255 else 0

-- the source of the byte that C is a bit of
abbrev pub c_source : Bit → Source
c_source Bit.None = Source.Const 0
c_source (Bit.Of source place) = source
c_source Bit.CarryIn = Source.Const 0

-- the bit that C is, by its weight
abbrev pub c_bit : Bit → ℕ
c_bit Bit.None = 0
c_bit (Bit.Of source place) = 2 ^ place
c_bit Bit.CarryIn = 0

-- whether C is a bit of a byte, the carry-in, or none
abbrev pub is_read_bit : Bit → Bool
is_read_bit Bit.None = true
is_read_bit (Bit.Of source place) = nat_lt place 8
is_read_bit Bit.CarryIn = true

-- 1 where C is the carry-in
abbrev pub c_carry : Bit → ℕ
c_carry Bit.None = 0
c_carry (Bit.Of source place) = 0
c_carry Bit.CarryIn = 1

-- whether a column takes a carry
abbrev pub takes_carry : Mode → Bit → Bool
takes_carry Mode.Plain c = c_carry c == 1
takes_carry Mode.Sum c = true
takes_carry Mode.Zero c = true

-- 1 where the carry-in is C
abbrev pub from_c : Carry → ℕ
from_c Carry.Zero = 0
from_c Carry.One = 0
from_c Carry.Chain = 0
from_c Carry.FromC = 1

abbrev pub table_of : ℕ → ℕ → Pe → ℕ
table_of c bit pe = ones_where (half pe.table c) bit

abbrev pub bit_of : Pe → ℕ
bit_of pe = c_bit pe.c

abbrev pub carry_bit_of : Pe → ℕ
carry_bit_of pe = c_carry pe.c

abbrev pub from_c_of : Pe → ℕ
from_c_of pe = from_c pe.cin

abbrev pub carry_of : Pe → ℕ
carry_of pe = carry_in pe.cin 0 0

abbrev pub shift_of : Pe → ℕ
shift_of pe = 2 ^ pe.shift

abbrev pub output_of : Pe → ℕ
output_of pe = next_state pe.next 0 255 0

abbrev pub a_of : Pe → ℕ
a_of pe = next_state pe.next 0 0 255

-- the sources of A, and then those of the bytes that B begins with
abbrev pub both_source : List Pe → ℕ → Pe → Source
both_source pes k d = if nat_lt k 16 then (slice_index_or pes k d).a else (slice_index_or pes (k - 16) d).hi

-- the sources of the bytes that B ends with, and then those of C
abbrev pub rest_source : List Pe → ℕ → Pe → Source
rest_source pes k d = if nat_lt k 16 then (slice_index_or pes k d).lo else c_source (slice_index_or pes (k - 16) d).c

-- this holds of the element of each of 16 columns
abbrev pub EachColumn : List Pe → (ℕ → Pe → Type 0) → Type 0
EachColumn pes Holds = EachItem 16 pes Holds

-- all ones at each place of each register to which its column writes, and else 0
abbrev pub AreMarks : ℕ → List Pe → List ℕ → Type 0
AreMarks registers pes marks = (j : ℕ) (d : Pe) → j < registers * 16 → slice_index marks j ≡ (if (slice_index_or pes (j % 16) d).write == j / 16 + 1 then 255 else 0)

-- an element that whole rows of so many registers give
pub record IsSuited (registers : ℕ) (pe : Pe) : Type 0 where
  pub a : is_suited registers pe.a ≡ true
  pub hi : is_suited registers pe.hi ≡ true
  pub lo : is_suited registers pe.lo ≡ true
  pub c : is_suited registers (c_source pe.c) ≡ true
  pub bit : is_read_bit pe.c ≡ true
  pub shift : pe.shift < 8
