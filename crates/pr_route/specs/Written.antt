-- What is written of a placed net: sources and elements by the stage of who reads, and where they stand.
use Rattle.std.specs.Prelude.{ℕ, ◌+◌, ◌-◌, ◌==◌, ◌&&◌, ◌<◌, Bool, nat_le, nat_lt, List, [], length, slice_index_or, if◌then◌else◌}
use Rattle.pr_net.specs.declared.cells.Cell.{Cell}
use Rattle.pr_net.specs.declared.cells.Wire.{Wire}
use Rattle.pr_net.specs.declared.cells.WireBit.{WireBit}
use Rattle.pr_net.specs.declared.cells.Slice.{Slice}
use Rattle.pr_place.specs.Placements.{PlacementShape, home_of, stage_of, column_of, register_of}
use Rattle.pr_conf.specs.declared.pes.Source.{Source}
use Rattle.pr_conf.specs.declared.pes.Bit.{Bit}
use Rattle.pr_conf.specs.declared.pes.Pe.{Pe}
use Rattle.pr_route.specs.Conf.{idle_pe, idle_cell}

-- the source of a wire that a cell of this stage reads
abbrev pub source_in : PlacementShape → ℕ → Wire → Source
source_in pl s (Wire.Const k) = Source.Const k
source_in pl s (Wire.Of v i) = if stage_of pl v == s then Source.Here (column_of pl v i) else Source.Prev (column_of pl v i) (register_of pl v i)
source_in pl s (Wire.State v i) = Source.State (column_of pl v i)
source_in pl s (Wire.Bus i) = Source.Bus i

abbrev pub bit_in : PlacementShape → ℕ → WireBit → Bit
bit_in pl s WireBit.None = Bit.None
bit_in pl s (WireBit.Of wire place) = Bit.Of (source_in pl s wire) place
bit_in pl s WireBit.CarryIn = Bit.CarryIn

abbrev pub pe_in : PlacementShape → ℕ → Cell → ℕ → Pe
pe_in pl s k reg = record {
  a = source_in pl s k.a;
  hi = source_in pl s k.hi;
  lo = source_in pl s k.lo;
  shift = k.shift;
  c = bit_in pl s k.c;
  table = k.table;
  mode = k.mode;
  cin = k.cin;
  mask = k.mask;
  next = k.next;
  init = k.init;
  write = reg;
}

-- the cell has a place in a unit that has a home, with a register for it
pub record IsHoused (pl : PlacementShape) (v i : ℕ) : Type 0 where
  pub unit : v < length pl.homes
  pub column : column_of pl v i < 64
  pub register : i < length (home_of pl v).regs

abbrev pub ReadsHoused : PlacementShape → Wire → Type 0
ReadsHoused pl (Wire.Const k) = Unit {0}
ReadsHoused pl (Wire.Of v i) = IsHoused pl v i
ReadsHoused pl (Wire.State v i) = IsHoused pl v i
ReadsHoused pl (Wire.Bus i) = Unit {0}

abbrev pub ChoosesHoused : PlacementShape → WireBit → Type 0
ChoosesHoused pl WireBit.None = Unit {0}
ChoosesHoused pl (WireBit.Of wire place) = ReadsHoused pl wire
ChoosesHoused pl WireBit.CarryIn = Unit {0}

-- every cell that this one reads is housed
pub record HasHoused (pl : PlacementShape) (k : Cell) : Type 0 where
  pub a : ReadsHoused pl k.a
  pub hi : ReadsHoused pl k.hi
  pub lo : ReadsHoused pl k.lo
  pub c : ChoosesHoused pl k.c

abbrev pub ShowsHoused : PlacementShape → Slice → Type 0
ShowsHoused pl (Slice.Const k) = Unit {0}
ShowsHoused pl (Slice.Of v i) = IsHoused pl v i
ShowsHoused pl (Slice.State v i) = Unit {0}

-- the element in a column of a stage
abbrev pub element : List (List Pe) → ℕ → ℕ → Pe
element stages s col = slice_index_or (slice_index_or stages s []) col idle_pe

-- one of the first so many cells of a unit stands there
abbrev pub covers : PlacementShape → ℕ → ℕ → ℕ → ℕ → Bool
covers pl u count s col = (stage_of pl u == s) && (nat_le (home_of pl u).col col && nat_lt col ((home_of pl u).col + count))

-- the element of the cell of a unit that stands in a column
abbrev pub written : PlacementShape → ℕ → List Cell → ℕ → Pe
written pl u cells col = pe_in pl (stage_of pl u) (slice_index_or cells (col - (home_of pl u).col) idle_cell) (register_of pl u (col - (home_of pl u).col))

-- the element of a column once a unit with these cells is written over what stood there
abbrev pub over : PlacementShape → ℕ → List Cell → ℕ → ℕ → Pe → Pe
over pl u cells s col before = if covers pl u (length cells) s col then written pl u cells col else before

-- a unit with these cells can be written to so many stages of so many columns
pub record IsWritable (columns stages : ℕ) (pl : PlacementShape) (u : ℕ) (ks : List Cell) : Type 0 where
  pub unit : u < length pl.homes
  pub stage : stage_of pl u < stages
  pub room : (home_of pl u).col + length ks < columns + 1
  pub few : columns < 65
  pub registers : length ks < length (home_of pl u).regs + 1
  pub cells : (i : ℕ) → i < length ks → HasHoused pl (slice_index_or ks i idle_cell)
