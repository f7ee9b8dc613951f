-- What words read as: the parts of a configuration whose words they are, if they are the words of any.
use Rattle.std.specs.Prelude.{ℕ, zero, suc, ◌+◌, ◌*◌, ◌/◌, ◌%◌, ◌^◌, ◌==◌, Bool, true, nat_le, List, [], ◌∷◌, map, take, drop, slice_index, replicate, if◌then◌else◌}
use Rattle.pr_base.specs.Numbers.{slices_of}
use Rattle.pr_base.specs.declared.choices.Mode.{Mode}
use Rattle.pr_base.specs.declared.choices.Carry.{Carry}
use Rattle.pr_base.specs.declared.choices.Next.{Next}
use Rattle.pr_conf.specs.declared.pes.Source.{Source}
use Rattle.pr_conf.specs.declared.pes.Bit.{Bit}
use Rattle.pr_conf.specs.declared.pes.Pe.{Pe}
use Rattle.pr_conf.specs.declared.outputs.Tap.{Tap}
use Rattle.pr_conf.specs.Shape.{OutputShape, Shape}

-- the words of bytes, without a last one that is not whole
abbrev pub words_of_bytes : List ℕ → List ℕ
words_of_bytes (a ∷ b ∷ c ∷ d ∷ bytes) = (a * 0x1000000 + b * 0x10000 + c * 0x100 + d) ∷ words_of_bytes bytes
words_of_bytes (a ∷ b ∷ c ∷ []) = []
words_of_bytes (a ∷ b ∷ []) = []
words_of_bytes (a ∷ []) = []
words_of_bytes [] = []

-- the source of sixteen bits
abbrev pub source_of : ℕ → Source
source_of half =
    if half / 0x1000 == 1 then Source.Prev (half / 16 % 256) (half % 16)
    else if half / 0x1000 == 2 then Source.Here (half / 16 % 256)
    else if half / 0x1000 == 3 then Source.State (half / 16 % 256)
    else if half / 0x1000 == 4 then Source.Bus (half % 256)
    else Source.Const (half % 256)

abbrev pub tap_of : ℕ → Tap
tap_of word = if word / 0x1000 == 1 then Tap.Reg (word / 16 % 256) (word % 16) else Tap.Const (word % 256)

-- the kind of C in the third word of a processing element
abbrev pub c_kind : ℕ → ℕ
c_kind third = third / 16 % 16

-- C, from the second and the third word of a processing element
abbrev pub c_of : ℕ → ℕ → Bit
c_of second third =
    if c_kind third == 1 then Bit.Of (source_of (second % 0x10000)) (third % 16)
    else if c_kind third == 2 then Bit.CarryIn
    else Bit.None

abbrev pub next_of : ℕ → Next
next_of n = if n == 1 then Next.Output else if n == 2 then Next.A else Next.Keep

abbrev pub carry_of : ℕ → Carry
carry_of n = if n == 1 then Carry.One else if n == 2 then Carry.Chain else if n == 3 then Carry.FromC else Carry.Zero

abbrev pub mode_of : ℕ → Mode
mode_of n = if n == 1 then Mode.Sum else if n == 2 then Mode.Zero else Mode.Plain

-- the processing element of four words
abbrev pub pe_from : ℕ → ℕ → ℕ → ℕ → Pe
pe_from first second third fourth = record {
  a = source_of (first / 0x10000);
  hi = source_of (first % 0x10000);
  lo = source_of (second / 0x10000);
  shift = fourth % 16;
  c = c_of second third;
  table = third / 0x1000000;
  mode = mode_of (fourth / 16 % 16);
  cin = carry_of (fourth / 0x100 % 16);
  mask = third / 0x10000 % 256;
  next = next_of (fourth / 0x1000 % 16);
  init = third / 0x100 % 256;
  write = fourth / 0x10000 % 256;
}

abbrev pub pe_of : List ℕ → Pe
pe_of words = pe_from (slice_index words 0) (slice_index words 1) (slice_index words 2) (slice_index words 3)

-- the flags of the lowest bits of a number
abbrev pub flags_of : ℕ → ℕ → List Bool
flags_of zero marks = []
flags_of (suc n) marks = (marks % 2 == 1) ∷ flags_of n (marks / 2)

-- the words of a map, and the number that they make
abbrev pub map_length : ℕ → ℕ
map_length N = if nat_le N 32 then 1 else 2

abbrev pub marks_of : ℕ → List ℕ → ℕ
marks_of N words = if nat_le N 32 then slice_index words 0 else slice_index words 0 + slice_index words 1 * 2 ^ 32

-- the columns of a stage whose words stand in the file, and how many words stand before them
abbrev pub stage_flags : Bool → ℕ → List ℕ → List Bool
stage_flags packed N words = if packed then flags_of N (marks_of N words) else replicate N true

abbrev pub before_pes : Bool → ℕ → ℕ
before_pes packed N = if packed then map_length N else 0

-- the processing element of a column, and how many words it has; where they do not stand there, they are 0
abbrev pub column_of : Bool → List ℕ → Pe
column_of stands words = if stands then pe_of words else pe_from 0 0 0 0

abbrev pub column_length : Bool → ℕ
column_length stands = if stands then 4 else 0

-- the processing elements of a stage
abbrev pub pes_of : List Bool → List ℕ → List Pe
pes_of [] words = []
pes_of (flag ∷ flags) words = column_of flag words ∷ pes_of flags (drop (column_length flag) words)

abbrev pub pes_length : List Bool → ℕ
pes_length [] = 0
pes_length (flag ∷ flags) = column_length flag + pes_length flags

abbrev pub stage_of : Bool → ℕ → List ℕ → List Pe
stage_of packed N words = pes_of (stage_flags packed N words) (drop (before_pes packed N) words)

abbrev pub stage_length : Bool → ℕ → List ℕ → ℕ
stage_length packed N words = before_pes packed N + pes_length (stage_flags packed N words)

-- so many stages
abbrev pub stages_of : Bool → ℕ → ℕ → List ℕ → List (List Pe)
stages_of packed N zero words = []
stages_of packed N (suc count) words = stage_of packed N words ∷ stages_of packed N count (drop (stage_length packed N words) words)

abbrev pub stages_length : Bool → ℕ → ℕ → List ℕ → ℕ
stages_length packed N zero words = 0
stages_length packed N (suc count) words = stage_length packed N words + stages_length packed N count (drop (stage_length packed N words) words)

-- so many outputs, and how many words they have
abbrev pub output_of : List ℕ → OutputShape
output_of words = record {
  width = slice_index words 0;
  taps = map tap_of (take (slices_of (slice_index words 0)) (drop 1 words));
}

abbrev pub output_length : List ℕ → ℕ
output_length words = 1 + slices_of (slice_index words 0)

abbrev pub outputs_of : ℕ → List ℕ → List OutputShape
outputs_of zero words = []
outputs_of (suc count) words = output_of words ∷ outputs_of count (drop (output_length words) words)

abbrev pub outputs_length : ℕ → List ℕ → ℕ
outputs_length zero words = 0
outputs_length (suc count) words = output_length words + outputs_length count (drop (output_length words) words)

-- the parts behind the head of three words
abbrev pub inputs_part : List ℕ → List ℕ
inputs_part words = drop 3 words

abbrev pub inputs_of : List ℕ → List ℕ
inputs_of words = take (slice_index (inputs_part words) 0) (drop 1 (inputs_part words))

abbrev pub outputs_part : List ℕ → List ℕ
outputs_part words = drop (1 + slice_index (inputs_part words) 0) (inputs_part words)

abbrev pub stages_part : List ℕ → List ℕ
stages_part words = drop (1 + outputs_length (slice_index (outputs_part words) 0) (drop 1 (outputs_part words))) (outputs_part words)

abbrev pub shape_in : Bool → ℕ → List ℕ → Shape
shape_in packed N words = record {
  inputs = inputs_of words;
  outputs = outputs_of (slice_index (outputs_part words) 0) (drop 1 (outputs_part words));
  stages = stages_of packed N (slice_index words 2) (stages_part words);
}
