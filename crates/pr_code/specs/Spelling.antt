-- How a configuration is spelled: a file is the bytes of its words, each of four bytes with the highest first.
use Rattle.std.specs.Prelude.{◌≡◌, ◌⊎◌, ℕ, ◌+◌, ◌*◌, ◌/◌, ◌%◌, ◌^◌, ◌==◌, ◌&&◌, Bool, true, false, not, nat_le, nat_lt, List, [], ◌∷◌, ◌++◌, length, map, if◌then◌else◌}
use Rattle.std.specs.List.{flat_map, list_all}
use Rattle.std.specs.Int.{w32, to_be_bytes}
use Rattle.pr_base.specs.declared.choices.Mode.{Mode}
use Rattle.pr_base.specs.declared.choices.Carry.{Carry}
use Rattle.pr_base.specs.declared.choices.Next.{Next}
use Rattle.pr_conf.specs.declared.pes.Source.{Source}
use Rattle.pr_conf.specs.declared.pes.Bit.{Bit}
use Rattle.pr_conf.specs.declared.pes.Pe.{Pe}
use Rattle.pr_conf.specs.declared.outputs.Tap.{Tap}
use Rattle.pr_conf.specs.Shape.{OutputShape, Shape}
use Rattle.pr_conf.specs.Rules.{IsLawful}
use Rattle.pr_code.specs.declared.formats.Format.{Format}

-- the bytes of words
unfoldable pub bytes_of_words : List ℕ → List ℕ
bytes_of_words words = flat_map (to_be_bytes w32) words

-- a source in sixteen bits
abbrev pub source_word : Source → ℕ
source_word (Source.Const k) = k
source_word (Source.Prev col reg) = 0x1000 + col * 16 + reg
source_word (Source.Here col) = 0x2000 + col * 16
source_word (Source.State col) = 0x3000 + col * 16
source_word (Source.Bus place) = 0x4000 + place

-- a tap, as the source that it reads like
abbrev pub tap_word : Tap → ℕ
tap_word (Tap.Const k) = k
tap_word (Tap.Reg col reg) = 0x1000 + col * 16 + reg

-- the source of C, where C is a bit of one
abbrev pub c_source : Bit → ℕ
c_source Bit.None = 0
c_source (Bit.Of source place) = source_word source
c_source Bit.CarryIn = 0

-- the kind of C in the higher four bits, and the place of its bit in the lower four
abbrev pub c_choice : Bit → ℕ
c_choice Bit.None = 0
c_choice (Bit.Of source place) = 16 + place
c_choice Bit.CarryIn = 32

abbrev pub next_number : Next → ℕ
next_number Next.Keep = 0
next_number Next.Output = 1
next_number Next.A = 2

abbrev pub carry_number : Carry → ℕ
carry_number Carry.Zero = 0
carry_number Carry.One = 1
carry_number Carry.Chain = 2
carry_number Carry.FromC = 3

abbrev pub mode_number : Mode → ℕ
mode_number Mode.Plain = 0
mode_number Mode.Sum = 1
mode_number Mode.Zero = 2

-- the four words of a processing element
abbrev pub a_word : Pe → ℕ
a_word pe = source_word pe.a * 0x10000 + source_word pe.hi

abbrev pub lo_word : Pe → ℕ
lo_word pe = source_word pe.lo * 0x10000 + c_source pe.c

abbrev pub table_word : Pe → ℕ
table_word pe = pe.table * 0x1000000 + pe.mask * 0x10000 + pe.init * 0x100 + c_choice pe.c

abbrev pub write_word : Pe → ℕ
write_word pe = pe.write * 0x10000 + next_number pe.next * 0x1000 + carry_number pe.cin * 0x100 + mode_number pe.mode * 0x10 + pe.shift

unfoldable pub pe_words : Pe → List ℕ
pe_words pe = a_word pe ∷ lo_word pe ∷ table_word pe ∷ write_word pe ∷ []

-- some word of the processing element is not 0
unfoldable pub is_set : Pe → Bool
is_set pe = not (list_all (λ w. w == 0) (pe_words pe))

-- the words of one that is set, and none else
abbrev pub set_words : Pe → List ℕ
set_words pe = if is_set pe then pe_words pe else []

-- the number whose bit i is set exactly where flag i is
abbrev pub number_of_flags : List Bool → ℕ
number_of_flags [] = 0
number_of_flags (flag ∷ flags) = (if flag then 1 else 0) + 2 * number_of_flags flags

-- the map of a stage: a bit for each column, in one word for 32 columns or fewer, and else in two, the lower columns first
abbrev pub map_words : ℕ → ℕ → List ℕ
map_words N marks = if nat_le N 32 then marks ∷ [] else (marks % 2 ^ 32) ∷ (marks / 2 ^ 32) ∷ []

-- the bytes `PIP1`
abbrev pub format_1 : Format
format_1 = record { mark = 0x50495031; widest = 64; packed = false }

-- the bytes `PIP2`
abbrev pub format_2 : Format
format_2 = record { mark = 0x50495032; widest = 128; packed = true }

-- a stage, with a map and what is set, or with all
abbrev pub stage_words : Bool → ℕ → List Pe → List ℕ
stage_words packed N pes =
    if packed
    then map_words N (number_of_flags (map is_set pes)) ++ flat_map set_words pes
    else flat_map pe_words pes

-- an output: its width and its taps
abbrev pub output_words : OutputShape → List ℕ
output_words output = output.width ∷ map tap_word output.taps

-- the first words of each format
abbrev pub head_words : Format → ℕ → ℕ → ℕ → List ℕ
head_words f N P stages = f.mark ∷ (N * 0x10000 + P) ∷ stages ∷ []

-- the words of a configuration: the head, the inputs, the outputs and the stages
abbrev pub words_in : Format → ℕ → ℕ → Shape → List ℕ
words_in f N P c =
    head_words f N P (length c.stages)
    ++ (length c.inputs ∷ c.inputs)
    ++ (length c.outputs ∷ flat_map output_words c.outputs)
    ++ flat_map (stage_words f.packed N) c.stages

-- the words that are written, and those of the format that is read beside it
abbrev pub words_of : ℕ → ℕ → Shape → List ℕ
words_of N P c = words_in format_2 N P c

abbrev pub words_of_1 : ℕ → ℕ → Shape → List ℕ
words_of_1 N P c = words_in format_1 N P c

-- no width is above this
abbrev pub are_widths_within : ℕ → Shape → Bool
are_widths_within widest c = list_all (λ w. nat_le w widest) c.inputs && list_all (λ (o : OutputShape). nat_le o.width widest) c.outputs

-- a file in one format
pub record IsFileIn (f : Format) (N P : ℕ) (c : Shape) (bytes : List ℕ) : Type 0 where
  pub widths : are_widths_within f.widest c ≡ true
  pub spelled : bytes ≡ bytes_of_words (words_in f N P c)

-- a file of a configuration, in one of the formats
abbrev pub IsFile : ℕ → ℕ → Shape → List ℕ → Type 0
IsFile N P c bytes = IsFileIn format_1 N P c bytes ⊎ IsFileIn format_2 N P c bytes

-- each byte of a source, a tap or a processing element is one
abbrev pub is_byte : ℕ → Bool
is_byte k = nat_lt k 256

abbrev pub has_source_byte : Source → Bool
has_source_byte (Source.Const k) = is_byte k
has_source_byte (Source.Prev col reg) = true
has_source_byte (Source.Here col) = true
has_source_byte (Source.State col) = true
has_source_byte (Source.Bus place) = true

abbrev pub has_c_byte : Bit → Bool
has_c_byte Bit.None = true
has_c_byte (Bit.Of source place) = has_source_byte source
has_c_byte Bit.CarryIn = true

abbrev pub has_tap_byte : Tap → Bool
has_tap_byte (Tap.Const k) = is_byte k
has_tap_byte (Tap.Reg col reg) = true

unfoldable pub has_pe_bytes : Pe → Bool
has_pe_bytes pe =
    has_source_byte pe.a && has_source_byte pe.hi && has_source_byte pe.lo && has_c_byte pe.c
    && is_byte pe.table && is_byte pe.mask && is_byte pe.init

abbrev pub have_tap_bytes : OutputShape → Bool
have_tap_bytes output = list_all has_tap_byte output.taps

-- what a shape of numbers keeps that is the shape of a configuration, whose constants are bytes
abbrev pub has_bytes : Shape → Bool
has_bytes c = list_all have_tap_bytes c.outputs && list_all (list_all has_pe_bytes) c.stages

-- a file of some configuration
abbrev pub IsSomeFile : ℕ → ℕ → List ℕ → Type 0
IsSomeFile N P bytes = (c : Shape) × IsLawful N P c × (has_bytes c ≡ true) × IsFile N P c bytes

-- the place of C's bit fits its field
unfoldable pub has_small_choice : Pe → Bool
has_small_choice pe = nat_lt (c_choice pe.c) 48
