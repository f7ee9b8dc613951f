-- Texts of waveforms.
use Rattle.std.specs.Prelude.{ℕ, zero, suc, ◌+◌, ◌-◌, ◌/◌, ◌%◌, ◌^◌, Bool, true, false, ◌&&◌, ◌||◌, ◌==◌, List, [], ◌∷◌, ◌++◌, length, get_or, Option, codes, decimal, if◌then◌else◌, is_some, nat_lt}
use Rattle.std.specs.List.{flat_map, range_with_len}
use Rattle.pr_lens_tracks.specs.declared.looks.Track.{Track}
use Rattle.pr_lens_tracks.specs.Tables.{track_text}

-- viewers show an integer as two's complement, and a wire as a number without sign
abbrev pub type_text : Bool → List ℕ
type_text true = codes "integer"
type_text false = codes "wire"

-- which bits a stream has. A stream of one bit goes without, but behind an index, which viewers would take for a bit
abbrev pub range_text : Option ℕ → ℕ → List ℕ
range_text index width =
    if is_some index || nat_lt 1 width then codes " [" ++ decimal (width - 1) ++ codes ":0]" else []

-- the line that names a stream: its place stands for it in the changes
unfoldable pub variable_text : ℕ → Track → List ℕ
variable_text place t =
    codes "$var " ++ type_text t.look.signed ++ codes " " ++ decimal t.look.width ++ codes " " ++ decimal place ++ codes " "
    ++ track_text t ++ range_text t.index t.look.width ++ codes " $end\n"

-- the lines of streams, the first of which has this place
abbrev pub variables_text : ℕ → List Track → List ℕ
variables_text place [] = []
variables_text place (t ∷ ts) = variable_text place t ++ variables_text (place + 1) ts

-- the end of a step of time, or of the head
unfoldable pub time_text : ℕ → List ℕ
time_text time = codes "#" ++ decimal time ++ codes "\n"

-- all names. The first sample is at the time 0
unfoldable pub wave_head : List Track → List ℕ
wave_head tracks =
    codes "$comment the named streams of a program, a step of time for each sample $end\n"
    ++ codes "$timescale 1 ns $end\n$scope module program $end\n"
    ++ variables_text 0 tracks
    ++ codes "$upscope $end\n$enddefinitions $end\n" ++ time_text 0

-- so many bits of a number, the highest first
abbrev pub bits_text : ℕ → ℕ → List ℕ
bits_text zero number = []
bits_text (suc place) number = (48 + number / 2 ^ place % 2) ∷ bits_text place number

-- the bits of a number, and the stream's place
unfoldable pub value_text : ℕ → ℕ → ℕ → List ℕ
value_text place width number = codes "b" ++ bits_text width number ++ codes " " ++ decimal place ++ codes "\n"

-- a number of a stream is told where it is the first, or another one than that before
abbrev pub news_text : ℕ → ℕ → Bool → ℕ → ℕ → List ℕ
news_text place width begun before now = if begun && (before == now) then [] else value_text place width now

abbrev pub width_of : Track → ℕ
width_of t = t.look.width

abbrev pub change_text : List ℕ → Bool → List ℕ → List ℕ → ℕ → List ℕ
change_text widths begun before now place =
    news_text place (get_or widths place 0) begun (get_or before place 0) (get_or now place 0)

-- the numbers of a row of streams of these widths that are others than those of the row before
abbrev pub changes_text : List ℕ → Bool → List ℕ → List ℕ → List ℕ
changes_text widths begun before now = flat_map (change_text widths begun before now) (range_with_len 0 (length now))
