-- Three samples of two streams: x of eight bits, and d of four bits, which is shown as two's complement.
use Rattle.std.proofs.Common.{◌≡◌, ℕ, List, [], ◌∷◌, ◌++◌, None, Some, true, false, codes, refl}
use Rattle.std.specs.Fmt.{digits}
use Rattle.pr_lens_tracks.specs.declared.looks.Form.TheVariants.{Csv, Wave}
use Rattle.pr_lens_tracks.specs.declared.looks.Look.{Look}
use Rattle.pr_lens_tracks.specs.declared.looks.Track.{Track}
use Rattle.pr_lens_tracks.specs.Texts.{streams_text}
use Rattle.pr_lens_tracks.specs.Waves.{wave_head, variable_text, time_text, value_text}

abbrev x : Track
x = record { name = codes "x"; index = None; look = record { width = 8; signed = false } }

abbrev d : Track
d = record { name = codes "d"; index = Some 3; look = record { width = 4; signed = true } }

abbrev rows : List (List ℕ)
rows = (5 ∷ 15 ∷ []) ∷ (5 ∷ 7 ∷ []) ∷ (4 ∷ 7 ∷ []) ∷ []

table : streams_text Csv (x ∷ d ∷ []) rows ≡ codes "x,d[3]\n5,-1\n5,7\n4,7\n"
unfolding digits
table = refl

wave : streams_text Wave (x ∷ d ∷ []) rows
    ≡ codes "$comment the named streams of a program, a step of time for each sample $end\n$timescale 1 ns $end\n$scope module program $end\n"
    ++ codes "$var wire 8 0 x [7:0] $end\n$var integer 4 1 d[3] [3:0] $end\n$upscope $end\n$enddefinitions $end\n#0\n"
    ++ codes "b00000101 0\nb1111 1\n#1\nb0111 1\n#2\nb00000100 0\n#3\n"
unfolding digits wave_head variable_text time_text value_text
wave = refl
