-- The text of a waveform.
use Rattle.std.specs.Prelude.{ℕ, zero, suc, ◌+◌, ◌*◌, min, Bool, true, false, List, [], ◌++◌, Option, Some, None, codes, decimal}
use Rattle.std.specs.Fmt.{digits}
use Rattle.pr_lens_wave.specs.declared.head.Signal.{Signal}
use Rattle.pr_lens_wave.specs.declared.head.Signal.TheVariants.{Cycle, Stalled, Sample, Result, UnderWay, Waiting, Stage, Configured}

-- what stands for the signal of this number
abbrev pub name_text : ℕ → List ℕ
name_text signal = codes "s" ++ decimal signal

abbrev pub value_text : Option ℕ → List ℕ
value_text None = codes "z"
value_text (Some number) = digits 2 false number

abbrev pub number_change : ℕ → Option ℕ → List ℕ
number_change signal value = codes "b" ++ value_text value ++ codes " " ++ name_text signal ++ codes "\n"

abbrev pub bit_text : Bool → List ℕ
bit_text true = codes "1"
bit_text false = codes "0"

abbrev pub bit_change : ℕ → Bool → List ℕ
bit_change signal value = bit_text value ++ name_text signal ++ codes "\n"

-- as far as 64 bits count
abbrev pub twice_and : ℕ → ℕ → ℕ
twice_and stripe more = min (min (stripe * 2) 18446744073709551615 + more) 18446744073709551615

abbrev pub number_of : Signal → ℕ
number_of Cycle = 0
number_of Stalled = 1
number_of Sample = 2
number_of Result = 3
number_of UnderWay = 4
number_of Waiting = 5
number_of (Stage stripe) = twice_and stripe 6
number_of (Configured stripe) = twice_and stripe 7

abbrev pub label_of : Signal → List ℕ
label_of Cycle = codes "cycle"
label_of Stalled = codes "stalled"
label_of Sample = codes "sample_in"
label_of Result = codes "result_out"
label_of UnderWay = codes "under_way"
label_of Waiting = codes "results_waiting"
label_of (Stage stripe) = codes "stage"
label_of (Configured stripe) = codes "configured"

abbrev pub bits_of : Signal → ℕ
bits_of Cycle = 64
bits_of Stalled = 1
bits_of Sample = 64
bits_of Result = 64
bits_of UnderWay = 32
bits_of Waiting = 8
bits_of (Stage stripe) = 16
bits_of (Configured stripe) = 1

-- the line that names a signal
unfoldable pub signal_text : Signal → List ℕ
signal_text signal =
    codes "$var wire " ++ decimal (bits_of signal) ++ codes " " ++ name_text (number_of signal)
    ++ codes " " ++ label_of signal ++ codes " $end\n"

unfoldable pub stripe_text : ℕ → List ℕ
stripe_text stripe =
    codes "$scope module stripe_" ++ decimal stripe ++ codes " $end\n"
    ++ signal_text (Stage stripe) ++ signal_text (Configured stripe) ++ codes "$upscope $end\n"

-- the first so many stripes
unfoldable pub stripes_text : ℕ → List ℕ
stripes_text zero = []
stripes_text (suc stripe) = stripes_text stripe ++ stripe_text stripe

-- the signals beside those of the stripes
unfoldable pub signals_text : List ℕ
signals_text =
    signal_text Cycle ++ signal_text Stalled ++ signal_text Sample
    ++ signal_text Result ++ signal_text UnderWay ++ signal_text Waiting

-- all signals, for so many stripes
unfoldable pub head_text : ℕ → List ℕ
head_text stripes =
    codes "$comment a run on a fabric, from its log $end\n"
    ++ codes "$timescale 1 ns $end\n$scope module run $end\n"
    ++ signals_text ++ stripes_text stripes
    ++ codes "$upscope $end\n$enddefinitions $end\n"
