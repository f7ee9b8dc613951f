-- The samples of a small text, worked out: those of an evaluation, and those of the first bytes of a text. A text without its log.
use Rattle.std.proofs.Common.{◌≡◌, ◌^◌, List, ℕ, true, [], ◌∷◌, ◌++◌, codes, refl}
use Rattle.pr_samples.specs.Lines.{lines_of, words_of, without_return}
use Rattle.pr_samples.specs.Fed.{End, BadSample, fed_lines, fed_text}
use Rattle.pr_tool_modes.specs.Samples.{fed_at_most, fed_to, fed_whole}
use Rattle.pr_tool_modes.specs.Unlogged.{unlogged_from, without_log}

-- a sample, and a line that lacks a number
abbrev short_line : List ℕ
short_line = codes "1 2" ++ 10 ∷ codes "3" ++ 10 ∷ []

before_a_bad_line : fed_whole (8 ∷ 8 ∷ []) short_line ≡ record { samples = (1 ∷ 2 ∷ []) ∷ []; ending = BadSample 2 }
unfolding fed_at_most fed_text fed_lines lines_of words_of without_return
before_a_bad_line = refl

-- two samples, of which the second stands without its LF in the first seven bytes
abbrev two_lines : List ℕ
two_lines = codes "1 2" ++ 10 ∷ codes "3 4" ++ 10 ∷ []

in_seven_bytes : fed_to (2 ^ 40) (8 ∷ 8 ∷ []) two_lines 7 ≡ record { samples = (1 ∷ 2 ∷ []) ∷ []; ending = End }
unfolding fed_to fed_text fed_lines lines_of words_of without_return
in_seven_bytes = refl

-- two results among the lines of a log, and the same where the last line is cut off
abbrev logged_lines : List ℕ
logged_lines = codes "cycle 5 conf - save - in 4 out 2" ++ 10 ∷ codes "12 3" ++ 10 ∷ codes "stall 6" ++ 10 ∷ codes "40 5" ++ 10 ∷ []

two_results : without_log true (logged_lines ++ codes "end cycles 7 stalls 1 records 2" ++ 10 ∷ []) ≡ codes "12 3" ++ 10 ∷ codes "40 5" ++ 10 ∷ []
unfolding unlogged_from
two_results = refl

within_a_line : without_log true (logged_lines ++ codes "end cyc") ≡ codes "12 3" ++ 10 ∷ codes "40 5" ++ 10 ∷ []
unfolding unlogged_from
within_a_line = refl

within_a_result : without_log true (codes "stall 6" ++ 10 ∷ codes "40") ≡ codes "40"
unfolding unlogged_from
within_a_result = refl
