-- The samples of a configuration or a program, and how they end.
use Rattle.std.specs.Prelude.{◌^◌, ℕ, List, length, map, nat_lt, Option, Some, None, if◌then◌else◌}
use Rattle.pr_base.specs.declared.caps.Cap.{Cap}
use Rattle.pr_base.specs.Rows.{row_bytes}
use Rattle.pr_base.specs.Limits.{most_evaluated_bytes}
use Rattle.pr_conf.specs.Shape.{Shape}
use Rattle.pr_samples.specs.Fed.{Fed, Ending, End, BadSample, Limit, fed_of, fed_within, ending_by}
use Rattle.pr_tool_answers.specs.declared.answers.Answer.{Answer}

-- the samples of a file, for inputs of these widths, where at most so many are fed
unfoldable pub fed_at_most : ℕ → List ℕ → List ℕ → Fed
fed_at_most most widths file = fed_of widths (2 ^ 44) most file

-- the same where no samples came before
abbrev pub fed_in : List ℕ → List ℕ → Fed
fed_in widths file = fed_at_most (2 ^ 40) widths file

-- the samples of the lines that stand with their LF in the first bytes of a file
unfoldable pub fed_to : ℕ → List ℕ → List ℕ → ℕ → Fed
fed_to most widths file reach = fed_within widths (2 ^ 44) most file reach

-- the samples of a file that is read whole: there are none of a file that has more bytes than is allowed
abbrev pub fed_whole : List ℕ → List ℕ → Fed
fed_whole widths file = if nat_lt most_evaluated_bytes (length file) then ending_by (Limit Cap.SampleBytes) else fed_in widths file

-- samples as bytes
abbrev pub pieces : Shape → List (List ℕ) → List (List ℕ)
pieces c rows = map (row_bytes c.inputs) rows

-- ---- the verdict
abbrev pub ended_by : Ending → Answer
ended_by End = Answer.Ok
ended_by (BadSample line) = Answer.BadSample line
ended_by (Limit cap) = Answer.Limit cap

-- a file of samples, if it is there
abbrev pub samples_verdict : ℕ → List ℕ → Option (List ℕ) → Answer
samples_verdict most widths None = Answer.ReadFault
samples_verdict most widths (Some file) = ended_by (fed_at_most most widths file).ending

-- one that is read whole
abbrev pub whole_file_verdict : List ℕ → Option (List ℕ) → Answer
whole_file_verdict widths None = Answer.ReadFault
whole_file_verdict widths (Some file) = ended_by (fed_whole widths file).ending
