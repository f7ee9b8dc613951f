-- What a call comes to.
use Rattle.std.specs.Prelude.{◌≡◌, ◌⊎◌, ℕ, List, [], ◌++◌, codes, decimal, Option, Some, None, Result, Ok, Err, Vec}
use Rattle.std.specs.declared.alloc.AllocError.{AllocError}
use Rattle.std.specs.declared.alloc.Global.{Global}
use Rattle.pr_edge.specs.Count.{Rose}
use Rattle.pr_edge.specs.Tape.{Tape, Appends, AppendsFront}
use Rattle.pr_tool_answers.specs.declared.answers.Answer.{Answer}
use Rattle.pr_tool_answers.specs.Statuses as answers
use Rattle.pr_tool.specs.declared.notes.Bounds.{Bounds}
use Rattle.pr_tool.specs.Notes.{note_of}
use Rattle.pr_lens_tool.specs.declared.outcomes.Outcome.{Outcome}
use Rattle.pr_lens_tool.specs.declared.outcomes.Outcome.TheVariants.{Plain, Refused, Explained, Streamed, Usage, BadLog, NoCycle, Unshown, LongLog, LongModule, LongBench, NoStream}
use Rattle.pr_lens_tool.specs.declared.outcomes.Reply.{Reply}

-- the status with which the process ends
abbrev pub status_of : Outcome → ℕ
status_of (Plain answer) = answers.status_of answer
status_of (Refused answer help) = answers.status_of answer
status_of (Explained answer) = answers.status_of answer
status_of (Streamed answer) = answers.status_of answer
status_of Usage = 2
status_of (BadLog line) = 15
status_of NoCycle = 15
status_of (Unshown first last) = 15
status_of LongLog = 6
status_of LongModule = 6
status_of LongBench = 6
status_of (NoStream place) = 2

-- no failed read is kept quiet: the outcome is a read fault, or the shelf's count of faults is as it was
abbrev pub Shows : ℕ → ℕ → Outcome → Type 0
Shows before now outcome = (outcome ≡ Plain Answer.ReadFault) ⊎ ((outcome ≡ Streamed Answer.ReadFault) ⊎ (now ≡ before))

-- ---- the line that is told beside what is written
abbrev pub bad_log_line : ℕ → List ℕ
bad_log_line line = codes "bad log: line " ++ decimal line ++ codes "\n"

abbrev pub unshown_line : ℕ → ℕ → List ℕ
unshown_line first last = codes "no such cycle: the log has cycles " ++ decimal first ++ codes " to " ++ decimal last ++ codes "\n"

-- of an outcome, with the limits that it tells
abbrev pub line_by : Bounds → Outcome → List ℕ
line_by bounds (Plain answer) = note_of bounds answer
line_by bounds (Refused answer help) = note_of bounds answer
line_by bounds (Explained answer) = []
line_by bounds (Streamed answer) = note_of bounds answer
line_by bounds Usage = codes "usage: pipelens TASK FILE [SAMPLES] [--fabric F] [--narrow] [--samples N] [--json] [--csv] [--signed NAME,..] [--no-warnings] [--name MODULE] [--seed N] [--from T] [--to T]; pipelens --help says more\n"
line_by bounds (BadLog line) = bad_log_line line
line_by bounds NoCycle = codes "bad log: no cycle\n"
line_by bounds (Unshown first last) = unshown_line first last
line_by bounds LongLog = codes "limit: log-bytes 17592186044416\n"
line_by bounds LongModule = codes "limit: module-bytes 16777216\n"
line_by bounds LongBench = codes "limit: bench-bytes 16777216\n"
line_by bounds (NoStream place) = codes "no stream\n"

abbrev pub own_line : Reply → List ℕ
own_line reply = line_by reply.bounds reply.outcome

-- the line in its place, where there is one and memory was not wanting for it
abbrev pub line_or : List ℕ → Result (Option (Vec ℕ Global)) AllocError → List ℕ
line_or own (Ok None) = own
line_or own (Ok (Some line)) = line.items
line_or own (Err e) = own

abbrev pub line_of : Reply → List ℕ
line_of reply = line_or (own_line reply) reply.line

-- ---- what is written
-- the help
unfoldable pub help_text : List ℕ
help_text =
    codes "pipelens looks at programs and runs of piperench\n\nusage: pipelens TASK FILE [SAMPLES] [--fabric F] [--narrow] [--samples N] [--json] [--csv] [--signed NAME,..] [--no-warnings] [--name MODULE] [--seed N] [--from T] [--to T]\n\n"
    ++ codes "  why PROGRAM    where and why a program is refused, or what to look at again\n"
    ++ codes "  cost PROGRAM   equations, units and stages, and cycles by stripes\n"
    ++ codes "  graph PROGRAM  the units by stage with their wires, for Graphviz\n"
    ++ codes "  rtl PROGRAM    its stages as a module in Verilog\n"
    ++ codes "  wave LOG       the log of `piperench trace` as a waveform (VCD)\n"
    ++ codes "  chart LOG      the log of `piperench trace` as a picture (SVG)\n"
    ++ codes "  signals PROGRAM SAMPLES\n"
    ++ codes "                 what every named stream is at every sample, as a waveform (VCD)\n"
    ++ codes "  testbench PROGRAM SAMPLES\n"
    ++ codes "                 a test bench for the module of `rtl`, with the results of `eval`\n\n"
    ++ codes "  --fabric F     base has 16 columns and 8 registers, wide 32 and 16; base without it\n"
    ++ codes "  --narrow       leaves out what no output shows\n"
    ++ codes "  --samples N    how long the run is whose cycles `cost` tells; 1000 without it\n"
    ++ codes "  --json         a line of JSON for each finding of `why`, and one for all that `cost` tells\n"
    ++ codes "  --no-warnings  `why` points out nothing in a program that is accepted\n"
    ++ codes "  --name MODULE  how the module of `rtl` is named; pipeline without it\n"
    ++ codes "  --csv          `signals` writes lines of numbers in place of a waveform\n"
    ++ codes "  --signed NAME,..\n"
    ++ codes "                 `signals` shows the streams of these names as two's complement\n"
    ++ codes "  --seed N       when `testbench` offers samples and takes results; 1 without it\n"
    ++ codes "  --from T, --to T\n                 `wave` and `chart` show the cycles from the first to the last of these numbers\n"

-- a text was written whole, and this is the outcome; or a write failed
pub record IsWhole (old new : Tape) (text : List ℕ) (outcome result : Outcome) : Type 0 where
  pub whole : Appends old new text
  pub is : result ≡ outcome

pub record IsBroken (old new : Tape) (before now : ℕ) (text : List ℕ) (result : Outcome) : Type 0 where
  pub front : AppendsFront old new text
  pub rose : Rose before now
  pub is : result ≡ Plain Answer.WriteFault

abbrev pub IsWritten : Tape → Tape → ℕ → ℕ → List ℕ → Outcome → Outcome → Type 0
IsWritten old new before now text outcome result = IsWhole old new text outcome result ⊎ IsBroken old new before now text result
