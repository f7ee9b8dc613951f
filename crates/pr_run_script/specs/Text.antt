-- The lines of a run: a line for each result at the step that takes it, and in the log one for each cycle and one at the end.
use Rattle.std.specs.Prelude.{ℕ, Bool, true, false, List, [], ◌∷◌, ◌++◌, length, Option, Some, None, if◌then◌else◌}
use Rattle.std.specs.List.{flat_map}
use Rattle.pr_control.specs.Time.{event, occupant}
use Rattle.pr_conf_pipeline.specs.Rows.{state_after}
use Rattle.pr_machine_account.specs.Account.{Event, Offer, Take, Cycle, Account, account, start, done, stalled, after}
use Rattle.pr_machine_account.specs.Replies.{taken_now}
use Rattle.pr_machine_refines.specs.Cycle.{entering_sample, leaving_result}
use Rattle.pr_base.specs.Rows.{row_numbers, row_line}
use Rattle.pr_conf.specs.declared.turns.Turn.{Turn}
use Rattle.pr_conf.specs.Shape.{Shape}
use Rattle.pr_conf.specs.Through.{steps_of, tapped, output_widths}
use Rattle.pr_log.specs.Lines.{line_of, end_line_of}
use Rattle.pr_run_script.specs.Script.{Held, script}
use Rattle.pr_run_script.specs.Counts.{stalls_in}

-- the stage that an event, given as (stage, stripe), finds in its stripe at cycle t
abbrev pub found_by : ℕ → ℕ → ℕ → Option (ℕ × ℕ) → Option ℕ
found_by v p t None = None
found_by v p t (Some e) = occupant v p e.1 t

abbrev pub found_stage : ℕ → ℕ → ℕ → Option ℕ
found_stage v p t = found_by v p t (event v p t)

-- what the cycle after an account tells
abbrev pub told_turn : {R : Type 0} → ℕ → ℕ → Account R → Turn
told_turn v p a = record {
  advanced = true;
  configured = event v p a.time;
  saved = found_stage v p a.time;
  entered = entering_sample v p a;
  left = leaving_result v p a;
}

abbrev pub stalled_turn : Turn
stalled_turn = record { advanced = false; configured = None; saved = None; entered = None; left = None }

-- the state row of a stage at an account
abbrev pub state_row : ℕ → ℕ → Shape → Account (List ℕ) → Option ℕ → List ℕ
state_row N P c a None = []
state_row N P c a (Some s) = state_after (steps_of N P c) s (done s a.time a.entries) a.offered

-- the log line of the cycle after an account, for a configuration on p stripes
abbrev pub log_line : ℕ → ℕ → Shape → ℕ → Account (List ℕ) → List ℕ
log_line N P c p a =
    line_of (if stalled (length c.stages) p a then stalled_turn else told_turn (length c.stages) p a) a.time (state_row N P c a (found_stage (length c.stages) p a.time))

-- a line of a result, or of the log
pub data Line : Type 0 where
  Shown : (bytes : List ℕ) → Line
  Logged : (bytes : List ℕ) → Line

-- the line of a result, by the numbers of its bytes
abbrev pub result_line : Shape → List ℕ → List ℕ
result_line c bytes = row_line (row_numbers (output_widths c) bytes)

abbrev pub result_lines : Shape → Option (List ℕ) → List Line
result_lines c None = []
result_lines c (Some bytes) = Shown (result_line c bytes) ∷ []

-- the lines of one event after an account
abbrev pub event_lines : ℕ → ℕ → Shape → ℕ → Account (List ℕ) → Event (List ℕ) → List Line
event_lines N P c p a (Offer piece) = []
event_lines N P c p a Take = result_lines c (taken_now (steps_of N P c) (length c.stages) (tapped N c) a)
event_lines N P c p a Cycle = Logged (log_line N P c p a) ∷ []

-- the lines of events after an account, in their order
abbrev pub lines_from : ℕ → ℕ → Shape → ℕ → Account (List ℕ) → List (Event (List ℕ)) → List Line
lines_from N P c p a [] = []
lines_from N P c p a (e ∷ es) = event_lines N P c p a e ++ lines_from N P c p (after (length c.stages) p a e) es

unfoldable pub history_lines : ℕ → ℕ → Shape → ℕ → List (Event (List ℕ)) → List Line
history_lines N P c p h = lines_from N P c p start h

-- the line at the end of a history: the cycles that advanced, those that were stalled, and the results
abbrev pub closing_line : Shape → ℕ → List (Event (List ℕ)) → List ℕ
closing_line c p h = end_line_of (account (length c.stages) p h).time (stalls_in (length c.stages) p h) (account (length c.stages) p h).taken

-- it stands where all samples were good
abbrev pub closing_lines : Shape → ℕ → List (Event (List ℕ)) → Bool → List Line
closing_lines c p h good = if good then Logged (closing_line c p h) ∷ [] else []

-- the bytes of a line; those of the log count where it is asked for
abbrev pub line_bytes : Bool → Line → List ℕ
line_bytes log (Shown bytes) = bytes
line_bytes log (Logged bytes) = if log then bytes else []

-- the text of lines, with the log or without it
abbrev pub text_of : Bool → List Line → List ℕ
text_of log lines = flat_map (line_bytes log) lines

-- what a run on these samples writes, which ended well where `good` holds
abbrev pub run_text : ℕ → ℕ → Bool → Shape → ℕ → List (List ℕ) → List Held → Bool → List ℕ
run_text N P log c p xs stall good =
    let h = script (length c.stages) p xs stall in
    text_of log (history_lines N P c p h ++ closing_lines c p h good)

-- the result lines and the log lines
abbrev pub trace_text : ℕ → ℕ → Shape → ℕ → List (List ℕ) → List Held → Bool → List ℕ
trace_text N P c p xs stall good = run_text N P true c p xs stall good
