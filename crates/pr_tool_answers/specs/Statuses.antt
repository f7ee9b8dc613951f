-- The status of each answer.
use Rattle.std.specs.Prelude.{ℕ}
use Rattle.pr_tool_answers.specs.declared.answers.Answer.{Answer}
use Rattle.pr_tool_answers.specs.declared.answers.Cause.{Cause}

abbrev pub cause_status : Cause → ℕ
cause_status (Cause.Syntax token) = 3
cause_status (Cause.Scope rule item) = 3
cause_status (Cause.NoWidth equation) = 4
cause_status (Cause.NoFit unit) = 5
cause_status (Cause.Limit which) = 6
cause_status (Cause.BadSample line) = 7

-- the status with which the process ends
abbrev pub status_of : Answer → ℕ
status_of Answer.Ok = 0
status_of Answer.Usage = 2
status_of (Answer.Syntax token) = 3
status_of (Answer.Scope rule item) = 3
status_of (Answer.NoWidth equation) = 4
status_of (Answer.NoFit unit) = 5
status_of (Answer.Limit which) = 6
status_of (Answer.BadSample line) = 7
status_of (Answer.BadStall place) = 8
status_of (Answer.BadConfig rule place) = 9
status_of (Answer.BadList line) = 14
status_of (Answer.Part program cause) = cause_status cause
status_of Answer.ReadFault = 10
status_of Answer.WriteFault = 11
status_of Answer.Memory = 12
