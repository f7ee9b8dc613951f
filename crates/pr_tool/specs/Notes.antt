-- The line that goes to the note where the answer is not Ok.
use Rattle.std.specs.Prelude.{ℕ, List, [], ◌∷◌, ◌++◌, codes, decimal}
use Rattle.pr_base.specs.declared.caps.Cap.{Cap}
use Rattle.pr_base.specs.Limits.{cap_number}
use Rattle.pr_tool_answers.specs.declared.answers.Answer.{Answer}
use Rattle.pr_tool_answers.specs.declared.answers.Cause.{Cause}
use Rattle.pr_tool.specs.declared.notes.Bounds.{Bounds}

abbrev pub cap_name : Cap → List ℕ
cap_name Cap.ProgramBytes = codes "program-bytes"
cap_name Cap.Nesting = codes "nesting"
cap_name Cap.Turns = codes "turns"
cap_name Cap.Equations = codes "equations"
cap_name Cap.InputBytes = codes "input-bytes"
cap_name Cap.Outputs = codes "outputs"
cap_name Cap.Units = codes "units"
cap_name Cap.StallBytes = codes "stall-bytes"
cap_name Cap.ConfigBytes = codes "config-bytes"
cap_name Cap.SampleBytes = codes "sample-bytes"
cap_name Cap.Samples = codes "samples"
cap_name Cap.ListBytes = codes "list-bytes"

-- the number that a quantity may not pass in a call
abbrev pub bound_of : Bounds → Cap → ℕ
bound_of bounds Cap.SampleBytes = bounds.sample_bytes
bound_of bounds which = cap_number bounds.fabric which

-- the line of a cause, without its end
abbrev pub cause_text : Bounds → Cause → List ℕ
cause_text bounds (Cause.Syntax token) = codes "syntax: token " ++ decimal token
cause_text bounds (Cause.Scope rule item) = codes "scope: rule " ++ decimal rule ++ codes " item " ++ decimal item
cause_text bounds (Cause.NoWidth equation) = codes "no width: equation " ++ decimal equation
cause_text bounds (Cause.NoFit unit) = codes "no fit: unit " ++ decimal unit
cause_text bounds (Cause.Limit which) = codes "limit: " ++ cap_name which ++ codes " " ++ decimal (bound_of bounds which)
cause_text bounds (Cause.BadSample line) = codes "bad sample: line " ++ decimal line

-- the line of an answer, without its end; Ok has none
abbrev pub answer_text : Bounds → Answer → List ℕ
answer_text bounds Answer.Ok = []
answer_text bounds Answer.Usage = codes "usage: piperench MODE FIRST [SECOND] [--stripes P] [--stall FILE] [--fabric F] [--narrow]"
answer_text bounds (Answer.Syntax token) = cause_text bounds (Cause.Syntax token)
answer_text bounds (Answer.Scope rule item) = cause_text bounds (Cause.Scope rule item)
answer_text bounds (Answer.NoWidth equation) = cause_text bounds (Cause.NoWidth equation)
answer_text bounds (Answer.NoFit unit) = cause_text bounds (Cause.NoFit unit)
answer_text bounds (Answer.Limit which) = cause_text bounds (Cause.Limit which)
answer_text bounds (Answer.BadSample line) = cause_text bounds (Cause.BadSample line)
answer_text bounds (Answer.BadStall place) = codes "bad stall: byte " ++ decimal place
answer_text bounds (Answer.BadConfig rule place) = codes "bad config: rule " ++ decimal rule ++ codes " word " ++ decimal place
answer_text bounds (Answer.BadList line) = codes "bad list: line " ++ decimal line
answer_text bounds (Answer.Part program cause) = codes "program " ++ decimal program ++ codes ": " ++ cause_text bounds cause
answer_text bounds Answer.ReadFault = codes "read fault"
answer_text bounds Answer.WriteFault = codes "write fault"
answer_text bounds Answer.Memory = codes "out of memory"

-- the line with its end
abbrev pub note_of : Bounds → Answer → List ℕ
note_of bounds Answer.Ok = []
note_of bounds answer = answer_text bounds answer ++ 10 ∷ []
