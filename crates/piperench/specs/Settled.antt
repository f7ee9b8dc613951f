-- What a call comes to, by what the tool answered and whether its last results went through.
use Rattle.std.specs.Prelude.{ℕ, Bool, List, None, if◌then◌else◌}
use Rattle.pr_tool.specs.Notes.{note_of}
use Rattle.pr_tool.specs.Words.{bounds_in}
use Rattle.pr_tool_answers.specs.declared.answers.Answer.{Answer}

-- what the tool answered, if they did, and else a write fault
abbrev pub settled : Answer → Bool → Answer
settled told through = if through then told else Answer.WriteFault

-- the line that was held back, if they did, and else that of a write fault
abbrev pub line_after : List ℕ → Bool → List ℕ
line_after held through = if through then held else note_of (bounds_in None) Answer.WriteFault
