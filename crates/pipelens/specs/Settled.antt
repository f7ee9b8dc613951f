-- What a call comes to, by what the companion replied and what became of its last results.
use Rattle.std.specs.Prelude.{Bool, true, false, Option, None, Ok, if◌then◌else◌}
use Rattle.pr_base.specs.declared.fabrics.Fabric.{Fabric}
use Rattle.pr_system.specs.declared.gathering.Finished.{Finished}
use Rattle.pr_system.specs.Gathering.{are_through}
use Rattle.pr_tool_answers.specs.declared.answers.Answer.{Answer}
use Rattle.pr_lens_tool.specs.declared.outcomes.Outcome.{Outcome}
use Rattle.pr_lens_tool.specs.declared.outcomes.Outcome.TheVariants.{Plain, Streamed}
use Rattle.pr_lens_tool.specs.declared.outcomes.Reply.{Reply}
use Rattle.pr_lens_tool.specs.Programs.{bounds_for}

-- a write failed
abbrev pub is_write_fault : Outcome → Bool
is_write_fault (Plain Answer.WriteFault) = true
is_write_fault (Streamed Answer.WriteFault) = true
is_write_fault outcome = false

-- an outcome, and nothing more
abbrev pub plain_reply : Outcome → Reply
plain_reply outcome = record { outcome = outcome; bounds = bounds_for Fabric.Base; line = Ok None }

-- what was replied, if the last results went through, and else a write fault
abbrev pub settled : {W : Type 0} → Reply → Option (Finished W) → Reply
settled reply last = if are_through last then reply else plain_reply (Plain Answer.WriteFault)
