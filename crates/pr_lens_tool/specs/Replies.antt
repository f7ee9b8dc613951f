-- What is told of an answer to an order, with the name of the file.
use Rattle.std.specs.Prelude.{◌≡◌, ℕ, Bool, false, List, [], ◌++◌, codes, if◌then◌else◌, Option, Some, None, option_and_then, option_map, IfOk, slice_get}
use Rattle.pr_base.specs.declared.caps.Cap.{Cap}
use Rattle.pr_base.specs.declared.fabrics.Fabric.{Fabric}
use Rattle.pr_tool_answers.specs.declared.answers.Answer.{Answer}
use Rattle.pr_tool.specs.declared.notes.Bounds.{Bounds}
use Rattle.pr_tool.specs.Notes.{note_of}
use Rattle.pr_lens_tool.specs.declared.outcomes.Outcome.{Outcome}
use Rattle.pr_lens_tool.specs.declared.outcomes.Outcome.TheVariants.{NoStream, Plain, Refused, Streamed}
use Rattle.pr_lens_tool.specs.declared.outcomes.Reply.{Reply}
use Rattle.pr_lens_tool.specs.Outcomes.{line_by, own_line}
use Rattle.pr_lens_tool.specs.Asked.{Asked, AskedTarget, AskedTask, Bench, Signals, Whole}
use Rattle.pr_lens_why.specs.declared.helps.Help.{Help}
use Rattle.pr_lens_why.specs.Helps.{help_text}
use Rattle.pr_lens_show.specs.Names.{name_text, word_of}
use Rattle.pr_lens_tracks.specs.Names.{names_in}
use Rattle.pr_lens_tool.specs.Programs.{bounds_for}

-- ---- a program that is refused
abbrev pub fabric_words : Fabric → List ℕ
fabric_words Fabric.Base = []
fabric_words Fabric.Wide = codes " --fabric wide"

abbrev pub narrow_words : Bool → List ℕ
narrow_words narrowed = if narrowed then codes " --narrow" else []

-- the call that tells more of it, with the options of this one
unfoldable pub why_line : AskedTarget → List ℕ
why_line target = codes "`pipelens why " ++ word_of target.file ++ fabric_words target.fabric ++ narrow_words target.narrowed ++ codes "` tells more\n"

-- the answer, which options make it fit, and this call
abbrev pub refused_line : AskedTarget → Answer → Help → List ℕ
refused_line target answer help = note_of (bounds_for target.fabric) answer ++ help_text help ++ why_line target

-- of a program that no option helps
abbrev pub bare_line : AskedTarget → Answer → List ℕ
bare_line target answer = refused_line target answer (record { narrow = false; wide = false })

-- ---- a file that cannot be read
abbrev pub fault_line : List ℕ → List ℕ
fault_line name = codes "read fault: " ++ name_text name ++ codes "\n"

-- the samples of a task, where it has some
abbrev pub samples_of : AskedTask → Option (List ℕ)
samples_of (Signals samples manner) = Some samples
samples_of (Whole (Bench samples name seed)) = Some samples
samples_of task = None

-- ---- a name that no stream has
abbrev pub stream_line : List ℕ → List ℕ
stream_line name = codes "no stream: " ++ name_text name ++ codes "\n"

-- the names that are shown as two's complement
abbrev pub signed_of : AskedTask → Option (List ℕ)
signed_of (Signals samples manner) = manner.signed
signed_of (Whole product) = None

-- the one at a place
abbrev pub signed_at : AskedTask → ℕ → Option (List ℕ)
signed_at task place = option_and_then (λ list. slice_get (names_in list) place) (signed_of task)

abbrev pub foreign_line : AskedTask → ℕ → Option (List ℕ)
foreign_line task place = option_map stream_line (signed_at task place)

-- ---- either; other answers have their own line
abbrev pub answer_line : AskedTarget → Answer → Option (List ℕ)
answer_line target Answer.ReadFault = Some (fault_line target.file)
answer_line target (Answer.Syntax token) = Some (bare_line target (Answer.Syntax token))
answer_line target (Answer.Scope rule item) = Some (bare_line target (Answer.Scope rule item))
answer_line target (Answer.NoWidth equation) = Some (bare_line target (Answer.NoWidth equation))
answer_line target (Answer.NoFit unit) = Some (bare_line target (Answer.NoFit unit))
answer_line target (Answer.Limit Cap.ProgramBytes) = None
answer_line target (Answer.Limit which) = Some (bare_line target (Answer.Limit which))
answer_line target answer = None

abbrev pub line_for : Asked → Outcome → Option (List ℕ)
line_for asked (Plain answer) = answer_line asked.target answer
line_for asked (Refused answer help) = Some (refused_line asked.target answer help)
line_for asked (Streamed Answer.ReadFault) = option_map fault_line (samples_of asked.task)
line_for asked (NoStream place) = foreign_line asked.task place
line_for asked outcome = None

-- the line that a reply has in place of the outcome's own, where there is one, is the one for what was asked; it is left out for
-- want of memory alone
abbrev pub HasLine : Option Asked → Reply → Type 0
HasLine asked reply = IfOk reply.line (λ line. option_map (λ v. v.items) line ≡ option_and_then (λ a. line_for a reply.outcome) asked)

-- ---- the outcome's own line
-- the limits that it tells are those for the fabric that is asked for
abbrev pub bounds_asked : Option Asked → Bounds
bounds_asked None = bounds_for Fabric.Base
bounds_asked (Some order) = bounds_for order.target.fabric

-- the line that a reply has where none stands in its place is that of the outcome, with these limits
abbrev pub HasOwnLine : Option Asked → Reply → Type 0
HasOwnLine asked reply = own_line reply ≡ line_by (bounds_asked asked) reply.outcome
