-- The streams of the names of a program on samples, and how much of their text is written.
use Rattle.std.specs.Prelude.{◌≡◌, ◌⊎◌, ◌≤◌, ⊤, ℕ, List, map, length, take}
use Rattle.std.specs.List.{range_with_len}
use Rattle.pr_base.specs.declared.caps.Cap.{Cap}
use Rattle.pr_edge.specs.Count.{Rose}
use Rattle.pr_edge.specs.Files.{Told, OfFile, HasReadCause}
use Rattle.pr_edge.specs.Tape.{Tape, Appends, AppendsFront}
use Rattle.pr_lang.specs.declared.trees.Program.{Program}
use Rattle.pr_flat.specs.Forms.{Stream}
use Rattle.pr_scope.specs.Walk.{program_walk, turns_after}
use Rattle.pr_probe.specs.Instances.{instances_of}
use Rattle.pr_probe.specs.Probes.{numbers_at}
use Rattle.pr_samples.specs.Fed.{Ending, End, BadSample, Limit}
use Rattle.pr_tool_answers.specs.declared.answers.Answer.{Answer}
use Rattle.pr_tool_modes.specs.Files.{IsText}
use Rattle.pr_tool_modes.specs.Programs.{inputs_of}
use Rattle.pr_tool_modes.specs.Samples.{fed_in}
use Rattle.pr_lens_probe.specs.Given.{HasStreams}
use Rattle.pr_lens_tracks.specs.Texts.{streams_text}
use Rattle.pr_lens_signals.specs.Calls.{Call}
use Rattle.pr_lens_signals.specs.Manners.{AreNamed, Manner, look_in, tracks_of}

-- the numbers of streams at each of so many samples
abbrev pub rows_of : ℕ → List Stream → List (List ℕ)
rows_of count streams = map (λ n. numbers_at n streams) (range_with_len 0 count)

-- on these samples the instances of a program stand for streams, and this is the text of their names and numbers
pub record IsSignals (manner : Manner) (program : Program) (samples : List (List ℕ)) (text : List ℕ) : Type 0 where
  pub outputs : List Stream
  pub streams : List Stream
  pub has : HasStreams program samples (instances_of program) outputs streams
  pub named : AreNamed manner program
  pub is : text ≡ streams_text manner.form (tracks_of manner.signed (instances_of program) (map (look_in program) streams)) (rows_of (length samples) streams)

-- these are all samples of the file, they end so, and the whole text on them is written
pub record IsWhole (manner : Manner) (told : Told) (name : List ℕ) (program : Program) (ending : Ending) (old new : Tape) : Type 0 where
  pub file : List ℕ
  pub is : IsText told name file
  pub ends : (fed_in (inputs_of program) file).ending ≡ ending
  pub text : List ℕ
  pub signals : IsSignals manner program (fed_in (inputs_of program) file).samples text
  pub written : Appends old new text

-- a fact of the bytes that a file may have, and of its own where they are told
pub record OfBytes (told : Told) (name : List ℕ) (Holds : List ℕ → Type 0) : Type 0 where
  pub bytes : List ℕ
  pub holds : Holds bytes
  pub own : OfFile told name Holds

-- these are first samples of a file
abbrev pub AreFirst : List ℕ → List (List ℕ) → List ℕ → Type 0
AreFirst widths samples file = (k : ℕ) × (samples ≡ take k (fed_in widths file).samples)

-- the text on first samples of the file is put
pub record IsBegun (manner : Manner) (told : Told) (name : List ℕ) (program : Program) (Put : List ℕ → Type 0) : Type 0 where
  pub samples : List (List ℕ)
  pub first : OfBytes told name (AreFirst (inputs_of program) samples)
  pub text : List ℕ
  pub signals : IsSignals manner program samples text
  pub put : Put text

-- a program leaves no turn, in which an instance would be asked for
abbrev pub LeavesNoTurn : Program → Type 0
LeavesNoTurn program = 65536 ≤ turns_after (program_walk program)

-- what it comes to that the signals of a program are asked for in this manner, on the samples of the file of this name
abbrev pub IsShown : Manner → List ℕ → Program → Call → Answer → Type 0
IsShown manner name program c Answer.Ok = IsWhole manner c.told name program End c.old c.new
IsShown manner name program c (Answer.BadSample line) = IsWhole manner c.told name program (BadSample line) c.old c.new
IsShown manner name program c (Answer.Limit which) =
    ((which ≡ Cap.Turns) × LeavesNoTurn program × (c.new ≡ c.old)) ⊎ IsWhole manner c.told name program (Limit which) c.old c.new
IsShown manner name program c Answer.ReadFault = HasReadCause c.told name c.reads_before c.reads_now × IsBegun manner c.told name program (Appends c.old c.new)
IsShown manner name program c Answer.WriteFault = Rose c.writes_before c.writes_now × IsBegun manner c.told name program (AppendsFront c.old c.new)
IsShown manner name program c Answer.Memory = (c.new ≡ c.old) ⊎ IsBegun manner c.told name program (AppendsFront c.old c.new)
IsShown manner name program c answer = ⊥

-- why the instances of a program are not shown
abbrev pub IsUnshown : Program → Answer → Type 0
IsUnshown program (Answer.Limit which) = (which ≡ Cap.Turns) × LeavesNoTurn program
IsUnshown program Answer.Memory = ⊤
IsUnshown program answer = ⊥
