-- Texts of configurations.
use Rattle.std.specs.Prelude.{◌≡◌, ◌⊎◌, ℕ, List, Option, Some}
use Rattle.pr_edge.specs.Count.{Rose}
use Rattle.pr_edge.specs.Tape.{Tape, Appends, AppendsFront}
use Rattle.pr_conf.specs.Shape.{Shape}
use Rattle.pr_code.specs.Spelling.{bytes_of_words, words_of}
use Rattle.pr_code_show.specs.Shown.{shown}
use Rattle.pr_tool_answers.specs.declared.answers.Answer.{Answer}
use Rattle.pr_tool_modes.specs.declared.texts.Form.{Form}
use Rattle.pr_tool_modes.specs.Files.{ShowsFault}
use Rattle.pr_tool_modes.specs.Sources.{ConfSource, Gives, IsGood, IsSourceRefusal, IsRefusedSource}
use Rattle.pr_tool_modes.specs.Calls.{Call}

-- the text of a configuration: its summary, or its file in the newer format
abbrev pub text_in : Form → ℕ → ℕ → Shape → List ℕ
text_in Form.Summary N P c = shown c
text_in Form.File N P c = bytes_of_words (words_of N P c)

-- what became of a text that was to be written, by what the sink tells and its count of faults, before and after
abbrev pub IsPut : List ℕ → Tape → Tape → ℕ → ℕ → Answer → Type 0
IsPut text old new before now Answer.Ok = Appends old new text
IsPut text old new before now Answer.WriteFault = AppendsFront old new text × Rose before now
IsPut text old new before now Answer.Memory = new ≡ old
IsPut text old new before now answer = ⊥

-- there is no configuration, and nothing is written
pub record HasNoText (source : ConfSource) (k : Call) (answer : Answer) : Type 0 where
  pub cause : IsSourceRefusal k.before.told source k.before.faults k.now.faults answer
  pub unwritten : k.new ≡ k.old
  pub shown : ShowsFault k.before.faults k.now.faults answer

-- the text of the configuration was to be written; no read failed
pub record HasText (form : Form) (source : ConfSource) (k : Call) (answer : Answer) : Type 0 where
  pub N : ℕ
  pub P : ℕ
  pub conf : Shape
  pub gives : Gives k.before.told source N P conf
  pub put : IsPut (text_in form N P conf) k.old k.new k.out_before k.out_now answer
  pub steady : k.now.faults ≡ k.before.faults

-- what a mode comes to that writes a text of a configuration
abbrev pub IsTexted : Form → ConfSource → Call → Answer → Type 0
IsTexted form source k answer = HasNoText source k answer ⊎ HasText form source k answer

-- ---- what is written over told files
-- something is put of the text of the source's configuration
pub record HasWritten (files : List ℕ → Option (List ℕ)) (form : Form) (source : ConfSource) (put : List ℕ → Type 0) : Type 0 where
  pub N : ℕ
  pub P : ℕ
  pub conf : Shape
  pub gives : Gives (Some files) source N P conf
  pub text : put (text_in form N P conf)

-- the text is written; after a failed write first bytes of it are; and else nothing is
abbrev pub AreTextBytes : (List ℕ → Option (List ℕ)) → Form → ConfSource → Call → Answer → Type 0
AreTextBytes files form source k Answer.Ok = HasWritten files form source (Appends k.old k.new)
AreTextBytes files form source k Answer.WriteFault = HasWritten files form source (AppendsFront k.old k.new)
AreTextBytes files form source k answer = k.new ≡ k.old

-- ---- the verdict
abbrev pub IsTextVerdict : (List ℕ → Option (List ℕ)) → ConfSource → Answer → Type 0
IsTextVerdict files source answer = IsRefusedSource files source answer ⊎ ((answer ≡ Answer.Ok) × IsGood (Some files) source)
