-- Configuration files, on the fabric that they name.
use Rattle.std.specs.Prelude.{◌≡◌, ◌≤◌, ℕ, List, length, Option, Some, None, if◌then◌else◌, ⊤}
use Rattle.pr_base.specs.declared.caps.Cap.{Cap}
use Rattle.pr_base.specs.Limits.{most_config_bytes}
use Rattle.pr_edge.specs.Files.{Told}
use Rattle.pr_conf.specs.Shape.{Shape}
use Rattle.pr_code.specs.Fabrics.{names_wide}
use Rattle.pr_code.specs.Spelling.{IsFile}
use Rattle.pr_code.specs.Rules.{Broken, bad_word, shape_read}
use Rattle.pr_tool_answers.specs.declared.answers.Answer.{Answer}
use Rattle.pr_tool_modes.specs.Files.{IsText, IsFileRefusal}

-- the fabric of a file: the wide one where it names it, and else the base one
abbrev pub columns_of : List ℕ → ℕ
columns_of bytes = if names_wide bytes then 32 else 16

abbrev pub registers_of : List ℕ → ℕ
registers_of bytes = if names_wide bytes then 16 else 8

-- the configuration that a file reads as
abbrev pub configuration_in : List ℕ → Shape
configuration_in bytes = shape_read (columns_of bytes) bytes

-- the rule that a word of a file breaks, and its place, for the first that breaks one
abbrev pub broken_in : List ℕ → Option Broken
broken_in bytes = bad_word (columns_of bytes) (registers_of bytes) bytes

-- the bytes are a file of this configuration, which is for the fabric that they name
pub record IsLoadable (N P : ℕ) (c : Shape) (bytes : List ℕ) : Type 0 where
  pub columns : N ≡ columns_of bytes
  pub registers : P ≡ registers_of bytes
  pub good : broken_in bytes ≡ None
  pub read : c ≡ configuration_in bytes
  pub is : IsFile N P c bytes

-- there is such a file of this name, where the files are told
pub record HasConfiguration (told : Told) (name : List ℕ) (N P : ℕ) (c : Shape) : Type 0 where
  pub bytes : List ℕ
  pub file : IsText told name bytes
  pub short : length bytes ≤ most_config_bytes
  pub loadable : IsLoadable N P c bytes

-- a word breaks this rule at this place
abbrev pub broken_answer : Broken → Answer
broken_answer broken = Answer.BadConfig broken.rule broken.place

pub record HasBroken (broken : Option Broken) (answer : Answer) : Type 0 where
  pub word : Broken
  pub first : broken ≡ Some word
  pub answers : answer ≡ broken_answer word

-- why bytes are not read: a word breaks its rule, or memory was wanting
abbrev pub IsWordRefusal : Option Broken → Answer → Type 0
IsWordRefusal broken (Answer.BadConfig rule place) = broken ≡ Some (record { rule = rule; place = place })
IsWordRefusal broken Answer.Memory = ⊤
IsWordRefusal broken answer = ⊥

-- why bytes are no configuration
abbrev pub IsBadConfiguration : List ℕ → Answer → Type 0
IsBadConfiguration bytes answer = HasBroken (broken_in bytes) answer

-- why no configuration came of a file
abbrev pub IsNotConfigured : Told → List ℕ → ℕ → ℕ → Answer → Type 0
IsNotConfigured told name before now answer = IsFileRefusal most_config_bytes Cap.ConfigBytes IsBadConfiguration told name before now answer
