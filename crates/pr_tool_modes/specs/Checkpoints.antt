-- Checkpoints, on the fabric that they name.
use Rattle.std.specs.Prelude.{◌≡◌, ◌≤◌, ℕ, List, length, drop, Option, None}
use Rattle.pr_base.specs.declared.caps.Cap.{Cap}
use Rattle.pr_base.specs.Limits.{most_config_bytes}
use Rattle.pr_edge.specs.Files.{Told}
use Rattle.pr_conf.specs.Shape.{Shape}
use Rattle.pr_code.specs.Rules.{Broken}
use Rattle.pr_code.specs.Marks.{IsMark, bad_mark, count_read, shape_marked}
use Rattle.pr_tool_answers.specs.declared.answers.Answer.{Answer}
use Rattle.pr_tool_modes.specs.Files.{IsText, IsFileRefusal}
use Rattle.pr_tool_modes.specs.Configurations.{columns_of, registers_of, HasBroken}

-- what stands behind the first word and the count: a configuration file, which names the fabric
abbrev pub file_in : List ℕ → List ℕ
file_in bytes = drop 12 bytes

-- the rule that a word of a checkpoint breaks, and its place, for the first that breaks one
abbrev pub broken_mark : List ℕ → Option Broken
broken_mark bytes = bad_mark (columns_of (file_in bytes)) (registers_of (file_in bytes)) bytes

-- the bytes are the checkpoint of this configuration after so many samples, which is for the fabric that they name
pub record IsResumable (N P count : ℕ) (c : Shape) (bytes : List ℕ) : Type 0 where
  pub columns : N ≡ columns_of (file_in bytes)
  pub registers : P ≡ registers_of (file_in bytes)
  pub good : broken_mark bytes ≡ None
  pub counted : count ≡ count_read bytes
  pub read : c ≡ shape_marked (columns_of (file_in bytes)) bytes
  pub is : IsMark N P count c bytes

-- there is such a file of this name, where the files are told
pub record HasMark (told : Told) (name : List ℕ) (N P count : ℕ) (c : Shape) : Type 0 where
  pub bytes : List ℕ
  pub file : IsText told name bytes
  pub short : length bytes ≤ most_config_bytes
  pub resumable : IsResumable N P count c bytes

-- why bytes are no checkpoint
abbrev pub IsBadMark : List ℕ → Answer → Type 0
IsBadMark bytes answer = HasBroken (broken_mark bytes) answer

-- why no checkpoint came of a file
abbrev pub IsNotMarked : Told → List ℕ → ℕ → ℕ → Answer → Type 0
IsNotMarked told name before now answer = IsFileRefusal most_config_bytes Cap.ConfigBytes IsBadMark told name before now answer
