-- One program, as its text and as its configuration file.
use Rattle.std.specs.Prelude.{◌≡◌, ◌≤◌, ℕ, true, List, length, Option, Some}
use Rattle.pr_base.specs.Limits.{most_config_bytes}
use Rattle.pr_code.specs.Spelling.{has_bytes}
use Rattle.pr_conf.specs.Shape.{Shape}
use Rattle.pr_tool_modes.specs.declared.targets.Target.{Target}
use Rattle.pr_tool_modes.specs.declared.texts.Form.{Form}
use Rattle.pr_tool_modes.specs.Jobs.{Job}
use Rattle.pr_tool_modes.specs.Sources.{ConfSource, Text, Gives}
use Rattle.pr_tool_modes.specs.Texts.{text_in}

-- the same job, with the configuration of another source
abbrev pub from_source : ConfSource → Job → Job
from_source source j = record j { source = source }

-- the program in one file has a configuration, whose constants are bytes, and another file has what is written of it; that file
-- is no longer than a configuration file may be
pub record IsKept (files : List ℕ → Option (List ℕ)) (name : List ℕ) (target : Target) (kept : List ℕ) : Type 0 where
  pub N : ℕ
  pub P : ℕ
  pub conf : Shape
  pub gives : Gives (Some files) (Text name target) N P conf
  pub bytes : has_bytes conf ≡ true
  pub file : files kept ≡ Some (text_in Form.File N P conf)
  pub short : length (text_in Form.File N P conf) ≤ most_config_bytes
