-- Files that are written of a program's configuration. Nothing is asked of their constants, nor of their lengths on the base fabric.
use Rattle.std.specs.Prelude.{◌≡◌, ◌≤◌, ◌^◌, ℕ, List, length, Option, Some}
use Rattle.pr_base.specs.declared.fabrics.Fabric.{Fabric}
use Rattle.pr_base.specs.Limits.{most_config_bytes}
use Rattle.pr_conf.specs.Shape.{Shape}
use Rattle.pr_tool_modes.specs.declared.targets.Target.{Target}
use Rattle.pr_tool_modes.specs.declared.texts.Form.{Form}
use Rattle.pr_tool_modes.specs.Folds.{mark_after}
use Rattle.pr_tool_modes.specs.Sources.{Text, Gives}
use Rattle.pr_tool_modes.specs.Texts.{text_in}

-- the program in one file has a configuration, and another file has what is written of it
pub record IsWritten (files : List ℕ → Option (List ℕ)) (name : List ℕ) (target : Target) (kept : List ℕ) : Type 0 where
  pub N : ℕ
  pub P : ℕ
  pub conf : Shape
  pub gives : Gives (Some files) (Text name target) N P conf
  pub file : files kept ≡ Some (text_in Form.File N P conf)
  pub short : target.fabric ≡ Fabric.Wide → length (text_in Form.File N P conf) ≤ most_config_bytes

-- the same of the checkpoint after these samples
pub record IsMarkWritten (files : List ℕ → Option (List ℕ)) (name : List ℕ) (target : Target) (rows : List (List ℕ)) (kept : List ℕ) : Type 0 where
  pub N : ℕ
  pub P : ℕ
  pub conf : Shape
  pub gives : Gives (Some files) (Text name target) N P conf
  pub few : length rows ≤ 2 ^ 40
  pub file : files kept ≡ Some (mark_after N P 0 conf rows)
  pub short : target.fabric ≡ Fabric.Wide → length (mark_after N P 0 conf rows) ≤ most_config_bytes
