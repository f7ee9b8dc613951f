-- What comes of a checkpoint from which a run goes on, whatever its count.
use Rattle.std.specs.Prelude.{◌≡◌, ◌≢◌, ◌≤◌, ◌^◌, ◌++◌, ℕ, true, List, length, Option, Some}
use Rattle.pr_base.specs.Rows.{written}
use Rattle.pr_base.specs.Limits.{most_config_bytes}
use Rattle.pr_code.specs.Spelling.{has_bytes}
use Rattle.pr_conf.specs.Shape.{Shape}
use Rattle.pr_conf.specs.After.{conf_after}
use Rattle.pr_conf.specs.Through.{result_numbers}
use Rattle.pr_lang.specs.declared.trees.Program.{Program}
use Rattle.pr_lang_meaning.specs.Programs.{out}
use Rattle.pr_tool_answers.specs.declared.answers.Answer.{Answer}
use Rattle.pr_tool_modes.specs.declared.benches.Bench.{Bench}
use Rattle.pr_tool_modes.specs.declared.targets.Target.{Target}
use Rattle.pr_tool_modes.specs.Calls.{Call}
use Rattle.pr_tool_modes.specs.Executions.{HasCome, IsRunVerdict}
use Rattle.pr_tool_modes.specs.Folds.{mark_after}
use Rattle.pr_tool_modes.specs.Jobs.{Resumption, resumed}
use Rattle.pr_tool_modes.specs.Lines.{AreConfigurationLines}
use Rattle.pr_tool_modes.specs.Programs.{HasProgram}
use Rattle.pr_tool_modes.specs.Samples.{pieces}
use Rattle.pr_tool_modes.specs.Sources.{Text, Gives}

-- this is none of its files
abbrev pub IsNoFile : Resumption → List ℕ → Type 0
IsNoFile r q = (q ≢ r.name) × (q ≢ r.second) × (r.stall ≢ Some q)

-- the further samples are run
abbrev pub HasMoved : Resumption → Call → Bench → Bench → Answer → Type 0
HasMoved r k was bench answer = (count : ℕ) × HasCome (resumed r count) k was bench answer

-- the lines of their results are written
abbrev pub AreMovedLines : (List ℕ → Option (List ℕ)) → Resumption → Call → Bench → Bench → Answer → Type 0
AreMovedLines files r k was bench answer = (count : ℕ) × AreConfigurationLines files (resumed r count) k was bench answer

-- by the files alone
abbrev pub IsMoveVerdict : (List ℕ → Option (List ℕ)) → Resumption → Answer → Type 0
IsMoveVerdict files r answer = (count : ℕ) × IsRunVerdict files (resumed r count) answer

-- ---- a program that goes on
-- a program that no point refuses is in the file of this name, and its lines on samples that follow others are those of its
-- configuration after these
pub record GoesOn (files : List ℕ → Option (List ℕ)) (name : List ℕ) (N P : ℕ) (conf : Shape) (xs ys : List (List ℕ)) : Type 0 where
  pub program : Program
  pub widths : List ℕ
  pub has : HasProgram (Some files) name program widths
  pub lines : written (out program (xs ++ ys)) ≡ written (out program xs) ++ written (result_numbers N P (conf_after N P conf (pieces conf xs)) (pieces conf ys))

-- the program in one file has a configuration, and another file has the checkpoint of it after these samples, whose constants are
-- bytes; that file is no longer than a checkpoint may be
pub record IsMarkKept (files : List ℕ → Option (List ℕ)) (name : List ℕ) (target : Target) (rows : List (List ℕ)) (kept : List ℕ) : Type 0 where
  pub N : ℕ
  pub P : ℕ
  pub conf : Shape
  pub gives : Gives (Some files) (Text name target) N P conf
  pub few : length rows ≤ 2 ^ 40
  pub bytes : has_bytes (conf_after N P conf (pieces conf rows)) ≡ true
  pub file : files kept ≡ Some (mark_after N P 0 conf rows)
  pub short : length (mark_after N P 0 conf rows) ≤ most_config_bytes
