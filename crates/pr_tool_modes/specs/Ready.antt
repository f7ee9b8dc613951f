-- What a run takes.
use Rattle.std.specs.Prelude.{◌≡◌, ◌≤◌, ◌^◌, ℕ, List, [], length}
use Rattle.pr_base.specs.Limits.{most_stall_bytes}
use Rattle.pr_samples.specs.declared.feed.Feed.{Feed}
use Rattle.pr_samples.specs.declared.stall.Stall.{Stall}
use Rattle.pr_samples.specs.Stall.{turns_left}
use Rattle.pr_samples.specs.Feed.{name_of, widths_of, limit_of, most_of}
use Rattle.pr_machine.specs.Stands.{Stands, conf_of, stripes_of}
use Rattle.pr_run.specs.Setting.{IsFresh}
use Rattle.pr_run.specs.Turns.{Going}

-- a feed of at most so many samples over the file of this name, with inputs of these widths, that was not asked yet
pub record IsFeedOf (most : ℕ) (widths name : List ℕ) (feed : Feed) : Type 0 where
  pub fresh : IsFresh feed
  pub file : name_of feed ≡ name
  pub inputs : widths_of feed ≡ widths
  pub limit : limit_of feed ≡ 2 ^ 44
  pub bound : most_of feed ≡ most

-- a machine that was just loaded, a feed of its samples over the file of this name, and a stall text
pub record IsReady {N P : ℕ} (machine : Going N P) (feed : Feed) (stall : Stall) (most : ℕ) (name : List ℕ) : Type 0 where
  pub loaded : Stands machine (conf_of machine) (stripes_of machine) []
  pub opened : IsFeedOf most (conf_of machine).inputs name feed
  pub few : length (turns_left stall) ≤ most_stall_bytes
