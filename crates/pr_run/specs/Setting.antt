-- What a run is given.
use Rattle.std.specs.Prelude.{◌≡◌, ◌<◌, ◌≤◌, ◌^◌, ℕ, Bool, List, map, length}
use Rattle.pr_base.specs.Limits.{most_stall_bytes}
use Rattle.pr_base.specs.Rows.{row_bytes}
use Rattle.pr_edge.specs.Files.{View}
use Rattle.pr_edge.specs.Tape.{Tape}
use Rattle.pr_samples.specs.declared.stall.Held.{Held as Sides}
use Rattle.pr_samples.specs.declared.stall.Stall.{Stall}
use Rattle.pr_samples.specs.declared.feed.Feed.{Feed}
use Rattle.pr_samples.specs.Stall.{turns_left}
use Rattle.pr_samples.specs.Feed.{widths_of, given_of, most_of, reads_nothing, StandsFor}
use Rattle.pr_conf.specs.Shape.{Shape}
use Rattle.pr_machine.specs.declared.machine.Machine.{Machine}
use Rattle.pr_machine.specs.declared.machine.Running.{Running}
use Rattle.pr_machine.specs.declared.loaded.Loaded.{Loaded}
use Rattle.pr_machine.specs.Stands.{conf_of, stripes_of}
use Rattle.pr_run_script.specs.Script.{Held}

-- the sides that are held in a turn, as the turns of a run see them
abbrev pub held_of : Sides → Held
held_of sides = record { input = sides.input; output = sides.output }

-- the turns that a stall text has left
abbrev pub stall_turns : Stall → List Held
stall_turns stall = map held_of (turns_left stall)

-- a configuration and its stripes, the turns of a stall text, a feed, what its shelf shows and what the sink tells, all
-- as they are before the run, and whether the log is asked for
pub record Setting : Type 0 where
  pub conf : Shape
  pub stripes : ℕ
  pub stall : List Held
  pub feed : Feed
  pub shelf : View
  pub tape : Tape
  pub log : Bool

abbrev pub setting_of : {N P : ℕ} → Machine N P Running (Loaded N P) → Stall → Feed → View → Tape → Bool → Setting
setting_of machine stall feed shelf tape log = record {
  conf = conf_of machine;
  stripes = stripes_of machine;
  stall = stall_turns stall;
  feed = feed;
  shelf = shelf;
  tape = tape;
  log = log;
}

-- the number of stages
abbrev pub stages_of : Setting → ℕ
stages_of s = length s.conf.stages

-- samples as the bytes that the machine is offered
abbrev pub pieces : Setting → List (List ℕ) → List (List ℕ)
pieces s rows = map (row_bytes (widths_of s.feed)) rows

-- a feed that was not asked yet
pub record IsFresh (feed : Feed) : Type 0 where
  pub bytes : reads_nothing feed
  pub samples : given_of feed ≡ 0
  pub few : most_of feed ≤ 2 ^ 40
  pub stands : (file : List ℕ) → StandsFor feed file

-- the bounds of a setting, and that the feed is one of the configuration's inputs
pub record IsSet (s : Setting) : Type 0 where
  pub widths : widths_of s.feed ≡ s.conf.inputs
  pub some : 0 < stages_of s
  pub stages : stages_of s ≤ 32768
  pub two : 2 ≤ s.stripes
  pub most : s.stripes ≤ 256
  pub turns : length s.stall ≤ most_stall_bytes
  pub samples : most_of s.feed ≤ 2 ^ 40
