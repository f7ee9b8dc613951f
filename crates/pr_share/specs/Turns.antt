-- One turn of one program: it begins with a machine that was just resumed, and ends when nothing is in flight.
use Rattle.std.specs.Prelude.{◌≡◌, ◌<◌, ◌≤◌, ◌-◌, ◌==◌, ◌&&◌, ℕ, Bool, true, false, List, [], ◌++◌, length, map, take}
use Rattle.pr_base.specs.Rows.{row_bytes}
use Rattle.pr_edge.specs.Files.{Told, HasReadCause}
use Rattle.pr_edge.specs.Tape.{Tape, Appends, AppendsFront}
use Rattle.pr_samples.specs.declared.feed.Feed.{Feed}
use Rattle.pr_samples.specs.declared.feed.Got.{Got}
use Rattle.pr_samples.specs.Feed.{name_of}
use Rattle.pr_samples.specs.Got.{is_sample}
use Rattle.pr_machine_account.specs.Account.{account, left}
use Rattle.pr_conf.specs.Shape.{Shape}
use Rattle.pr_conf.specs.Through.{result_numbers}
use Rattle.pr_machine.specs.declared.machine.Machine.{Machine}
use Rattle.pr_machine.specs.declared.machine.Running.{Running}
use Rattle.pr_machine.specs.declared.loaded.Loaded.{Loaded}
use Rattle.pr_machine.specs.Stands.{Stands, History, waiting_samples, waiting_results, conf_of, stripes_of}
use Rattle.pr_run_script.specs.Script.{Run}
use Rattle.pr_share_text.specs.Text.{marked}
use Rattle.pr_share.specs.declared.uses.Use.{Use}
use Rattle.pr_share.specs.Fed.{HasFed}

-- a running machine
abbrev pub Going : ℕ → ℕ → Type 0
Going N P = Machine N P Running (Loaded N P)

-- what a turn is given: the configuration and its stripes, the program's number, the feed as it was at first, the
-- samples of earlier turns, and what the sink tells
pub record Setting : Type 0 where
  pub conf : Shape
  pub stripes : ℕ
  pub number : ℕ
  pub first : Feed
  pub earlier : List (List ℕ)
  pub tape : Tape

abbrev pub stages_of : Setting → ℕ
stages_of s = length s.conf.stages

-- samples as the bytes that the machine is offered
abbrev pub pieces : Shape → List (List ℕ) → List (List ℕ)
pieces c rows = map (row_bytes c.inputs) rows

-- the bounds of a setting
pub record IsSet (s : Setting) : Type 0 where
  pub some : 0 < stages_of s
  pub stages : stages_of s ≤ 32768
  pub two : 2 ≤ s.stripes
  pub most : s.stripes ≤ 256

-- the lines of the results that were taken in a history
abbrev pub taken_text : ℕ → ℕ → Setting → History → List ℕ
taken_text N P s h =
    let a = account (stages_of s) s.stripes h in
    marked s.number (take a.taken (result_numbers N P s.conf a.offered))

-- all lines of these samples
abbrev pub whole_text : ℕ → ℕ → Setting → List (List ℕ) → List ℕ
whole_text N P s rows = marked s.number (result_numbers N P s.conf (pieces s.conf rows))

-- the lines of all results of the samples that were offered in a history
abbrev pub offered_text : ℕ → ℕ → Setting → History → List ℕ
offered_text N P s h = marked s.number (result_numbers N P s.conf (account (stages_of s) s.stripes h).offered)

-- the machine was asked these events, and the lines of the results that were taken are written
pub record HasShown {N P : ℕ} (s : Setting) (m : Going N P) (t : Tape) (h : History) : Type 0 where
  pub stands : Stands m s.conf s.stripes h
  pub text : Appends s.tape t (taken_text N P s h)

-- a turn that goes on after this history, with these samples not read
abbrev pub turn_at : History → List (List ℕ) → Bool → Run (List ℕ)
turn_at h more ended = record { history = h; rest = more; ended = ended; over = false }

-- machine, feed and sink are where the turn is, which for each list of samples is this one; whatever samples may follow
pub record IsTurning {N P : ℕ} (s : Setting) (runs : List (List ℕ) → Run (List ℕ)) (m : Going N P) (f : Feed)
    (told : Told) (t : Tape) (used : Use) : Type 0 where
  pub rows : List (List ℕ)
  pub history : History
  pub shown : HasShown s m t history
  pub fed : HasFed s.first told f (s.earlier ++ rows) used.last
  pub offered : (account (stages_of s) s.stripes history).offered ≡ pieces s.conf rows
  pub count : used.count ≡ length rows
  pub unread : used.ended ≡ false → used.last ≡ Got.Sample
  pub run : (more : List (List ℕ)) → (used.ended ≡ true → more ≡ [])
      → runs (pieces s.conf rows ++ more) ≡ turn_at history more used.ended

-- the turn's samples have ended, and nothing is in flight
abbrev pub gone_test : Setting → Bool → History → Bool
gone_test s ended h =
    let a = account (stages_of s) s.stripes h in
    ended && (length a.offered - length a.entries == 0) && (length a.entries == left (stages_of s) a)
    && (left (stages_of s) a - a.taken == 0)

-- nothing is in flight
pub record IsIdle {N P : ℕ} (m : Going N P) : Type 0 where
  pub even : m.parts.entered ≡ m.parts.left
  pub input : length (waiting_samples m) ≡ 0
  pub output : length (waiting_results m) ≡ 0

-- the turn is over: nothing is in flight, and the lines of all its samples are written
pub record IsTurned {N P : ℕ} (s : Setting) (m : Going N P) (f : Feed) (told : Told) (t : Tape) (quota : ℕ)
    (last : Got) : Type 0 where
  pub rows : List (List ℕ)
  pub history : History
  pub stands : Stands m s.conf s.stripes history
  pub offered : (account (stages_of s) s.stripes history).offered ≡ pieces s.conf rows
  pub text : Appends s.tape t (whole_text N P s rows)
  pub fed : HasFed s.first told f (s.earlier ++ rows) last
  pub few : length rows ≤ quota
  pub full : is_sample last ≡ true → length rows ≡ quota

-- a write failed on the way: of the lines of the samples that were read some first bytes are written. The feed answered
-- so last, a read fault only by its cause since the shelf's faults were so many
pub record IsCut (N P : ℕ) (s : Setting) (f : Feed) (told : Told) (t : Tape) (quota before now : ℕ) : Type 0 where
  pub rows : List (List ℕ)
  pub last : Got
  pub fed : HasFed s.first told f (s.earlier ++ rows) last
  pub text : AppendsFront s.tape t (whole_text N P s rows)
  pub few : length rows ≤ quota
  pub cause : last ≡ Got.ReadFault → HasReadCause told (name_of s.first) before now

-- a turn begins so: the machine was just resumed, and the feed has given the samples of earlier turns
pub record Begins {N P : ℕ} (s : Setting) (m : Going N P) (f : Feed) (told : Told) (t : Tape)
    (number : ℕ) : Type 0 where
  pub conf : s.conf ≡ conf_of m
  pub stripes : s.stripes ≡ stripes_of m
  pub number_is : s.number ≡ number
  pub tape : s.tape ≡ t
  pub fed : HasFed s.first told f s.earlier Got.Sample
