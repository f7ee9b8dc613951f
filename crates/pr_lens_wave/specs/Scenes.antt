-- What a waveform tells of cycles.
use Rattle.std.specs.Prelude.{ℕ, zero, suc, ◌+◌, ◌-◌, ◌*◌, min, Bool, true, false, not, nat_eq, nat_lt, List, [], ◌∷◌, ◌++◌, length, take, replicate, Option, Some, None, codes, decimal, slice_get, slice_range, slice_set, if◌then◌else◌}
use Rattle.std.specs.Option.{option_eq}
use Rattle.pr_lens_wave.specs.declared.head.Signal.{Signal}
use Rattle.pr_lens_wave.specs.declared.head.Signal.TheVariants as signal
use Rattle.pr_lens_log.specs.declared.lines.Logged.{Logged}
use Rattle.pr_lens_log.specs.declared.logs.Log.{Log}
use Rattle.pr_lens_log.specs.declared.windows.Part.{Part}
use Rattle.pr_lens_wave.specs.declared.changes.Teller.{Teller}
use Rattle.pr_lens_log.specs.Boards.{stage_in, after_turn, after_turns}
use Rattle.pr_lens_log.specs.Lines.{is_into}
use Rattle.pr_lens_log.specs.Pasts.{count_after, entered_after, left_after}
use Rattle.pr_lens_log.specs.Windows.{part_in}
use Rattle.pr_lens_wave.specs.Waves.{twice_and, number_of, number_change, bit_change, head_text}

-- a text, and what it told last of each signal
pub record Page : Type 0 where
  pub text : List ℕ
  pub told : List (Option ℕ)

abbrev pub is_other : Option (Option ℕ) → Option ℕ → Bool
is_other None value = false
is_other (Some last) value = not (option_eq nat_eq last value)

-- whether a signal has another value than was told last
abbrev pub is_news : List (Option ℕ) → Signal → Option ℕ → Bool
is_news told s value = is_other (slice_get told (number_of s)) value

abbrev pub told_after : List (Option ℕ) → Signal → Option ℕ → List (Option ℕ)
told_after told s value = if nat_lt (number_of s) (length told) then slice_set told (number_of s) value else told

-- a change is told only where it is one
unfoldable pub shown : Signal → Option ℕ → List ℕ → Page → Page
shown s value change p = if is_news p.told s value then record { text = p.text ++ change; told = told_after p.told s value } else p

abbrev pub number_shown : Signal → Option ℕ → Page → Page
number_shown s value p = shown s value (number_change (number_of s) value) p

abbrev pub bit_number : Bool → ℕ
bit_number true = 1
bit_number false = 0

abbrev pub bit_shown : Signal → Bool → Page → Page
bit_shown s bit p = shown s (Some (bit_number bit)) (bit_change (number_of s) bit) p

-- the first so many stripes
unfoldable pub stripes_shown : ℕ → List (Option ℕ) → Option (ℕ × ℕ) → Page → Page
stripes_shown zero board configured p = p
stripes_shown (suc stripe) board configured p =
    bit_shown (signal.Configured stripe) (is_into configured stripe)
    (number_shown (signal.Stage stripe) (stage_in board stripe) (stripes_shown stripe board configured p))

-- what a cycle did beside the stripes: so many samples have entered, so many results have left and are written
unfoldable pub cycle_shown : Logged → ℕ → ℕ → ℕ → Page → Page
cycle_shown c entered left written p =
    number_shown signal.Waiting (Some (left - written)) (
    number_shown signal.UnderWay (Some (entered - left)) (
    number_shown signal.Result c.turn.left (
    number_shown signal.Sample c.turn.entered (
    bit_shown signal.Stalled (not c.turn.advanced) (
    number_shown signal.Cycle (Some c.time) p)))))

-- the time at which the cycle of this number begins
unfoldable pub time_text : ℕ → List ℕ
time_text number = codes "#" ++ decimal (min (number * 10) 18446744073709551615) ++ codes "\n"

-- a waveform so far: its page, which stage stands in which stripe, and how many samples have entered and results have left
pub record Scene : Type 0 where
  pub page : Page
  pub stages : List (Option ℕ)
  pub entered : ℕ
  pub left : ℕ

abbrev pub scene_of : List ℕ → Teller → Scene
scene_of text t = record {
  page = record { text = text; told = t.screen.values.items };
  stages = t.past.board.stages.items;
  entered = t.past.entered;
  left = t.past.left;
}

-- after the cycle of this number, before which so many results were written
unfoldable pub after_cycle : ℕ → ℕ → Logged → ℕ → Scene → Scene
after_cycle stripes number c written s = record {
  page =
      cycle_shown c (count_after s.entered c.turn.entered) (count_after s.left c.turn.left) written (
      stripes_shown stripes (after_turn s.stages c.turn.configured) c.turn.configured (
      record { text = s.page.text ++ time_text number; told = s.page.told }));
  stages = after_turn s.stages c.turn.configured;
  entered = count_after s.entered c.turn.entered;
  left = count_after s.left c.turn.left;
}

-- after these cycles, of which the first has this number, and before each of which so many results were written
abbrev pub after_cycles : ℕ → ℕ → List Logged → List ℕ → Scene → Scene
after_cycles stripes number [] counts s = s
after_cycles stripes number (c ∷ cs) [] s = s
after_cycles stripes number (c ∷ cs) (count ∷ counts) s = after_cycles stripes (number + 1) cs counts (after_cycle stripes number c count s)

-- these cycles went by, and nothing is told yet but the signals
abbrev pub first_scene : ℕ → List Logged → List ℕ → Scene
first_scene stripes passed text = record {
  page = record { text = text; told = replicate (twice_and stripes 6) (Some 18446744073709551615) };
  stages = after_turns (replicate stripes None) passed;
  entered = entered_after 0 passed;
  left = left_after 0 passed;
}

-- a text with the changes of these cycles, and the time at which the last of them ends
abbrev pub shown_text : ℕ → Part → List Logged → List ℕ → Scene → List ℕ
shown_text stripes part cycles counts scene = (after_cycles stripes part.start cycles counts scene).page.text ++ time_text part.end

-- the waveform of these cycles of a log
abbrev pub wave_text : Part → ℕ → List Logged → List ℕ → List ℕ
wave_text part stripes cycles written =
    shown_text stripes part (part_in part cycles) (slice_range written part.start part.end) (first_scene stripes (take part.start cycles) (head_text stripes))

-- the cycles that a log keeps, behind a text
abbrev pub kept_scene : Log → List ℕ → Scene
kept_scene log text = record {
  page = record { text = text; told = replicate (twice_and log.totals.stripes 6) (Some 18446744073709551615) };
  stages = log.excerpt.past.board.stages.items;
  entered = log.excerpt.past.entered;
  left = log.excerpt.past.left;
}

abbrev pub kept_text : Log → List ℕ → List ℕ
kept_text log text = shown_text log.totals.stripes log.excerpt.part log.excerpt.cycles.items log.excerpt.written.items (kept_scene log text)
