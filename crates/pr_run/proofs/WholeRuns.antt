-- The turns of a run from its start to its end.
use Rattle.std.proofs.Common.{◌≡◌, ℕ, zero, suc, ◌+◌, ◌-◌, ◌*◌, ◌/◌, ◌^◌, ◌≤◌, Bool, cond, List, [], ◌∷◌, ◌++◌, length, map, take, drop, refl, sym, ap, ◌∙◌, arith, append-nil, inl, inr, leb}
use Rattle.std.proofs.lemmas.Bool.{cases_lt, cond-true, cond-false, lt-leb, le-leb}
use Rattle.std.proofs.lemmas.List.{length-map, drop-drop}
use Rattle.std.proofs.Math.Nat.{div-le_self, mul-le-mul_left}
use Rattle.pr_control.specs.Drain.{drain}
use Rattle.pr_control.proofs.TurnLaws.{drain_grow}
use Rattle.pr_base.specs.Rows.{row_bytes}
use Rattle.pr_edge.specs.Tape.{Tape}
use Rattle.pr_samples.specs.declared.stall.Held.{Held as Sides}
use Rattle.pr_samples.specs.declared.stall.Stall.{Stall}
use Rattle.pr_samples.specs.declared.feed.Feed.{Feed}
use Rattle.pr_samples.specs.declared.feed.Got.{Got}
use Rattle.pr_samples.specs.Stall.{turns_left, next_turn}
use Rattle.pr_samples.specs.Feed.{widths_of, given_of, most_of, fed}
use Rattle.pr_machine_account.specs.Account.{Account}
use Rattle.pr_conf.specs.Shape.{Shape}
use Rattle.pr_conf.specs.Configuration.{pes_of}
use Rattle.pr_machine.specs.Stands.{Stands, conf_of, time_of}
use Rattle.pr_run_script.specs.Script.{Run, begun, turns, turned, held_at}
use Rattle.pr_run_script.specs.Counts.{cycles_in}
use Rattle.pr_run_script.specs.Text.{text_of}
use Rattle.pr_run_script.proofs.RunLaws.{cycles-append, account_nil, turns_none, turns_suc, turns_run}
use Rattle.pr_run_script.proofs.EndLaws.{going_few, over_is_whole}
use Rattle.pr_run_script.proofs.TextLaws.{history_lines_nil}
use Rattle.pr_run_script.proofs.WholeLaws.{front_trans, turns_front, script_front}
use Rattle.pr_edge.specs.Files.{View}
use Rattle.pr_run.specs.Setting.{Setting, IsFresh, IsSet, held_of, stages_of, pieces, setting_of}
use Rattle.pr_run.specs.Turns.{Going, IsOn, IsDone, IsCut}
use Rattle.pr_run.specs.Runs.{IsFinished, script_run}
use Rattle.pr_run.proofs.Lines.{nothing_appended}
use Rattle.pr_run.proofs.NextSamples.{follows_nil}

-- ---- what is given
pub set_of : {N P : ℕ} (m : Going N P) (stall : Stall) (f : Feed) (now : View) (t : Tape) (log : Bool) → widths_of f ≡ (conf_of m).inputs → length (turns_left stall) ≤ 1048576 → most_of f ≤ 2 ^ 40
    → IsSet (setting_of m stall f now t log)
set_of {N} {P} m stall f now t log widths few most =
    let conf = m.parts.conf in
    let stages = length-map conf.stages.items (pes_of {N = N}) in
    let sides = length-map (turns_left stall) held_of in
    record {
      widths = widths;
      some = omega (arith, stages, conf.some, conf.stages.ok.0);
      stages = omega (arith, stages, conf.few, conf.stages.ok.0);
      two = omega (arith, m.parts.two, m.parts.places.ok.0);
      most = omega (arith, m.parts.small, m.parts.places.ok.0);
      turns = omega (arith, sides, few);
      samples = most;
    }

-- before the first turn
pub on_start : {N P : ℕ} (s : Setting) (m : Going N P) → Stands m s.conf s.stripes [] → IsFresh s.feed → IsOn s (λ xs. turns (stages_of s) s.stripes s.stall 0 (begun xs)) m s.feed s.shelf s.tape Got.Sample
on_start {N} {P} s m stands fresh = record {
  rows = [];
  history = [];
  done = record { stands = stands; text = rw (ap (text_of s.log) (history_lines_nil N P s.conf s.stripes)) (nothing_appended s.tape) };
  read = record {
    file = record { name = refl; widths = refl; limit = refl; most = refl };
    count = fresh.samples;
    samples = λ file told. record { first = ap (λ n. take n (fed s.feed file).samples) (sym fresh.samples); ends = fresh.stands file };
    missing = λ lost. (fresh.bytes, refl);
    told = refl;
    cause = λ e. absurd (cc);
    steady = λ other. refl;
    later = omega arith;
    reached = λ e. e;
    others = λ q other. refl;
  };
  offered = ap (λ (a : Account (List ℕ)). a.offered) (account_nil (stages_of s) s.stripes);
  run = λ more follows. turns_none (stages_of s) s.stripes s.stall (begun more);
}

-- the turn that a stall text gives next
pub held_now : (xs : List Sides) (k : ℕ) → held_of (next_turn (drop k xs)) ≡ held_at (map held_of xs) k
held_now [] zero = refl
held_now [] (suc k) = refl
held_now (x ∷ xs) zero = refl
held_now (x ∷ xs) (suc k) = held_now xs k

pub turn_now : (s : Setting) (sides left : List Sides) (held : Sides) (k : ℕ) → s.stall ≡ map held_of sides → left ≡ drop k sides → held ≡ next_turn left
    → (xs : List (List ℕ)) → turns (stages_of s) s.stripes s.stall (k + 1) (begun xs) ≡ turned (stages_of s) s.stripes (held_of held) (turns (stages_of s) s.stripes s.stall k (begun xs))
turn_now s sides left held k is rest next xs =
    let now : held_of held ≡ held_at s.stall k = ap held_of (next ∙ ap next_turn rest) ∙ (held_now sides k ∙ ap (λ h. held_at h k) (sym is)) in
    turns_suc (stages_of s) s.stripes s.stall k (begun xs) ∙ ap (λ h. turned (stages_of s) s.stripes h (turns (stages_of s) s.stripes s.stall k (begun xs))) (sym now)

pub left_more : (sides left left' : List Sides) (k : ℕ) → left ≡ drop k sides → left' ≡ drop 1 left → left' ≡ drop (k + 1) sides
left_more sides left left' k rest next = next ∙ (ap (λ (xs : List Sides). drop 1 xs) rest ∙ drop-drop 1 k sides)

-- a machine that was just loaded is at cycle 0
pub time_start : {N P : ℕ} (m : Going N P) (c : Shape) (p : ℕ) → Stands m c p [] → time_of m ≡ 0
time_start m c p stands = stands.parts.time ∙ ap (λ (a : Account (List ℕ)). a.time) (account_nil (length c.stages) p)

-- ---- how many turns
pub most_turns : Setting → ℕ
most_turns s = length s.stall + drain (stages_of s) s.stripes (2 ^ 40)

pub few_turns : {N P : ℕ} (s : Setting) (k : ℕ) (m : Going N P) (f : Feed) (now : View) (t : Tape) (last : Got) → IsSet s → IsOn s (λ xs. turns (stages_of s) s.stripes s.stall k (begun xs)) m f now t last
    → k ≤ length s.stall + drain (stages_of s) s.stripes (2 ^ 40)
few_turns s k m f now t last set on =
    let v = stages_of s in
    let xs = pieces s on.rows ++ [] in
    let going = ap (λ (r : Run (List ℕ)). r.over) (on.run [] (follows_nil last)) in
    let few = going_few v s.stripes s.stall k xs set.some set.two going in
    let n : length xs ≡ given_of f = ap length (append-nil (pieces s on.rows)) ∙ (length-map on.rows (row_bytes (widths_of s.feed)) ∙ sym on.read.count) in
    let given : given_of f ≤ 2 ^ 40 = omega (arith, f.few, on.read.file.most, set.samples) in
    let grow = drain_grow v s.stripes (length xs) (2 ^ 40) set.two (omega (arith, n, given)) in
    omega (arith, few, grow)

pub drain_few : (v p : ℕ) → v ≤ 32768 → 2 ≤ p → p ≤ 256 → drain v p (2 ^ 40) ≤ 2 ^ 56
drain_few v p few two most =
    let q = (2 ^ 40 + (p - 2)) / (p - 1) in
    elim (cases_lt p v) [
      | inl k ↦ (
          let e : drain v p (2 ^ 40) ≡ v * (q + 1) = cond-false (leb v p) (2 ^ 40 + v) (v * (q + 1)) (lt-leb v p k) in
          let d = div-le_self (2 ^ 40 + (p - 2)) (p - 1) in
          let z : v * (q + 1) ≤ v * (2 ^ 40 + 255) = mul-le-mul_left v (omega (arith, d, most)) in
          omega (arith, e, z, few))
      | inr k ↦ (
          let e : drain v p (2 ^ 40) ≡ 2 ^ 40 + v = cond-true (leb v p) (2 ^ 40 + v) (v * (q + 1)) (le-leb v p k) in
          omega (arith, e, few))
    ]

pub turns_fit : (s : Setting) → IsSet s → length s.stall + drain (stages_of s) s.stripes (2 ^ 40) ≤ 2 ^ 57
turns_fit s set =
    let d = drain_few (stages_of s) s.stripes set.stages set.two set.most in
    omega (arith, d, set.turns)

-- ---- the end
pub done_whole : {N P : ℕ} (s : Setting) (k : ℕ) (m : Going N P) (f : Feed) (now : View) (t : Tape) (last : Got) → IsSet s
    → IsDone s (λ xs. turns (stages_of s) s.stripes s.stall k (begun xs)) (λ xs. turns (stages_of s) s.stripes s.stall (k + 1) (begun xs)) m f now t last
    → IsFinished s m f now t (record { last = last; asked = k })
done_whole s k m f now t last set d =
    let v = stages_of s in
    let xs = pieces s d.rows in
    let r = turns v s.stripes s.stall k (begun xs) in
    let r' = turns v s.stripes s.stall (k + 1) (begun xs) in
    let over = ap (λ (x : Run (List ℕ)). x.over) d.run in
    let whole = over_is_whole v s.stripes s.stall (k + 1) xs set.some set.two over in
    let is : r'.history ≡ d.history = ap (λ (x : Run (List ℕ)). x.history) d.run in
    let before = (turns_run v s.stripes s.stall k xs set.some).exact d.before in
    let after = (turns_run v s.stripes s.stall (k + 1) xs set.some).few in
    let one = ap (λ b. cond {A = ℕ} b 1 0) over in
    let front = turns_front v s.stripes s.stall k 1 (begun xs) in
    let more = ap cycles_in front.is ∙ cycles-append r.history front.more in
    let count : cycles_in r'.history ≡ k = omega (arith, before, after, one, more) in
    record {
      rows = d.rows;
      history = d.history;
      done = d.done;
      read = d.read;
      ended = d.ended;
      script = sym is ∙ ap (λ (x : Run (List ℕ)). x.history) whole;
      asked = sym (ap cycles_in is) ∙ count;
    }

pub cut_whole : {N P : ℕ} (s : Setting) (k : ℕ) (m : Going N P) (f : Feed) (now : View) (t : Tape) → IsSet s
    → IsCut s (λ xs. turns (stages_of s) s.stripes s.stall k (begun xs)) m f now t → IsCut s (script_run s) m f now t
cut_whole s k m f now t set cut = record {
  rows = cut.rows;
  last = cut.last;
  history = cut.history;
  stands = cut.stands;
  text = cut.text;
  read = cut.read;
  front = λ more follows.
      (let xs = pieces s cut.rows ++ more in
      front_trans cut.history (turns (stages_of s) s.stripes s.stall k (begun xs)).history (script_run s xs).history (cut.front more follows) (script_front (stages_of s) s.stripes s.stall k xs set.some set.two));
}
