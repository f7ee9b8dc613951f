-- The texts of stripes and cycles, one more each time.
use Rattle.std.proofs.Common.{◌≡◌, ◌⊎◌, ◌+◌, ◌*◌, ◌<◌, ◌≤◌, ◌++◌, ◌∷◌, ◌∙◌, [], ℕ, min, List, Option, Some, None, length, drop, take, get_or, replicate, add-one, append_assoc, codes, decimal, arith, inl, inr, refl, sym, ap, length-drop}
use Rattle.std.specs.Prelude.{slice_range}
use Rattle.std.proofs.lemmas.List.{drop_more}
use Rattle.pr_lens_log.specs.declared.lines.Logged.{Logged}
use Rattle.pr_lens_log.specs.declared.logs.Log.{Log}
use Rattle.pr_lens_log.specs.declared.windows.Part.{Part}
use Rattle.pr_lens_log.specs.declared.windows.Window.{Window}
use Rattle.pr_lens_log.specs.Boards.{after_turn, after_turns, stage_in}
use Rattle.pr_lens_log.specs.Excerpts.{most, stripes_to}
use Rattle.pr_lens_log.specs.Lines.{is_into}
use Rattle.pr_lens_log.specs.Logs.{IsKept, Tale}
use Rattle.pr_lens_log.specs.Pasts.{count_after, entered_after, left_after}
use Rattle.pr_lens_log.specs.Windows.{part_in, part_of}
use Rattle.pr_lens_wave.specs.declared.head.Signal.TheVariants.{Stage, Configured}
use Rattle.pr_lens_wave.specs.Waves.{head_text, stripe_text, stripes_text, twice_and}
use Rattle.pr_lens_wave.specs.Scenes.{Page, Scene, after_cycle, after_cycles, bit_shown, cycle_shown, kept_text, number_shown, shown_text, stripes_shown, time_text, wave_text}

pub stripes_more : (stripe : ℕ) → stripes_text (stripe + 1) ≡ stripes_text stripe ++ stripe_text stripe
unfolding stripes_text
stripes_more stripe = rw add-one refl

-- six pieces, one after the other
pub six_put : (t a b c d e f : List ℕ) {t1 t2 t3 t4 t5 : List ℕ} → t1 ≡ t ++ a ++ b → t2 ≡ t1 ++ c → t3 ≡ t2 ++ d → t4 ≡ t3 ++ e → t5 ≡ t4 ++ f → t5 ≡ t ++ (a ++ b ++ c ++ d ++ e ++ f)
six_put t a b c d e f h1 h2 h3 h4 h5 = rw (h5, h4, h3, h2, h1) (simp append_assoc)

pub stripes_shown_more : (stripe : ℕ) (board : List (Option ℕ)) (configured : Option (ℕ × ℕ)) (p : Page)
    → stripes_shown (stripe + 1) board configured p
    ≡ bit_shown (Configured stripe) (is_into configured stripe) (number_shown (Stage stripe) (stage_in board stripe) (stripes_shown stripe board configured p))
unfolding stripes_shown
stripes_shown_more stripe board configured p = rw add-one refl

-- ---- cycles, one after the other
-- a time that is too late for 64 bits is the last one
time_same : (n : ℕ) → time_text (min n 18446744073709551615) ≡ time_text n
unfolding time_text
time_same n = let most : min (min n 18446744073709551615 * 10) 18446744073709551615 ≡ min (n * 10) 18446744073709551615 = omega arith in ap (λ k. codes "#" ++ decimal k ++ codes "\n") most

cycle_same : (stripes n : ℕ) (c : Logged) (count : ℕ) (s : Scene) → after_cycle stripes (min n 18446744073709551615) c count s ≡ after_cycle stripes n c count s
unfolding after_cycle
cycle_same stripes n c count s =
    let time = time_same n in
    λ i. record {
      page =
          cycle_shown c (count_after s.entered c.turn.entered) (count_after s.left c.turn.left) count (
          stripes_shown stripes (after_turn s.stages c.turn.configured) c.turn.configured (
          record { text = s.page.text ++ time i; told = s.page.told }));
      stages = after_turn s.stages c.turn.configured;
      entered = count_after s.entered c.turn.entered;
      left = count_after s.left c.turn.left;
    }

after_one : (stripes number : ℕ) (cs : List Logged) (ws : List ℕ) (s : Scene) → (length cs ≤ 0) ⊎ (length ws ≤ 0) → after_cycles stripes number cs ws s ≡ s
after_one stripes number [] ws s h = refl
after_one stripes number (c ∷ cs) [] s h = refl
after_one stripes number (c ∷ cs) (w ∷ ws) s (inl h) = absurd (omega (arith, h))
after_one stripes number (c ∷ cs) (w ∷ ws) s (inr h) = absurd (omega (arith, h))

module _ (stripes first : ℕ) (cycles : List Logged) (written : List ℕ) (index : ℕ) where
  -- the rest of the cycles after one more
  pub cycles_more : (c d : Logged) (count : ℕ) (before after : Scene) → index < length cycles → index < length written
      → c ≡ get_or cycles index d → count ≡ get_or written index 0
      → after ≡ after_cycle stripes (min (first + index) 18446744073709551615) c count before
      → after_cycles stripes (first + (index + 1)) (drop (index + 1) cycles) (drop (index + 1) written) after
      ≡ after_cycles stripes (first + index) (drop index cycles) (drop index written) before
  cycles_more c d count before after less also c_is count_is step =
      let cs : drop index cycles ≡ c ∷ drop (index + 1) cycles = drop_more cycles index d less ∙ (λ i. (sym c_is) i ∷ drop (index + 1) cycles) in
      let ws : drop index written ≡ count ∷ drop (index + 1) written = drop_more written index 0 also ∙ (λ i. (sym count_is) i ∷ drop (index + 1) written) in
      let next : first + (index + 1) ≡ first + index + 1 = omega arith in
      (λ i. after_cycles stripes (next i) (drop (index + 1) cycles) (drop (index + 1) written) ((step ∙ cycle_same stripes (first + index) c count before) i))
      ∙ sym (λ i. after_cycles stripes (first + index) (cs i) (ws i) before)

  -- none is left
  pub cycles_done : (s : Scene) → (length cycles ≤ index) ⊎ (length written ≤ index) → after_cycles stripes (first + index) (drop index cycles) (drop index written) s ≡ s
  cycles_done s (inl h) = after_one stripes (first + index) (drop index cycles) (drop index written) s (inl (omega (arith, h, length-drop index cycles)))
  cycles_done s (inr h) = after_one stripes (first + index) (drop index cycles) (drop index written) s (inr (omega (arith, h, length-drop index written)))

-- ---- what a log keeps
pub kept_wave : (window : Window) (tale : Tale) (log : Log) → IsKept (record { window = window; most = None }) tale log
    → kept_text log (head_text log.totals.stripes) ≡ wave_text (part_of window tale.cycles) (most stripes_to tale.cycles) tale.cycles tale.written
kept_wave window tale log h =
    let part = h.excerpt.part in
    let stripes = h.totals.stripes in
    let past = h.excerpt.past in
    let cycles : log.excerpt.cycles.items ≡ part_in (part_of window tale.cycles) tale.cycles = h.excerpt.cycles_are ∙ ap (λ (p : Part). part_in p tale.cycles) part in
    let counts : log.excerpt.written.items ≡ slice_range tale.written (part_of window tale.cycles).start (part_of window tale.cycles).end = h.excerpt.written_are ∙ ap (λ (p : Part). slice_range tale.written p.start p.end) part in
    let board : log.excerpt.past.board.stages.items ≡ after_turns (replicate (most stripes_to tale.cycles) None) (take (part_of window tale.cycles).start tale.cycles) =
    past.stages ∙ ap (λ (p : Part). after_turns (replicate (most stripes_to tale.cycles) None) (take p.start tale.cycles)) part in
    let entered : log.excerpt.past.entered ≡ entered_after 0 (take (part_of window tale.cycles).start tale.cycles) = past.entered ∙ ap (λ (p : Part). entered_after 0 (take p.start tale.cycles)) part in
    let left : log.excerpt.past.left ≡ left_after 0 (take (part_of window tale.cycles).start tale.cycles) = past.left ∙ ap (λ (p : Part). left_after 0 (take p.start tale.cycles)) part in
    λ i. shown_text (stripes i) (part i) (cycles i) (counts i) (record {
      page = record { text = head_text (stripes i); told = replicate (twice_and (stripes i) 6) (Some 18446744073709551615) };
      stages = board i;
      entered = entered i;
      left = left i;
    })
