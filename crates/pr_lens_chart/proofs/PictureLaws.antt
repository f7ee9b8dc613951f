-- Pieces of a picture.
use Rattle.std.proofs.Common.{◌≡◌, ◌+◌, ◌<◌, ◌≤◌, ◌++◌, ◌∷◌, ◌∙◌, ℕ, List, Option, Some, None, length, take, drop, get_or, replicate, add-one, append_assoc, append-nil, refl, sym, ap}
use Rattle.std.proofs.lemmas.List.{at_drop_all, at_drop_more}
use Rattle.pr_conf.specs.declared.turns.Turn.{Turn}
use Rattle.pr_lens_log.specs.declared.lines.Logged.{Logged}
use Rattle.pr_lens_log.specs.declared.logs.Log.{Log}
use Rattle.pr_lens_log.specs.declared.windows.Part.{Part}
use Rattle.pr_lens_log.specs.declared.windows.Window.{Window}
use Rattle.pr_lens_log.specs.Boards.{after_turn, after_turns}
use Rattle.pr_lens_log.specs.Excerpts.{most, stages_to, stripes_to}
use Rattle.pr_lens_log.specs.Logs.{IsKept, Tale}
use Rattle.pr_lens_log.specs.Windows.{part_in, part_of}
use Rattle.pr_lens_chart.specs.Pictures.{chart_text, column_at, column_text, columns_text, picture_text, stage_key, stage_keys, stripe_cell, stripe_cells, stripe_name, stripe_names}

-- ---- pieces, one after the other
pub both_put : (t a b : List ℕ) {t1 t2 : List ℕ} → t1 ≡ t ++ a → t2 ≡ t1 ++ b → t2 ≡ t ++ (a ++ b)
both_put t a b h1 h2 = rw (h2, h1) (append_assoc t a b)

-- a number behind each of two words, and words
pub three_put : (t a b c d e : List ℕ) {t1 t2 t3 : List ℕ} → t1 ≡ t ++ a ++ b → t2 ≡ t1 ++ c ++ d → t3 ≡ t2 ++ e → t3 ≡ t ++ (a ++ b ++ c ++ d ++ e)
three_put t a b c d e h1 h2 h3 = rw (h3, h2, h1) (simp append_assoc)

-- ---- one more each time
pub cells_more : (stripe : ℕ) (board : List (Option ℕ)) (turn : Turn) (stages x : ℕ)
    → stripe_cells (stripe + 1) board turn stages x ≡ stripe_cells stripe board turn stages x ++ stripe_cell board turn stages x stripe
unfolding stripe_cells
cells_more stripe board turn stages x = rw add-one refl

pub names_more : (stripe : ℕ) → stripe_names (stripe + 1) ≡ stripe_names stripe ++ stripe_name stripe
unfolding stripe_names
names_more stripe = rw add-one refl

pub keys_more : (stage stages y : ℕ) → stage_keys (stage + 1) stages y ≡ stage_keys stage stages y ++ stage_key stages y stage
unfolding stage_keys
keys_more stage stages y = rw add-one refl

module _ (stages stripes : ℕ) (text whole : List ℕ) (board : List (Option ℕ)) (cycles : List Logged) (number : ℕ) where
  pub columns_more : (logged d : Logged) → number < length cycles → logged ≡ get_or cycles number d
      → text ++ columns_text stages stripes number board (drop number cycles) ≡ whole
      → (text ++ column_text stages stripes (column_at number) (after_turn board logged.turn.configured) logged)
      ++ columns_text stages stripes (number + 1) (after_turn board logged.turn.configured) (drop (number + 1) cycles) ≡ whole
  unfolding columns_text
  columns_more logged d lt is h =
      append_assoc text (column_text stages stripes (column_at number) (after_turn board logged.turn.configured) logged) (columns_text stages stripes (number + 1) (after_turn board logged.turn.configured) (drop (number + 1) cycles))
      ∙ ap (λ (c : Logged). text ++ columns_text stages stripes number board (c ∷ drop (number + 1) cycles)) is
      ∙ sym (at_drop_more (λ (cs : List Logged). text ++ columns_text stages stripes number board cs) cycles number d lt) ∙ h

  pub columns_done : length cycles ≤ number → text ++ columns_text stages stripes number board (drop number cycles) ≡ whole → text ≡ whole
  unfolding columns_text
  columns_done le h = sym (append-nil text) ∙ sym (at_drop_all (λ (cs : List Logged). text ++ columns_text stages stripes number board cs) cycles number le) ∙ h

-- ---- what a log keeps
pub kept_chart : (window : Window) (tale : Tale) (log : Log) → IsKept (record { window = window; most = Some 400 }) tale log
    → picture_text log.totals.stages log.totals.stripes log.totals.count log.excerpt.part.start log.excerpt.past.board.stages.items log.excerpt.cycles.items
    ≡ chart_text (part_of window tale.cycles) (most stages_to tale.cycles) (most stripes_to tale.cycles) tale.cycles
kept_chart window tale log h =
    let part = h.excerpt.part in
    let stages = h.totals.stages in
    let stripes = h.totals.stripes in
    let count = h.totals.count in
    let cycles : log.excerpt.cycles.items ≡ take 400 (part_in (part_of window tale.cycles) tale.cycles) = h.excerpt.cycles_are ∙ ap (λ (p : Part). take 400 (part_in p tale.cycles)) part in
    let board : log.excerpt.past.board.stages.items ≡ after_turns (replicate (most stripes_to tale.cycles) None) (take (part_of window tale.cycles).start tale.cycles) =
    h.excerpt.past.stages ∙ ap (λ (p : Part). after_turns (replicate (most stripes_to tale.cycles) None) (take p.start tale.cycles)) part in
    λ i. picture_text (stages i) (stripes i) (count i) (part i).start (board i) (cycles i)
