-- The lines of stages, one more each time.
use Rattle.std.proofs.Common.{◌≡◌, ◌++◌, ◌+◌, ◌<◌, ◌≤◌, ◌∙◌, ℕ, List, ◌∷◌, length, map, drop, get_or, sym, ap, append_assoc}
use Rattle.std.proofs.lemmas.List.{at_drop_all, at_drop_more, append-nil}
use Rattle.pr_conf.specs.declared.stages.Stage.{Stage}
use Rattle.pr_conf.specs.Configuration.{pes_of}
use Rattle.pr_code_show.specs.Shown.{stage_line, stage_lines}

module _ {N : ℕ} (text whole : List ℕ) (stages : List (Stage N)) (number : ℕ) where
  pub lines_more : (stage d : Stage N) → number < length stages → stage ≡ get_or stages number d
      → text ++ stage_lines number (map pes_of (drop number stages)) ≡ whole
      → (text ++ stage_line number (pes_of stage)) ++ stage_lines (number + 1) (map pes_of (drop (number + 1) stages)) ≡ whole
  unfolding stage_lines
  lines_more stage d lt is h =
      append_assoc text (stage_line number (pes_of stage)) (stage_lines (number + 1) (map pes_of (drop (number + 1) stages)))
      ∙ ap (λ s. text ++ stage_lines number (map pes_of (s ∷ drop (number + 1) stages))) is
      ∙ sym (at_drop_more (λ ss. text ++ stage_lines number (map pes_of ss)) stages number d lt) ∙ h

  pub lines_done : length stages ≤ number → text ++ stage_lines number (map pes_of (drop number stages)) ≡ whole → text ≡ whole
  unfolding stage_lines
  lines_done le h = sym (append-nil text) ∙ sym (at_drop_all (λ ss. text ++ stage_lines number (map pes_of ss)) stages number le) ∙ h
