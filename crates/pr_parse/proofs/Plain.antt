-- The trees do not matter to where a token is wrong.
use Rattle.std.proofs.Common.{◌≡◌, ℕ, suc, Option, Some, None, List, [], ◌∷◌, ◌++◌, length, refl, ap, ◌∙◌}
use Rattle.pr_lang.specs.Word.{Word}
use Rattle.pr_lang.specs.Grammar.{Part}
use Rattle.pr_lang.specs.Machine.{Met, meet, Taken, Gone, Wrong}
use Rattle.pr_lang.specs.Tree.{Tree}
use Rattle.pr_lang.specs.Tree as tree
use Rattle.pr_parse.specs.Run.{all, Advance, Next, Empty, Stop, advance, Outcome, Built, WrongAt, ended, run}
use Rattle.pr_lang.specs.Machine.{Moved, Go, Over, Halt, moved, at_end, left_over}
use Rattle.pr_parse.proofs.Laws.{onward, advance-cons, stepped}

abbrev bare : Advance → Moved
bare (Next ps ts) = Go ps
bare (Empty ts) = Over
bare Stop = Halt

abbrev pub left : Outcome → Option ℕ
left (Built ts) = None
left (WrongAt n) = Some n

bare_step : (o : Option Word) (ps : List Part) (ts : List Tree) → bare (advance o ps ts) ≡ moved o ps
unfolding advance moved
bare_step o [] ts = refl
bare_step o (p ∷ ps) ts = ap bare (advance-cons o p ps ts) ∙ go (λ us. bare_step o ps us) (meet o p)
  where
    go : ((us : List Tree) → bare (advance o ps us) ≡ moved o ps) → (m : Met) → bare (onward m o ps ts) ≡ elim m [ Taken acts qs ↦ Go (qs ++ ps) | Gone acts ↦ moved o ps | Wrong ↦ Halt ]
    go ih (Taken acts qs) = refl
    go ih (Gone acts) = ih (all acts ts)
    go ih Wrong = refl

abbrev onto : Word → List Word → Moved → Option ℕ
onto k ks (Go qs) = left_over ks qs
onto k ks Over = Some (suc (length ks))
onto k ks Halt = Some (suc (length ks))

pub plain_run : (ks : List Word) (ps : List Part) (ts : List Tree) → left (run ks ps ts) ≡ left_over ks ps
unfolding run left_over
plain_run [] ps ts = go (advance None ps ts) ∙ ap at_end (bare_step None ps ts)
  where
    go : (a : Advance) → left (ended a) ≡ at_end (bare a)
    go (Next qs us) = refl
    go (Empty us) = refl
    go Stop = refl
plain_run (k ∷ ks) ps ts = go (λ qs us. plain_run ks qs us) (advance (Some k) ps ts) ∙ ap (onto k ks) (bare_step (Some k) ps ts) ∙ same (moved (Some k) ps)
  where
    go : ((qs : List Part) (us : List Tree) → left (run ks qs us) ≡ left_over ks qs) → (a : Advance) → left (stepped k ks a) ≡ onto k ks (bare a)
    go ih (Next qs us) = ih qs (tree.word k ∷ us)
    go ih (Empty us) = refl
    go ih Stop = refl

    same : (m : Moved) → onto k ks m ≡ elim m [ Go qs ↦ left_over ks qs | Over ↦ Some (suc (length ks)) | Halt ↦ Some (suc (length ks)) ]
    same (Go qs) = refl
    same Over = refl
    same Halt = refl
