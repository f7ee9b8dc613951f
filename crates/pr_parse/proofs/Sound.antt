-- What the machine takes, the grammar derives.
use Rattle.std.proofs.Common.{◌≡◌, ℕ, zero, suc, Bool, true, false, cond, Option, Some, None, List, [], ◌∷◌, ◌++◌, refl, sym, ap, subst, ◌∙◌, append_assoc}
use Rattle.std.proofs.lemmas.List.{append-nil}
use Rattle.pr_lang.specs.Word.{Word}
use Rattle.pr_lang.specs.Word.{Pattern, fits, takes}
use Rattle.pr_lang.specs.Grammar.{Rule, Part, right, token, rule, make, then, or, maybe, many}
use Rattle.pr_lang.specs.Machine.{Met, meet, meet_rule, meet_in, Taken, Gone, Wrong, after_actions, optional, repeated}
use Rattle.pr_lang.specs.Tree.{Tree}
use Rattle.pr_lang.specs.Tree as tree
use Rattle.pr_parse.specs.Run.{all, Advance, Next, Empty, Stop, advance, Outcome, Built, ended, run}
use Rattle.pr_parse.specs.Derive.{Derives, IsToken, IsRule, IsMade, IsThen, IsFirst, IsSecond, IsAbsent, IsThere, IsLast, IsRepeated, DerivesAll, NoPart, OnePart}
use Rattle.pr_parse.proofs.Laws.{all-append, onward, advance-cons, stepped}

abbrev pub MetSound : Option Word → Part → Met → Type 0
MetSound o p (Taken acts qs) = (k : Word) (ls : List Word) (ts us : List Tree) → o ≡ Some k → DerivesAll qs ls (tree.word k ∷ all acts ts) us → Derives p (k ∷ ls) ts us
MetSound o p (Gone acts) = (ts : List Tree) → Derives p [] ts (all acts ts)
MetSound o p Wrong = Unit {0}

-- a list of parts and one more
pub split_last : (qs : List Part) (q : Part) (ls : List Word) (ts us : List Tree) → DerivesAll (qs ++ q ∷ []) ls ts us → (l1 l2 : List Word) × (vs : List Tree) × (ls ≡ l1 ++ l2) × DerivesAll qs l1 ts vs × Derives q l2 vs us
split_last [] q _ _ _ (OnePart {ks = ks} {ts = ts} {us = us} d NoPart) = ([], ks, ts, append-nil ks, NoPart, d)
split_last (p ∷ qs) q _ _ _ (OnePart {ks = ks} d e) =
    let r = split_last qs q _ _ _ e in
    (ks ++ r.0, r.1, r.2, ap (λ (l : List Word). ks ++ l) r.3 ∙ sym (append_assoc ks r.0 r.1), OnePart d r.4, r.5)

nothing : (ls : List Word) (ts us : List Tree) → DerivesAll [] ls ts us → (ls ≡ []) × (ts ≡ us)
nothing _ _ _ NoPart = (refl, refl)

has_some : (n : Pattern) (o : Option Word) (k : Word) → o ≡ Some k → takes n o ≡ true → fits n k ≡ true
has_some n o k e h = ap (takes n) (sym e) ∙ h

sound_token : (n : Pattern) (o : Option Word) (b : Bool) → takes n o ≡ b → MetSound o (token n) (cond b (Taken [] []) Wrong)
sound_token n o false h = tt
sound_token n o true h = λ k ls ts us e d.
    let both = nothing ls (tree.word k ∷ ts) us d in
    let P : List Word → List Tree → Type 0 = λ l u. Derives (token n) (k ∷ l) ts u in
    subst (λ l. P l us) (sym both.0) (subst (λ u. P [] u) both.1 (IsToken (has_some n o k e h)))

sound_then : (o : Option Word) (p q : Part) (m n : Met) → MetSound o p m → MetSound o q n → MetSound o (then p q) (elim m [ Taken acts ps ↦ Taken acts (ps ++ q ∷ []) | Gone acts ↦ after_actions acts n | Wrong ↦ Wrong ])
sound_then o p q (Taken acts qs) n hp hq = λ k ls ts us e d.
    let r = split_last qs q ls (tree.word k ∷ all acts ts) us d in
    subst (λ l. Derives (then p q) (k ∷ l) ts us) (sym r.3) (IsThen (hp k r.0 ts r.2 e r.4) r.5)
sound_then o p q (Gone acts) (Taken bs qs) hp hq = λ k ls ts us e d.
    IsThen (hp ts) (hq k ls (all acts ts) us e (subst (λ u. DerivesAll qs ls (tree.word k ∷ u) us) (all-append acts bs ts) d))
sound_then o p q (Gone acts) (Gone bs) hp hq = λ ts. subst (λ u. Derives (then p q) [] ts u) (sym (all-append acts bs ts)) (IsThen (hp ts) (hq (all acts ts)))
sound_then o p q (Gone acts) Wrong hp hq = tt
sound_then o p q Wrong n hp hq = tt

sound_or : (o : Option Word) (p q : Part) (m n : Met) → MetSound o p m → MetSound o q n → MetSound o (or p q) (elim m [ Taken acts ps ↦ Taken acts ps | Gone acts ↦ n | Wrong ↦ n ])
sound_or o p q (Taken acts qs) n hp hq = λ k ls ts us e d. IsFirst (hp k ls ts us e d)
sound_or o p q (Gone acts) (Taken bs qs) hp hq = λ k ls ts us e d. IsSecond (hq k ls ts us e d)
sound_or o p q (Gone acts) (Gone bs) hp hq = λ ts. IsSecond (hq ts)
sound_or o p q (Gone acts) Wrong hp hq = tt
sound_or o p q Wrong (Taken bs qs) hp hq = λ k ls ts us e d. IsSecond (hq k ls ts us e d)
sound_or o p q Wrong (Gone bs) hp hq = λ ts. IsSecond (hq ts)
sound_or o p q Wrong Wrong hp hq = tt

sound_maybe : (o : Option Word) (p : Part) (m : Met) → MetSound o p m → MetSound o (maybe p) (optional m)
sound_maybe o p (Taken acts qs) h = λ k ls ts us e d. IsThere (h k ls ts us e d)
sound_maybe o p (Gone acts) h = λ ts. IsAbsent
sound_maybe o p Wrong h = λ ts. IsAbsent

sound_many : (o : Option Word) (p : Part) (m : Met) → MetSound o p m → MetSound o (many p) (repeated m p)
sound_many o p (Taken acts qs) h = λ k ls ts us e d.
    let r = split_last qs (many p) ls (tree.word k ∷ all acts ts) us d in
    subst (λ l. Derives (many p) (k ∷ l) ts us) (sym r.3) (IsRepeated (h k r.0 ts r.2 e r.4) r.5)
sound_many o p (Gone acts) h = λ ts. IsLast
sound_many o p Wrong h = λ ts. IsLast

sound_in : (rules : Rule → Met) (o : Option Word) → ((r : Rule) → MetSound o (rule r) (rules r)) → (p : Part) → MetSound o p (meet_in rules o p)
sound_in rules o h (token n) = sound_token n o (takes n o) refl
sound_in rules o h (rule r) = h r
sound_in rules o h (make a) = λ ts. IsMade
sound_in rules o h (then p q) = sound_then o p q (meet_in rules o p) (meet_in rules o q) (sound_in rules o h p) (sound_in rules o h q)
sound_in rules o h (or p q) = sound_or o p q (meet_in rules o p) (meet_in rules o q) (sound_in rules o h p) (sound_in rules o h q)
sound_in rules o h (maybe p) = sound_maybe o p (meet_in rules o p) (sound_in rules o h p)
sound_in rules o h (many p) = sound_many o p (meet_in rules o p) (sound_in rules o h p)

sound_by_rule : (o : Option Word) (r : Rule) (m : Met) → MetSound o (right r) m → MetSound o (rule r) m
sound_by_rule o r (Taken acts qs) h = λ k ls ts us e d. IsRule (h k ls ts us e d)
sound_by_rule o r (Gone acts) h = λ ts. IsRule (h ts)
sound_by_rule o r Wrong h = tt

sound_rule : (n : ℕ) (o : Option Word) (r : Rule) → MetSound o (rule r) (meet_rule n o r)
unfolding meet_rule
sound_rule zero o r = tt
sound_rule (suc n) o r = sound_by_rule o r (meet_in (meet_rule n o) o (right r)) (sound_in (meet_rule n o) o (sound_rule n o) (right r))

pub sound_met : (o : Option Word) (p : Part) → MetSound o p (meet o p)
unfolding meet
sound_met o p = sound_in (meet_rule 16 o) o (sound_rule 16 o) p

-- ---- stacks

-- parts before others
joined : (qs ps : List Part) (ls : List Word) (ts us : List Tree) → DerivesAll (qs ++ ps) ls ts us → (l1 l2 : List Word) × (vs : List Tree) × (ls ≡ l1 ++ l2) × DerivesAll qs l1 ts vs × DerivesAll ps l2 vs us
joined [] ps ls ts us d = ([], ls, ts, refl, NoPart, d)
joined (q ∷ qs) ps _ _ _ (OnePart {ks = ks} d e) =
    let r = joined qs ps _ _ _ e in
    (ks ++ r.0, r.1, r.2, ap (λ (l : List Word). ks ++ l) r.3 ∙ sym (append_assoc ks r.0 r.1), OnePart d r.4, r.5)

abbrev pub StackSound : Option Word → List Part → List Tree → Advance → Type 0
StackSound o ps ts (Next qs us) = (k : Word) (ls : List Word) (vs : List Tree) → o ≡ Some k → DerivesAll qs ls (tree.word k ∷ us) vs → DerivesAll ps (k ∷ ls) ts vs
StackSound o ps ts (Empty us) = DerivesAll ps [] ts us
StackSound o ps ts Stop = Unit {0}

-- a part that goes, before others
gone_first : (o : Option Word) (p : Part) (ps : List Part) (ts us : List Tree) (a : Advance) → Derives p [] ts us → StackSound o ps us a → StackSound o (p ∷ ps) ts a
gone_first o p ps ts us (Next qs vs) d h = λ k ls ws e f. OnePart d (h k ls ws e f)
gone_first o p ps ts us (Empty vs) d h = OnePart d h
gone_first o p ps ts us Stop d h = tt

sound_onward : (o : Option Word) (p : Part) (ps : List Part) (ts : List Tree) (m : Met) → MetSound o p m → ((us : List Tree) → StackSound o ps us (advance o ps us)) → StackSound o (p ∷ ps) ts (onward m o ps ts)
sound_onward o p ps ts (Taken acts qs) h g = λ k ls vs e d.
    let r = joined qs ps ls (tree.word k ∷ all acts ts) vs d in
    subst (λ l. DerivesAll (p ∷ ps) (k ∷ l) ts vs) (sym r.3) (OnePart (h k r.0 ts r.2 e r.4) r.5)
sound_onward o p ps ts (Gone acts) h g = gone_first o p ps ts (all acts ts) (advance o ps (all acts ts)) (h ts) (g (all acts ts))
sound_onward o p ps ts Wrong h g = tt

sound_advance : (o : Option Word) (ps : List Part) (ts : List Tree) → StackSound o ps ts (advance o ps ts)
unfolding advance
sound_advance o [] ts = NoPart
sound_advance o (p ∷ ps) ts = subst (λ a. StackSound o (p ∷ ps) ts a) (sym (advance-cons o p ps ts)) (sound_onward o p ps ts (meet o p) (sound_met o p) (λ us. sound_advance o ps us))

abbrev built : List Tree → Outcome
built ts = Built ts

-- what the machine builds, the parts derive
pub sound_run : (ks : List Word) (ps : List Part) (ts us : List Tree) → run ks ps ts ≡ Built us → DerivesAll ps ks ts us
unfolding run
sound_run [] ps ts us e = go (advance None ps ts) (sound_advance None ps ts) e
  where
    go : (a : Advance) → StackSound None ps ts a → ended a ≡ Built us → DerivesAll ps [] ts us
    go (Next qs vs) h e = absurd cc
    go (Empty vs) h e = let same : vs ≡ us = cc in subst (λ u. DerivesAll ps [] ts u) same h
    go Stop h e = absurd cc
sound_run (k ∷ ks) ps ts us e = go (λ qs vs. sound_run ks qs vs us) (advance (Some k) ps ts) (sound_advance (Some k) ps ts) e
  where
    go : ((qs : List Part) (vs : List Tree) → run ks qs vs ≡ Built us → DerivesAll qs ks vs us) → (a : Advance) → StackSound (Some k) ps ts a → stepped k ks a ≡ Built us → DerivesAll ps (k ∷ ks) ts us
    go ih (Next qs vs) h e = h k ks us refl (ih qs (tree.word k ∷ vs) e)
    go ih (Empty vs) h e = absurd cc
    go ih Stop h e = absurd cc
