-- The machine's steps, as equations.
use Rattle.std.proofs.Common.{◌≡◌, suc, Bool, true, false, cond, Option, Some, None, List, [], ◌∷◌, ◌++◌, length, refl, sym, ap, ◌∙◌, append_assoc}
use Rattle.pr_lang.specs.Word.{Word, Pattern, takes}
use Rattle.pr_lang.specs.Grammar.{Rule, Action, Part, right, token, rule, make, then, or, maybe, many}
use Rattle.pr_lang.specs.Machine.{Met, meet, Taken, Gone, Wrong, can_begin, optional, repeated, next, begins}
use Rattle.pr_lang.specs.Tree.{Tree}
use Rattle.pr_lang.specs.Tree as tree
use Rattle.pr_parse.specs.Run.{act, all, Advance, Next, Empty, Stop, advance, Outcome, WrongAt, ended, run}
use Rattle.pr_parse.proofs.Meets.{meet-rule, meet-token, meet-make, meet-then, meet-or, meet-maybe, meet-many, in_turn, one_of}

-- what a stack becomes where its top becomes this
abbrev pub onward : Met → Option Word → List Part → List Tree → Advance
onward (Taken acts qs) o ps ts = Next (qs ++ ps) (all acts ts)
onward (Gone acts) o ps ts = advance o ps (all acts ts)
onward Wrong o ps ts = Stop

pub advance-cons : (o : Option Word) (p : Part) (ps : List Part) (ts : List Tree) → advance o (p ∷ ps) ts ≡ onward (meet o p) o ps ts
unfolding advance
advance-cons o p ps ts = go (meet o p)
  where
    go : (m : Met) → (elim m [ Taken acts qs ↦ Next (qs ++ ps) (all acts ts) | Gone acts ↦ advance o ps (all acts ts) | Wrong ↦ Stop ]) ≡ onward m o ps ts
    go (Taken acts qs) = refl
    go (Gone acts) = refl
    go Wrong = refl

pub all-append : (acts bs : List Action) (ts : List Tree) → all (acts ++ bs) ts ≡ all bs (all acts ts)
all-append [] bs ts = refl
all-append (a ∷ acts) bs ts = all-append acts bs (act a ts)

-- the run after a step
abbrev pub stepped : Word → List Word → Advance → Outcome
stepped k ks (Next qs us) = run ks qs (tree.word k ∷ us)
stepped k ks (Empty us) = WrongAt (suc (length ks))
stepped k ks Stop = WrongAt (suc (length ks))

-- equal steps at every next token make equal runs
lifted : (ps qs : List Part) (ts us : List Tree) (ks : List Word) → ((o : Option Word) → advance o ps ts ≡ advance o qs us) → run ks ps ts ≡ run ks qs us
unfolding run
lifted ps qs ts us [] h = ap ended (h None)
lifted ps qs ts us (k ∷ ks) h = ap (stepped k ks) (h (Some k))

pub run-rule : (ks : List Word) (r : Rule) (ps : List Part) (ts : List Tree) → run ks (rule r ∷ ps) ts ≡ run ks (right r ∷ ps) ts
run-rule ks r ps ts = lifted _ _ _ _ ks (λ o. advance-cons o (rule r) ps ts ∙ ap (λ m. onward m o ps ts) (meet-rule o r) ∙ sym (advance-cons o (right r) ps ts))

pub run-make : (ks : List Word) (a : Action) (ps : List Part) (ts : List Tree) → run ks (make a ∷ ps) ts ≡ run ks ps (act a ts)
run-make ks a ps ts = lifted _ _ _ _ ks (λ o. advance-cons o (make a) ps ts ∙ ap (λ m. onward m o ps ts) (meet-make o a))

then-step : (o : Option Word) (p q : Part) (ps : List Part) (ts : List Tree) (m n : Met) → meet o p ≡ m → meet o q ≡ n → advance o (then p q ∷ ps) ts ≡ advance o (p ∷ q ∷ ps) ts
then-step o p q ps ts m n hp hq =
    advance-cons o (then p q) ps ts ∙ ap (λ x. onward x o ps ts) (meet-then o p q ∙ ap (λ x. in_turn x (meet o q) q) hp ∙ ap (λ x. in_turn m x q) hq) ∙ go m n hq ∙ ap (λ x. onward x o (q ∷ ps) ts) (sym hp) ∙ sym (advance-cons o p (q ∷ ps) ts)
  where
    go : (m n : Met) → meet o q ≡ n → onward (in_turn m n q) o ps ts ≡ onward m o (q ∷ ps) ts
    go (Taken acts qs) n hq = ap (λ l. Next l (all acts ts)) (append_assoc qs (q ∷ []) ps)
    go (Gone acts) (Taken bs qs) hq = ap (λ u. Next (qs ++ ps) u) (all-append acts bs ts) ∙ ap (λ x. onward x o ps (all acts ts)) (sym hq) ∙ sym (advance-cons o q ps (all acts ts))
    go (Gone acts) (Gone bs) hq = ap (λ u. advance o ps u) (all-append acts bs ts) ∙ ap (λ x. onward x o ps (all acts ts)) (sym hq) ∙ sym (advance-cons o q ps (all acts ts))
    go (Gone acts) Wrong hq = ap (λ x. onward x o ps (all acts ts)) (sym hq) ∙ sym (advance-cons o q ps (all acts ts))
    go Wrong n hq = refl

pub run-then : (ks : List Word) (p q : Part) (ps : List Part) (ts : List Tree) → run ks (then p q ∷ ps) ts ≡ run ks (p ∷ q ∷ ps) ts
run-then ks p q ps ts = lifted _ _ _ _ ks (λ o. then-step o p q ps ts (meet o p) (meet o q) refl refl)

-- the next token is this one, or it is wrong
pub run-token : (ks : List Word) (n : Pattern) (ps : List Part) (ts : List Tree) (k : Word) → takes n (next (k ∷ ks)) ≡ true → run (k ∷ ks) (token n ∷ ps) ts ≡ run ks ps (tree.word k ∷ ts)
unfolding run
run-token ks n ps ts k h = ap (stepped k ks) (advance-cons (Some k) (token n) ps ts ∙ ap (λ m. onward m (Some k) ps ts) (meet-token (Some k) n) ∙ ap (λ b. onward (cond b (Taken [] []) Wrong) (Some k) ps ts) h)

pub run-not_token : (ks : List Word) (n : Pattern) (ps : List Part) (ts : List Tree) → takes n (next ks) ≡ false → run ks (token n ∷ ps) ts ≡ WrongAt (length ks)
unfolding run
run-not_token [] n ps ts h = ap ended (advance-cons None (token n) ps ts ∙ ap (λ m. onward m None ps ts) (meet-token None n))
run-not_token (k ∷ ks) n ps ts h = ap (stepped k ks) (advance-cons (Some k) (token n) ps ts ∙ ap (λ m. onward m (Some k) ps ts) (meet-token (Some k) n) ∙ ap (λ b. onward (cond b (Taken [] []) Wrong) (Some k) ps ts) h)

maybe_step : (o : Option Word) (p : Part) (ps : List Part) (ts : List Tree) → advance o (maybe p ∷ ps) ts ≡ cond (can_begin (meet o p)) (advance o (p ∷ ps) ts) (advance o ps ts)
maybe_step o p ps ts =
    advance-cons o (maybe p) ps ts ∙ ap (λ m. onward m o ps ts) (meet-maybe o p) ∙ go (meet o p) ∙ ap (λ a. cond (can_begin (meet o p)) a (advance o ps ts)) (sym (advance-cons o p ps ts))
  where
    go : (m : Met) → onward (optional m) o ps ts ≡ cond (can_begin m) (onward m o ps ts) (advance o ps ts)
    go (Taken acts qs) = refl
    go (Gone acts) = refl
    go Wrong = refl

many_step : (o : Option Word) (p : Part) (ps : List Part) (ts : List Tree) → advance o (many p ∷ ps) ts ≡ cond (can_begin (meet o p)) (advance o (p ∷ many p ∷ ps) ts) (advance o ps ts)
many_step o p ps ts =
    advance-cons o (many p) ps ts ∙ ap (λ m. onward m o ps ts) (meet-many o p) ∙ go (meet o p) ∙ ap (λ a. cond (can_begin (meet o p)) a (advance o ps ts)) (sym (advance-cons o p (many p ∷ ps) ts))
  where
    go : (m : Met) → onward (repeated m p) o ps ts ≡ cond (can_begin m) (onward m o (many p ∷ ps) ts) (advance o ps ts)
    go (Taken acts qs) = ap (λ l. Next l (all acts ts)) (append_assoc qs (many p ∷ []) ps)
    go (Gone acts) = refl
    go Wrong = refl

or_step : (o : Option Word) (p q : Part) (ps : List Part) (ts : List Tree) → advance o (or p q ∷ ps) ts ≡ cond (can_begin (meet o p)) (advance o (p ∷ ps) ts) (advance o (q ∷ ps) ts)
or_step o p q ps ts =
    advance-cons o (or p q) ps ts ∙ ap (λ m. onward m o ps ts) (meet-or o p q) ∙ go (meet o p) ∙ ap (λ a. cond (can_begin (meet o p)) a (onward (meet o q) o ps ts)) (sym (advance-cons o p ps ts)) ∙ ap (λ a. cond (can_begin (meet o p)) (advance o (p ∷ ps) ts) a) (sym (advance-cons o q ps ts))
  where
    go : (m : Met) → onward (one_of m (meet o q)) o ps ts ≡ cond (can_begin m) (onward m o ps ts) (onward (meet o q) o ps ts)
    go (Taken acts qs) = refl
    go (Gone acts) = refl
    go Wrong = refl

-- a choice of steps is a choice of runs
chosen : (f : Option Word → Bool) (ps qs rs : List Part) (ts : List Tree) (ks : List Word) → ((o : Option Word) → advance o ps ts ≡ cond (f o) (advance o qs ts) (advance o rs ts)) → run ks ps ts ≡ cond (f (next ks)) (run ks qs ts) (run ks rs ts)
unfolding run
chosen f ps qs rs ts [] h = ap ended (h None) ∙ go (f None)
  where
    go : (b : Bool) → ended (cond b (advance None qs ts) (advance None rs ts)) ≡ cond b (run [] qs ts) (run [] rs ts)
    go true = refl
    go false = refl
chosen f ps qs rs ts (k ∷ ks) h = ap (stepped k ks) (h (Some k)) ∙ go (f (Some k))
  where
    go : (b : Bool) → stepped k ks (cond b (advance (Some k) qs ts) (advance (Some k) rs ts)) ≡ cond b (run (k ∷ ks) qs ts) (run (k ∷ ks) rs ts)
    go true = refl
    go false = refl

pub run-maybe : (ks : List Word) (p : Part) (ps : List Part) (ts : List Tree) → run ks (maybe p ∷ ps) ts ≡ cond (begins p ks) (run ks (p ∷ ps) ts) (run ks ps ts)
run-maybe ks p ps ts = chosen (λ o. can_begin (meet o p)) (maybe p ∷ ps) (p ∷ ps) ps ts ks (λ o. maybe_step o p ps ts)

pub run-many : (ks : List Word) (p : Part) (ps : List Part) (ts : List Tree) → run ks (many p ∷ ps) ts ≡ cond (begins p ks) (run ks (p ∷ many p ∷ ps) ts) (run ks ps ts)
run-many ks p ps ts = chosen (λ o. can_begin (meet o p)) (many p ∷ ps) (p ∷ many p ∷ ps) ps ts ks (λ o. many_step o p ps ts)

pub run-or : (ks : List Word) (p q : Part) (ps : List Part) (ts : List Tree) → run ks (or p q ∷ ps) ts ≡ cond (begins p ks) (run ks (p ∷ ps) ts) (run ks (q ∷ ps) ts)
run-or ks p q ps ts = chosen (λ o. can_begin (meet o p)) (or p q ∷ ps) (p ∷ ps) (q ∷ ps) ts ks (λ o. or_step o p q ps ts)
