-- Programs, the wrong word, and what is refused.
use Rattle.std.proofs.Common.{◌≡◌, ℕ, zero, suc, ◌+◌, ◌-◌, ◌<◌, ◌≤◌, true, false, cond, nat_lt, Option, Some, None, List, [], ◌∷◌, ◌++◌, length, take, drop, refl, sym, ap, subst, ◌∙◌, arith, length-append, length-drop}
use Rattle.std.proofs.lemmas.List.{append-nil, take-append-drop}
use Rattle.std.proofs.lemmas.Bool.Decides.{nat_tests}
use Rattle.pr_lang.specs.Word.{Word}
use Rattle.pr_lang.specs.Grammar.{Part, rule, TheProgram}
use Rattle.pr_lang.specs.Machine.{Moved, Go, Over, Halt, moved, at_end, left_over, first_wrong, place_of}
use Rattle.pr_lang.specs.Tree.{Tree}
use Rattle.pr_lang.specs.Is.{Is}
use Rattle.pr_lang.specs.Load.{first_deep}
use Rattle.pr_lang.specs.Syntax.{AtToken, TooDeep, earlier, refusal_of_words}
use Rattle.pr_parse.specs.Run.{Outcome, Built, WrongAt, run, advance}
use Rattle.pr_parse.specs.Derive.{Derives, DerivesAll, OnePart, NoPart}
use Rattle.pr_parse.proofs.Sound.{sound_run}
use Rattle.pr_parse.proofs.Complete.{completes}
use Rattle.pr_parse.proofs.Plain.{left, plain_run}
use Rattle.pr_parse.proofs.Typed.{Got, got, typed}
use Rattle.pr_parse.proofs.Derived.{derived}

pub no_part : (ts : List Tree) → run [] [] ts ≡ Built ts
unfolding run advance
no_part ts = refl

-- a whole derivation is what the machine builds
pub builds : (ws : List Word) (t : Tree) → Is TheProgram ws t → run ws (rule TheProgram ∷ []) [] ≡ Built (t ∷ [])
builds ws t d = ap (λ l. run l (rule TheProgram ∷ []) []) (sym (append-nil ws)) ∙ completes (rule TheProgram) ws [] (t ∷ []) (derived TheProgram ws t d []) (λ o. refl) [] refl [] ∙ no_part (t ∷ [])

pub one_program : (ws : List Word) (p q : Tree) → Is TheProgram ws p → Is TheProgram ws q → p ≡ q
one_program ws p q d e = let same : Built (p ∷ []) ≡ Built (q ∷ []) = sym (builds ws p d) ∙ builds ws q e in cc

alone : (ws : List Word) (ts us : List Tree) → DerivesAll (rule TheProgram ∷ []) ws ts us → Derives (rule TheProgram) ws ts us
alone _ ts us (OnePart {ks = ks} d NoPart) = let P : List Word → Type 0 = λ l. Derives (rule TheProgram) l ts us in subst P (sym (append-nil ks)) d

got_tree : (ws : List Word) (us : List Tree) → Got TheProgram ws [] us → (t : Tree) × Is TheProgram ws t × (us ≡ t ∷ [])
got_tree ws _ (got {t = t} d) = (t, d, refl)

-- what the machine builds is a program
pub program_of_run : (ws : List Word) (us : List Tree) → run ws (rule TheProgram ∷ []) [] ≡ Built us → (t : Tree) × Is TheProgram ws t × (us ≡ t ∷ [])
program_of_run ws us e = got_tree ws us (typed TheProgram ws [] us (alone ws [] us (sound_run ws (rule TheProgram ∷ []) [] us e)))

pub built_is : (ws : List Word) (t : Tree) → run ws (rule TheProgram ∷ []) [] ≡ Built (t ∷ []) → Is TheProgram ws t
built_is ws t e = let r = program_of_run ws (t ∷ []) e in let same : r.0 ≡ t = let f : t ∷ [] ≡ r.0 ∷ [] = r.2 in cc in subst (λ u. Is TheProgram ws u) same r.1

left_is : (ws : List Word) → left_over ws (rule TheProgram ∷ []) ≡ left (run ws (rule TheProgram ∷ []) [])
left_is ws = sym (plain_run ws (rule TheProgram ∷ []) [])

wrong_is : (ws : List Word) (o : Outcome) → run ws (rule TheProgram ∷ []) [] ≡ o → first_wrong ws ≡ place_of ws (left o)
unfolding first_wrong
wrong_is ws o e = ap (place_of ws) (left_is ws ∙ ap left e)

pub none_wrong : (ws : List Word) (t : Tree) → Is TheProgram ws t → first_wrong ws ≡ None
none_wrong ws t d = wrong_is ws (Built (t ∷ [])) (builds ws t d)

pub some_program : (ws : List Word) → first_wrong ws ≡ None → (t : Tree) × Is TheProgram ws t
some_program ws h = go (run ws (rule TheProgram ∷ []) []) refl
  where
    go : (o : Outcome) → run ws (rule TheProgram ∷ []) [] ≡ o → (t : Tree) × Is TheProgram ws t
    go (Built us) e = let r = program_of_run ws us e in (r.0, r.1)
    go (WrongAt n) e = let f : place_of ws (Some n) ≡ None = sym (wrong_is ws (WrongAt n) e) ∙ h in absurd cc

-- ---- a front of the words alone

abbrev IsLate : Option ℕ → ℕ → Type 0
IsLate None n = Unit {0}
IsLate (Some m) n = m ≤ n

late : (vs : List Word) (ps : List Part) → IsLate (left_over vs ps) (length vs)
unfolding left_over
late [] ps = go (moved None ps)
  where
    go : (m : Moved) → IsLate (at_end m) 0
    go (Go qs) = omega arith
    go Over = tt
    go Halt = omega arith
late (w ∷ vs) ps = go (λ qs. late vs qs) (moved (Some w) ps)
  where
    more : (o : Option ℕ) → IsLate o (length vs) → IsLate o (suc (length vs))
    more None h = tt
    more (Some n) h = omega arith

    go : ((qs : List Part) → IsLate (left_over vs qs) (length vs)) → (m : Moved) → IsLate (elim m [ Go qs ↦ left_over vs qs | Over ↦ Some (suc (length vs)) | Halt ↦ Some (suc (length vs)) ]) (suc (length vs))
    go ih (Go qs) = more (left_over vs qs) (ih qs)
    go ih Over = omega arith
    go ih Halt = omega arith

-- what the whole list gives where its front gives this, with so many words after it
abbrev Extends : Option ℕ → Option ℕ → ℕ → Type 0
Extends (Some zero) o n = IsLate o n
Extends (Some (suc m)) o n = o ≡ Some (suc m + n)
Extends None o n = IsLate o n

extended : (us vs : List Word) (ps : List Part) → Extends (left_over us ps) (left_over (us ++ vs) ps) (length vs)
unfolding left_over
extended [] vs ps = go (moved None ps) (late vs ps)
  where
    go : (m : Moved) → IsLate (left_over vs ps) (length vs) → Extends (at_end m) (left_over vs ps) (length vs)
    go (Go qs) h = h
    go Over h = h
    go Halt h = h
extended (w ∷ us) vs ps = go (λ qs. extended us vs qs) (moved (Some w) ps)
  where
    longer : Some (suc (length (us ++ vs))) ≡ Some (suc (length us) + length vs)
    longer = ap (λ (n : ℕ). Some n) (omega (arith, length-append us vs))

    go : ((qs : List Part) → Extends (left_over us qs) (left_over (us ++ vs) qs) (length vs)) → (m : Moved)
        → Extends (elim m [ Go qs ↦ left_over us qs | Over ↦ Some (suc (length us)) | Halt ↦ Some (suc (length us)) ]) (elim m [ Go qs ↦ left_over (us ++ vs) qs | Over ↦ Some (suc (length (us ++ vs))) | Halt ↦ Some (suc (length (us ++ vs))) ]) (length vs)
    go ih (Go qs) = ih qs
    go ih Over = longer
    go ih Halt = longer

split_at : (ws : List Word) (d : ℕ) → take d ws ++ drop d ws ≡ ws
split_at ws d = take-append-drop d ws

front_left : (ws : List Word) (d : ℕ) (o : Outcome) → run (take d ws) (rule TheProgram ∷ []) [] ≡ o → Extends (left o) (left_over ws (rule TheProgram ∷ [])) (length ws - d)
front_left ws d o e =
    let x = extended (take d ws) (drop d ws) (rule TheProgram ∷ []) in
    let y = subst (λ l. Extends l (left_over (take d ws ++ drop d ws) (rule TheProgram ∷ [])) (length (drop d ws))) (left_is (take d ws) ∙ ap left e) x in
    subst (λ n. Extends (left o) (left_over ws (rule TheProgram ∷ [])) n) (length-drop d ws) (subst (λ l. Extends (left o) (left_over l (rule TheProgram ∷ [])) (length (drop d ws))) (split_at ws d) y)

-- ---- what is refused

pub refused_not : (ws : List Word) (t : Tree) → first_deep ws ≡ None → run ws (rule TheProgram ∷ []) [] ≡ Built (t ∷ []) → refusal_of_words ws ≡ None
refused_not ws t d e = ap (λ o. earlier o (first_wrong ws)) d ∙ ap (earlier None) (wrong_is ws (Built (t ∷ [])) e)

pub refused_wrong : (ws : List Word) (n : ℕ) → first_deep ws ≡ None → run ws (rule TheProgram ∷ []) [] ≡ WrongAt n → refusal_of_words ws ≡ Some (AtToken (length ws - n))
refused_wrong ws n d e = ap (λ o. earlier o (first_wrong ws)) d ∙ ap (earlier None) (wrong_is ws (WrongAt n) e)

below : (a b : ℕ) → a < b → nat_lt a b ≡ true
below a b h = grind (arith, nat_tests)

not_below : (a b : ℕ) → b ≤ a → nat_lt a b ≡ false
not_below a b h = grind (arith, nat_tests)

pub refused_near : (ws : List Word) (d n : ℕ) → first_deep ws ≡ Some d → d ≤ length ws → 0 < n → n ≤ d → run (take d ws) (rule TheProgram ∷ []) [] ≡ WrongAt n → refusal_of_words ws ≡ Some (AtToken (d - n))
unfolding first_wrong
refused_near ws d zero f w s b e = absurd (omega arith)
refused_near ws d (suc n) f w s b e =
    let x : left_over ws (rule TheProgram ∷ []) ≡ Some (suc n + (length ws - d)) = front_left ws d (WrongAt (suc n)) e in
    let place : length ws - (suc n + (length ws - d)) ≡ d - suc n = omega arith in
    let y : first_wrong ws ≡ Some (d - suc n) = ap (place_of ws) x ∙ ap (λ (m : ℕ). Some m) place in
    ap (λ o. earlier o (first_wrong ws)) f ∙ ap (earlier (Some d)) y ∙ ap (λ b. cond b (Some (AtToken (d - suc n))) (Some TooDeep)) (below (d - suc n) d (omega arith))

deep_by : (ws : List Word) (d : ℕ) (o : Option ℕ) → d ≤ length ws → IsLate o (length ws - d) → earlier (Some d) (place_of ws o) ≡ Some TooDeep
deep_by ws d None w h = refl
deep_by ws d (Some m) w h = ap (λ b. cond b (Some (AtToken (length ws - m))) (Some TooDeep)) (not_below (length ws - m) d (omega arith))

pub refused_deep : (ws : List Word) (d : ℕ) → first_deep ws ≡ Some d → d ≤ length ws → run (take d ws) (rule TheProgram ∷ []) [] ≡ WrongAt 0 → refusal_of_words ws ≡ Some TooDeep
unfolding first_wrong
refused_deep ws d f w e = ap (λ o. earlier o (first_wrong ws)) f ∙ deep_by ws d (left_over ws (rule TheProgram ∷ [])) w (front_left ws d (WrongAt 0) e)

pub refused_deep_built : (ws : List Word) (d : ℕ) (us : List Tree) → first_deep ws ≡ Some d → d ≤ length ws → run (take d ws) (rule TheProgram ∷ []) [] ≡ Built us → refusal_of_words ws ≡ Some TooDeep
unfolding first_wrong
refused_deep_built ws d us f w e = ap (λ o. earlier o (first_wrong ws)) f ∙ deep_by ws d (left_over ws (rule TheProgram ∷ [])) w (front_left ws d (Built us) e)

pub wrong_within : (ws : List Word) (n : ℕ) → run ws (rule TheProgram ∷ []) [] ≡ WrongAt n → n ≤ length ws
wrong_within ws n e = subst (λ o. IsLate o (length ws)) (left_is ws ∙ ap left e) (late ws (rule TheProgram ∷ []))

-- a word where nothing is expected any more
pub run-over : (w : Word) (ws : List Word) (ts : List Tree) → run (w ∷ ws) [] ts ≡ WrongAt (suc (length ws))
unfolding run advance
run-over w ws ts = refl
