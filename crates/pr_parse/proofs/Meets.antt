-- What becomes of a part at a word, by its form; a rule is met as its right side is.
use Rattle.std.proofs.Common.{◌≡◌, ℕ, zero, suc, ◌<◌, ltb, Bool, true, false, cond, ◌⊎◌, inl, inr, Option, [], ◌∷◌, ◌++◌, refl, sym, ap, ◌∙◌, arith, ltb-true}
use Rattle.pr_lang.specs.Word.{Word, Pattern, takes}
use Rattle.pr_lang.specs.Grammar.{Rule, Action, Part, right, TheProgram, AnyOf, ListOf, MaybeListOf, TheItem, TheExpr, level, TheCompare, ThePrefix, ThePostfix, Items, Stmts, Params, Exprs, Entries, Ors, Xors, Ands, Shifts, Sums, Products, FixedSums, FixedProducts, token, rule, make, then, or, maybe, many}
use Rattle.pr_lang.specs.Machine.{Met, meet, meet_in, meet_rule, Taken, Gone, Wrong, after_actions, optional, repeated}
use Rattle.pr_parse.proofs.Tests.{either, both, both_parts, one_true}

-- the first part met so, and then the second
abbrev pub in_turn : Met → Met → Part → Met
in_turn (Taken acts ps) second q = Taken acts (ps ++ q ∷ [])
in_turn (Gone acts) second q = after_actions acts second
in_turn Wrong second q = Wrong

abbrev pub one_of : Met → Met → Met
one_of (Taken acts ps) second = Taken acts ps
one_of (Gone acts) second = second
one_of Wrong second = second

module _ (rules : Rule → Met) (o : Option Word) where
  met_then : (p q : Part) → meet_in rules o (then p q) ≡ in_turn (meet_in rules o p) (meet_in rules o q) q
  met_then p q = go (meet_in rules o p)
    where
      go : (m : Met) → (elim m [ Taken acts ps ↦ Taken acts (ps ++ q ∷ []) | Gone acts ↦ after_actions acts (meet_in rules o q) | Wrong ↦ Wrong ]) ≡ in_turn m (meet_in rules o q) q
      go (Taken acts ps) = refl
      go (Gone acts) = refl
      go Wrong = refl

  met_or : (p q : Part) → meet_in rules o (or p q) ≡ one_of (meet_in rules o p) (meet_in rules o q)
  met_or p q = go (meet_in rules o p)
    where
      go : (m : Met) → (elim m [ Taken acts ps ↦ Taken acts ps | Gone acts ↦ meet_in rules o q | Wrong ↦ meet_in rules o q ]) ≡ one_of m (meet_in rules o q)
      go (Taken acts ps) = refl
      go (Gone acts) = refl
      go Wrong = refl

-- ---- the rules that a part can begin with

abbrev pub takes_word : Part → Bool
takes_word (token n) = true
takes_word _ = false

-- whether all rules that a part can begin with pass a test
abbrev pub leads : (Rule → Bool) → Part → Bool
leads test (token n) = true
leads test (rule r) = test r
leads test (make a) = true
leads test (then p q) = both (leads test p) (either (takes_word p) (leads test q))
leads test (or p q) = both (leads test p) (leads test q)
leads test (maybe p) = leads test p
leads test (many p) = leads test p

-- what is behind a part that takes a word does not matter yet
behind_word : (rules : Rule → Met) (o : Option Word) (p q : Part) (m n : Met) → takes_word p ≡ true → in_turn (meet_in rules o p) m q ≡ in_turn (meet_in rules o p) n q
behind_word rules o (token t) q m n h = go (takes t o)
  where
    go : (b : Bool) → in_turn (cond b (Taken [] []) Wrong) m q ≡ in_turn (cond b (Taken [] []) Wrong) n q
    go true = refl
    go false = refl
behind_word rules o _ q m n h = absurd cc

-- rules that are met alike make parts that are met alike
module _ (test : Rule → Bool) (rules others : Rule → Met) (o : Option Word) (same : (r : Rule) → test r ≡ true → rules r ≡ others r) where
  same_second : (p q : Part) → (takes_word p ≡ true) ⊎ (leads test q ≡ true) → (leads test q ≡ true → meet_in rules o q ≡ meet_in others o q) → in_turn (meet_in others o p) (meet_in rules o q) q ≡ in_turn (meet_in others o p) (meet_in others o q) q
  same_second p q (inl t) h = behind_word others o p q (meet_in rules o q) (meet_in others o q) t
  same_second p q (inr l) h = ap (λ m. in_turn (meet_in others o p) m q) (h l)

  same_met : (p : Part) → leads test p ≡ true → meet_in rules o p ≡ meet_in others o p
  same_met (token n) l = refl
  same_met (rule r) l = same r l
  same_met (make a) l = refl
  same_met (then p q) l =
      let a = both_parts (leads test p) (either (takes_word p) (leads test q)) l in
      met_then rules o p q
      ∙ ap (λ m. in_turn m (meet_in rules o q) q) (same_met p a.0)
      ∙ same_second p q (one_true (takes_word p) (leads test q) a.1) (λ k. same_met q k)
      ∙ sym (met_then others o p q)
  same_met (or p q) l =
      let a = both_parts (leads test p) (leads test q) l in
      met_or rules o p q
      ∙ ap (λ m. one_of m (meet_in rules o q)) (same_met p a.0)
      ∙ ap (λ m. one_of (meet_in others o p) m) (same_met q a.1)
      ∙ sym (met_or others o p q)
  same_met (maybe p) l = ap optional (same_met p l)
  same_met (many p) l = ap (λ m. repeated m p) (same_met p l)

-- how many rules lead down from a rule before a word is taken
abbrev pub height : Rule → ℕ
height TheProgram = 3
height (AnyOf Items) = 2
height (AnyOf Stmts) = 1
height (ListOf Params) = 1
height (ListOf Exprs) = 11
height (ListOf Entries) = 3
height (MaybeListOf Params) = 1
height (MaybeListOf Exprs) = 11
height (MaybeListOf Entries) = 3
height TheItem = 1
height TheExpr = 10
height (level Ors) = 9
height (level Xors) = 8
height (level Ands) = 7
height TheCompare = 6
height (level Shifts) = 5
height (level Sums) = 4
height (level Products) = 3
height (level FixedSums) = 2
height (level FixedProducts) = 1
height ThePrefix = 2
height ThePostfix = 1
height _ = 0

abbrev pub is_below : Rule → Rule → Bool
is_below r s = ltb (height s) (height r)

-- a rule leads to lower ones, and none is higher than the machine is deep
right_lower : (r : Rule) → both (ltb (height r) 15) (leads (is_below r) (right r)) ≡ true
right_lower (AnyOf Items) = refl
right_lower (AnyOf _) = refl
right_lower (ListOf Params) = refl
right_lower (ListOf _) = refl
right_lower (MaybeListOf Params) = refl
right_lower (MaybeListOf _) = refl
right_lower (level Ors) = refl
right_lower (level _) = refl
right_lower _ = refl

pub right_leads : (r : Rule) → leads (is_below r) (right r) ≡ true
right_leads r = (both_parts (ltb (height r) 15) (leads (is_below r) (right r)) (right_lower r)).1

height_below : (r : Rule) → height r < 15
height_below r = ltb-true (height r) 15 (both_parts (ltb (height r) 15) (leads (is_below r) (right r)) (right_lower r)).0

same_rule : (o : Option Word) (n k : ℕ) (r : Rule) → height r < n → height r < k → meet_rule n o r ≡ meet_rule k o r
unfolding meet_rule
same_rule o zero k r a b = absurd (omega arith)
same_rule o (suc n) zero r a b = absurd (omega arith)
same_rule o (suc n) (suc k) r a b = same_met (is_below r) (meet_rule n o) (meet_rule k o) o (λ s e. let c = ltb-true (height s) (height r) e in same_rule o n k s (omega arith) (omega arith)) (right r) (right_leads r)

pub meet-rule : (o : Option Word) (r : Rule) → meet o (rule r) ≡ meet o (right r)
unfolding meet meet_rule
meet-rule o r = same_met (is_below r) (meet_rule 15 o) (meet_rule 16 o) o (λ s e. let c = ltb-true (height s) (height r) e in let d = height_below r in same_rule o 15 16 s (omega arith) (omega arith)) (right r) (right_leads r)

pub meet-token : (o : Option Word) (n : Pattern) → meet o (token n) ≡ cond (takes n o) (Taken [] []) Wrong
unfolding meet
meet-token o n = refl

pub meet-make : (o : Option Word) (a : Action) → meet o (make a) ≡ Gone (a ∷ [])
unfolding meet
meet-make o a = refl

pub meet-then : (o : Option Word) (p q : Part) → meet o (then p q) ≡ in_turn (meet o p) (meet o q) q
unfolding meet
meet-then o p q = met_then (meet_rule 16 o) o p q

pub meet-or : (o : Option Word) (p q : Part) → meet o (or p q) ≡ one_of (meet o p) (meet o q)
unfolding meet
meet-or o p q = met_or (meet_rule 16 o) o p q

pub meet-maybe : (o : Option Word) (p : Part) → meet o (maybe p) ≡ optional (meet o p)
unfolding meet
meet-maybe o p = refl

pub meet-many : (o : Option Word) (p : Part) → meet o (many p) ≡ repeated (meet o p) p
unfolding meet
meet-many o p = refl
