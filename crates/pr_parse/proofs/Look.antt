-- One token of look-ahead is enough: which tokens a part can begin with, which may go on with it after it could have ended, and that the choices never meet.
use Rattle.std.proofs.Common.{◌≡◌, ℕ, zero, suc, ◌<◌, nat_eq, List, [], ◌∷◌, ◌++◌, map, Bool, true, false, cond, ◌||◌, Option, Some, None, refl, sym, ap, ap₂, subst, ◌∙◌, arith, ltb-true}
use Rattle.std.proofs.lemmas.Bool.{eqb-true}
use Rattle.pr_lang.specs.declared.tokens.Symbol.{Symbol}
use Rattle.pr_lang.specs.Word.{Word, tag, keyword_tag, symbol_tag, among, Pattern, any_name, any_number, the_end, this_keyword, this_symbol, one_of, fits, takes}
use Rattle.pr_lang.specs.Grammar.{Rule, Action, Part, right, TheProgram, AnyOf, ListOf, MaybeListOf, TheWidth, TheIndex, TheItem, TheParam, TheStmt, TheTarget, TheExpr, level, TheCompare, ThePrefix, ThePostfix, ThePrimary, TheFixedPrimary, Items, Stmts, Params, Exprs, Entries, Ors, Xors, Ands, Shifts, Sums, Products, FixedSums, FixedProducts, token, rule, make, then, or, maybe, many}
use Rattle.pr_lang.specs.Machine.{Met, meet, Taken, Gone, Wrong, can_begin, after_actions, optional, repeated}
use Rattle.pr_parse.proofs.Tests.{either, both, apart, solid, both_parts, right_true, both_true, apart_from, is_solid, either-false, either_assoc}
use Rattle.pr_parse.proofs.Meets.{in_turn, one_of as either_met, takes_word, leads, height, is_below, right_leads, meet-rule, meet-token, meet-make, meet-then, meet-or, meet-maybe, meet-many}

abbrev pub starts : Part → Option Word → Bool
starts p o = can_begin (meet o p)

-- the rules that may derive nothing
abbrev pub may_be_empty : Rule → Bool
may_be_empty (AnyOf b) = true
may_be_empty (MaybeListOf c) = true
may_be_empty TheWidth = true
may_be_empty TheIndex = true
may_be_empty _ = false

abbrev pub nullable : Part → Bool
nullable (token n) = false
nullable (rule r) = may_be_empty r
nullable (make a) = true
nullable (then p q) = both (nullable p) (nullable q)
nullable (or p q) = either (nullable p) (nullable q)
nullable (maybe p) = true
nullable (many p) = true

-- ---- sets of tokens, by their numbers

abbrev has : ℕ → List ℕ → Bool
has n [] = false
has n (m ∷ ms) = either (nat_eq n m) (has n ms)

abbrev is_tagged : ℕ → Option Word → Bool
is_tagged n None = false
is_tagged n (Some w) = nat_eq (tag w) n

abbrev pub in_tags : List ℕ → Option Word → Bool
in_tags [] o = false
in_tags (n ∷ ns) o = either (is_tagged n o) (in_tags ns o)

-- no number is in both
abbrev none_of : List ℕ → List ℕ → Bool
none_of [] ms = true
none_of (n ∷ ns) ms = both (solid (has n ms)) (none_of ns ms)

-- each number of the first is in the second
abbrev all_of : List ℕ → List ℕ → Bool
all_of [] ms = true
all_of (n ∷ ns) ms = both (has n ms) (all_of ns ms)

in_append : (o : Option Word) (ns ms : List ℕ) → in_tags (ns ++ ms) o ≡ either (in_tags ns o) (in_tags ms o)
in_append o [] ms = refl
in_append o (n ∷ ns) ms = ap (λ b. either (is_tagged n o) b) (in_append o ns ms) ∙ sym (either_assoc (is_tagged n o) (in_tags ns o) (in_tags ms o))

in_cond : (o : Option Word) (b : Bool) (ns : List ℕ) → in_tags (cond b ns []) o ≡ both b (in_tags ns o)
in_cond o true ns = refl
in_cond o false ns = refl

in_none : (ns : List ℕ) → in_tags ns None ≡ false
in_none [] = refl
in_none (n ∷ ns) = in_none ns

in_word : (w : Word) (ns : List ℕ) → in_tags ns (Some w) ≡ has (tag w) ns
in_word w [] = refl
in_word w (n ∷ ns) = ap (λ b. either (nat_eq (tag w) n) b) (in_word w ns)

-- a token of that number is in the set where the number is
in_tagged : (n : ℕ) (o : Option Word) (ns : List ℕ) → is_tagged n o ≡ true → in_tags ns o ≡ has n ns
in_tagged n None ns h = absurd cc
in_tagged n (Some w) ns h = in_word w ns ∙ ap (λ m. has m ns) (eqb-true (tag w) n h)

apart_sets : (o : Option Word) (ns ms : List ℕ) → none_of ns ms ≡ true → apart (in_tags ns o) (in_tags ms o) ≡ true
apart_sets o [] ms h = refl
apart_sets o (n ∷ ns) ms h =
    let a = both_parts (solid (has n ms)) (none_of ns ms) h in
    go (is_tagged n o) refl a.0 (apart_sets o ns ms a.1)
  where
    go : (b : Bool) → is_tagged n o ≡ b → solid (has n ms) ≡ true → apart (in_tags ns o) (in_tags ms o) ≡ true → apart (either b (in_tags ns o)) (in_tags ms o) ≡ true
    go true e s i = apart_from true (in_tags ms o) (in_tagged n o ms e ∙ is_solid (has n ms) s)
    go false e s i = i

within_sets : (o : Option Word) (ns ms : List ℕ) → all_of ns ms ≡ true → in_tags ms o ≡ false → in_tags ns o ≡ false
within_sets o [] ms h e = refl
within_sets o (n ∷ ns) ms h e =
    let a = both_parts (has n ms) (all_of ns ms) h in
    go (is_tagged n o) refl a.0 (within_sets o ns ms a.1 e)
  where
    go : (b : Bool) → is_tagged n o ≡ b → has n ms ≡ true → in_tags ns o ≡ false → either b (in_tags ns o) ≡ false
    go true f s i = absurd (let g : true ≡ false = sym s ∙ sym (in_tagged n o ms f) ∙ e in cc)
    go false f s i = i

-- ---- what a part can begin with, and what may go on with it

abbrev tags_of : Pattern → List ℕ
tags_of any_name = 0 ∷ []
tags_of any_number = 1 ∷ []
tags_of the_end = 2 ∷ []
tags_of (this_keyword k) = keyword_tag k ∷ []
tags_of (this_symbol s) = symbol_tag s ∷ []
tags_of (one_of ss) = map symbol_tag ss

abbrev stmt_tags : List ℕ
stmt_tags = 9 ∷ 10 ∷ 12 ∷ []

abbrev item_tags : List ℕ
item_tags = 4 ∷ 5 ∷ 6 ∷ 7 ∷ stmt_tags

abbrev fixed_tags : List ℕ
fixed_tags = 1 ∷ 18 ∷ 0 ∷ []

abbrev primary_tags : List ℕ
primary_tags = 1 ∷ 18 ∷ 14 ∷ 0 ∷ []

abbrev expr_tags : List ℕ
expr_tags = 36 ∷ primary_tags

-- the tokens that a rule can begin with
abbrev pub first_tags : Rule → List ℕ
first_tags TheProgram = item_tags ++ 2 ∷ []
first_tags (AnyOf Items) = item_tags
first_tags (AnyOf Stmts) = stmt_tags
first_tags (ListOf Params) = 0 ∷ []
first_tags (ListOf Exprs) = expr_tags
first_tags (ListOf Entries) = fixed_tags
first_tags (MaybeListOf Params) = 0 ∷ []
first_tags (MaybeListOf Exprs) = expr_tags
first_tags (MaybeListOf Entries) = fixed_tags
first_tags TheWidth = 15 ∷ []
first_tags TheIndex = 20 ∷ []
first_tags TheItem = item_tags
first_tags TheParam = 0 ∷ []
first_tags TheStmt = stmt_tags
first_tags TheTarget = 0 ∷ []
first_tags (level FixedSums) = fixed_tags
first_tags (level FixedProducts) = fixed_tags
first_tags ThePostfix = primary_tags
first_tags ThePrimary = primary_tags
first_tags TheFixedPrimary = fixed_tags
first_tags _ = expr_tags

abbrev first : Part → List ℕ
first (token n) = tags_of n
first (rule r) = first_tags r
first (make a) = []
first (then p q) = first p ++ cond (nullable p) (first q) []
first (or p q) = first p ++ first q
first (maybe p) = first p
first (many p) = first p

-- the tokens that go on with a rule
abbrev pub more_tags : Rule → List ℕ
more_tags TheProgram = []
more_tags (AnyOf Items) = 4 ∷ 5 ∷ 6 ∷ 7 ∷ 9 ∷ 10 ∷ 12 ∷ []
more_tags (AnyOf Stmts) = 9 ∷ 10 ∷ 12 ∷ []
more_tags (ListOf Params) = 15 ∷ 24 ∷ []
more_tags (ListOf Exprs) = 24 ∷ 18 ∷ 20 ∷ 26 ∷ 22 ∷ 30 ∷ 28 ∷ 29 ∷ 37 ∷ 38 ∷ 39 ∷ 40 ∷ 41 ∷ 42 ∷ 43 ∷ 44 ∷ 33 ∷ 35 ∷ 34 ∷ 27 ∷ []
more_tags (ListOf Entries) = 24 ∷ 20 ∷ 30 ∷ 31 ∷ 32 ∷ 28 ∷ 29 ∷ []
more_tags (MaybeListOf Params) = 0 ∷ 15 ∷ 24 ∷ []
more_tags (MaybeListOf Exprs) = 0 ∷ 1 ∷ 14 ∷ 36 ∷ 24 ∷ 18 ∷ 20 ∷ 26 ∷ 22 ∷ 30 ∷ 28 ∷ 29 ∷ 37 ∷ 38 ∷ 39 ∷ 40 ∷ 41 ∷ 42 ∷ 43 ∷ 44 ∷ 33 ∷ 35 ∷ 34 ∷ 27 ∷ []
more_tags (MaybeListOf Entries) = 0 ∷ 1 ∷ 18 ∷ 24 ∷ 20 ∷ 30 ∷ 31 ∷ 32 ∷ 28 ∷ 29 ∷ []
more_tags TheWidth = 15 ∷ []
more_tags TheIndex = 20 ∷ []
more_tags TheItem = []
more_tags TheParam = 15 ∷ []
more_tags TheStmt = []
more_tags TheTarget = 20 ∷ []
more_tags TheExpr = 18 ∷ 20 ∷ 26 ∷ 22 ∷ 30 ∷ 28 ∷ 29 ∷ 37 ∷ 38 ∷ 39 ∷ 40 ∷ 41 ∷ 42 ∷ 43 ∷ 44 ∷ 33 ∷ 35 ∷ 34 ∷ 27 ∷ []
more_tags (level Ors) = 18 ∷ 20 ∷ 26 ∷ 22 ∷ 30 ∷ 28 ∷ 29 ∷ 37 ∷ 38 ∷ 39 ∷ 40 ∷ 41 ∷ 42 ∷ 43 ∷ 44 ∷ 33 ∷ 35 ∷ 34 ∷ []
more_tags (level Xors) = 18 ∷ 20 ∷ 26 ∷ 22 ∷ 30 ∷ 28 ∷ 29 ∷ 37 ∷ 38 ∷ 39 ∷ 40 ∷ 41 ∷ 42 ∷ 43 ∷ 44 ∷ 33 ∷ 35 ∷ []
more_tags (level Ands) = 18 ∷ 20 ∷ 26 ∷ 22 ∷ 30 ∷ 28 ∷ 29 ∷ 37 ∷ 38 ∷ 39 ∷ 40 ∷ 41 ∷ 42 ∷ 43 ∷ 44 ∷ 33 ∷ []
more_tags (level Shifts) = 18 ∷ 20 ∷ 26 ∷ 22 ∷ 30 ∷ 28 ∷ 29 ∷ 37 ∷ 38 ∷ []
more_tags (level Sums) = 18 ∷ 20 ∷ 26 ∷ 22 ∷ 30 ∷ 28 ∷ 29 ∷ []
more_tags (level Products) = 18 ∷ 20 ∷ 26 ∷ 22 ∷ 30 ∷ []
more_tags (level FixedSums) = 20 ∷ 30 ∷ 31 ∷ 32 ∷ 28 ∷ 29 ∷ []
more_tags (level FixedProducts) = 20 ∷ 30 ∷ 31 ∷ 32 ∷ []
more_tags TheCompare = 18 ∷ 20 ∷ 26 ∷ 22 ∷ 30 ∷ 28 ∷ 29 ∷ 37 ∷ 38 ∷ 39 ∷ 40 ∷ 41 ∷ 42 ∷ 43 ∷ 44 ∷ []
more_tags ThePrefix = 18 ∷ 20 ∷ 26 ∷ 22 ∷ []
more_tags ThePostfix = 18 ∷ 20 ∷ 26 ∷ 22 ∷ []
more_tags ThePrimary = 18 ∷ 20 ∷ 26 ∷ []
more_tags TheFixedPrimary = 20 ∷ []

abbrev after : Part → List ℕ
after (token n) = []
after (rule r) = more_tags r
after (make a) = []
after (then p q) = after q ++ cond (nullable q) (after p) []
after (or p q) = cond (nullable q) (first p) [] ++ (after p ++ after q)
after (maybe p) = first p ++ after p
after (many p) = first p ++ after p

abbrev pub more : Rule → Option Word → Bool
more r o = in_tags (more_tags r) o

abbrev pub goes_on : Part → Option Word → Bool
goes_on (token n) o = false
goes_on (rule r) o = more r o
goes_on (make a) o = false
goes_on (then p q) o = either (goes_on q o) (both (nullable q) (goes_on p o))
goes_on (or p q) o = either (both (nullable q) (starts p o)) (either (goes_on p o) (goes_on q o))
goes_on (maybe p) o = either (starts p o) (goes_on p o)
goes_on (many p) o = either (starts p o) (goes_on p o)

-- at this token no two ways are open
abbrev pub lawful : Part → Option Word → Bool
lawful (token n) o = true
lawful (rule r) o = true
lawful (make a) o = true
lawful (then p q) o = both (apart (starts q o) (goes_on p o)) (both (lawful p o) (lawful q o))
lawful (or p q) o = both (solid (nullable p)) (both (apart (starts q o) (starts p o)) (both (lawful p o) (lawful q o)))
lawful (maybe p) o = both (solid (nullable p)) (lawful p o)
lawful (many p) o = both (solid (nullable p)) (both (apart (starts p o) (goes_on p o)) (lawful p o))

-- no two ways are open at any token
abbrev separate : Part → Bool
separate (token n) = true
separate (rule r) = true
separate (make a) = true
separate (then p q) = both (none_of (first q) (after p)) (both (separate p) (separate q))
separate (or p q) = both (solid (nullable p)) (both (none_of (first q) (first p)) (both (separate p) (separate q)))
separate (maybe p) = both (solid (nullable p)) (separate p)
separate (many p) = both (solid (nullable p)) (both (none_of (first p) (after p)) (separate p))

-- ---- each rule

pub rule_nullable : (r : Rule) → nullable (right r) ≡ may_be_empty r
rule_nullable (AnyOf Items) = refl
rule_nullable (AnyOf _) = refl
rule_nullable (ListOf Params) = refl
rule_nullable (ListOf _) = refl
rule_nullable (MaybeListOf Params) = refl
rule_nullable (MaybeListOf _) = refl
rule_nullable (level Ors) = refl
rule_nullable (level _) = refl
rule_nullable _ = refl

rule_first : (r : Rule) → first (right r) ≡ first_tags r
rule_first (AnyOf Items) = refl
rule_first (AnyOf _) = refl
rule_first (ListOf Params) = refl
rule_first (ListOf _) = refl
rule_first (MaybeListOf Params) = refl
rule_first (MaybeListOf _) = refl
rule_first (level Ors) = refl
rule_first (level _) = refl
rule_first _ = refl

rule_after : (r : Rule) → all_of (after (right r)) (more_tags r) ≡ true
rule_after (AnyOf Items) = refl
rule_after (AnyOf _) = refl
rule_after (ListOf Params) = refl
rule_after (ListOf _) = refl
rule_after (MaybeListOf Params) = refl
rule_after (MaybeListOf _) = refl
rule_after (level Ors) = refl
rule_after (level _) = refl
rule_after _ = refl

rule_separate : (r : Rule) → separate (right r) ≡ true
rule_separate (AnyOf Items) = refl
rule_separate (AnyOf _) = refl
rule_separate (ListOf Params) = refl
rule_separate (ListOf _) = refl
rule_separate (MaybeListOf Params) = refl
rule_separate (MaybeListOf _) = refl
rule_separate (level Ors) = refl
rule_separate (level _) = refl
rule_separate _ = refl

-- ---- how a part is met: it begins so, or it goes as it may derive nothing, or the word is wrong

data IsMet : Bool → Bool → Met → Type 0 where
  IsBegun : {e : Bool} {acts : List Action} {ps : List Part} → IsMet true e (Taken acts ps)
  IsGone : {acts : List Action} → IsMet false true (Gone acts)
  IsWrong : IsMet false false Wrong

met_begins : {b e : Bool} {m : Met} → IsMet b e m → can_begin m ≡ b
met_begins IsBegun = refl
met_begins IsGone = refl
met_begins IsWrong = refl

met_after : {c d : Bool} {n : Met} (acts : List Action) → IsMet c d n → IsMet c d (after_actions acts n)
met_after acts IsBegun = IsBegun
met_after acts IsGone = IsGone
met_after acts IsWrong = IsWrong

met_in_turn : {b e : Bool} {m : Met} (c d : Bool) (n : Met) (q : Part) → IsMet b e m → (e ≡ true → IsMet c d n) → IsMet (either b (both e c)) (both e d) (in_turn m n q)
met_in_turn c d n q IsBegun h = IsBegun
met_in_turn c d n q (IsGone {acts = acts}) h = met_after acts (h refl)
met_in_turn c d n q IsWrong h = IsWrong

met_one_of : {b e : Bool} {m : Met} {c d : Bool} {n : Met} → e ≡ false → IsMet b e m → IsMet c d n → IsMet (either b c) (either e d) (either_met m n)
met_one_of h IsBegun i = IsBegun
met_one_of h IsGone i = absurd cc
met_one_of h IsWrong i = i

met_optional : {b e : Bool} {m : Met} → IsMet b e m → IsMet b true (optional m)
met_optional IsBegun = IsBegun
met_optional IsGone = IsGone
met_optional IsWrong = IsGone

met_repeated : {b e : Bool} {m : Met} (p : Part) → IsMet b e m → IsMet b true (repeated m p)
met_repeated p IsBegun = IsBegun
met_repeated p IsGone = IsGone
met_repeated p IsWrong = IsGone

met_as : {b c e : Bool} {m n : Met} → b ≡ c → m ≡ n → IsMet c e n → IsMet b e m
met_as {b} {c} {e} {m} {n} h i k = subst (λ x. IsMet x e m) (sym h) (subst (λ x. IsMet c e x) (sym i) k)

-- ---- tokens

among_tags : (t : ℕ) (ss : List Symbol) → among t ss ≡ has t (map symbol_tag ss)
among_tags t [] = refl
among_tags t (s ∷ ss) = go (nat_eq t (symbol_tag s)) (among_tags t ss)
  where
    go : (b : Bool) → among t ss ≡ has t (map symbol_tag ss) → (b || among t ss) ≡ either b (has t (map symbol_tag ss))
    go true h = refl
    go false h = h

fits_tags : (n : Pattern) (w : Word) → fits n w ≡ has (tag w) (tags_of n)
fits_tags any_name w = sym (either-false (nat_eq (tag w) 0))
fits_tags any_number w = sym (either-false (nat_eq (tag w) 1))
fits_tags the_end w = sym (either-false (nat_eq (tag w) 2))
fits_tags (this_keyword k) w = sym (either-false (nat_eq (tag w) (keyword_tag k)))
fits_tags (this_symbol s) w = sym (either-false (nat_eq (tag w) (symbol_tag s)))
fits_tags (one_of ss) w = among_tags (tag w) ss

takes_tags : (n : Pattern) (o : Option Word) → takes n o ≡ in_tags (tags_of n) o
takes_tags n None = sym (in_none (tags_of n))
takes_tags n (Some w) = fits_tags n w ∙ sym (in_word w (tags_of n))

met_token : (o : Option Word) (n : Pattern) → IsMet (in_tags (tags_of n) o) false (meet o (token n))
met_token o n = met_as (sym (takes_tags n o)) (meet-token o n) (go (takes n o))
  where
    go : (b : Bool) → IsMet b false (cond b (Taken [] []) Wrong)
    go true = IsBegun
    go false = IsWrong

-- ---- parts, as the rules that they begin with are met

behind : (p : Part) (b : Bool) → either (takes_word p) b ≡ true → nullable p ≡ true → b ≡ true
behind (token n) b h e = absurd cc
behind _ b h e = h

module _ (test : Rule → Bool) (o : Option Word) (h : (r : Rule) → test r ≡ true → IsMet (in_tags (first_tags r) o) (may_be_empty r) (meet o (rule r))) where
  met_part : (p : Part) → leads test p ≡ true → separate p ≡ true → IsMet (in_tags (first p) o) (nullable p) (meet o p)
  met_part (token n) l s = met_token o n
  met_part (rule r) l s = h r l
  met_part (make a) l s = met_as refl (meet-make o a) IsGone
  met_part (then p q) l s =
      let a = both_parts (leads test p) (either (takes_word p) (leads test q)) l in
      let b = both_parts (separate p) (separate q) (both_parts (none_of (first q) (after p)) (both (separate p) (separate q)) s).1 in
      met_as
      (in_append o (first p) (cond (nullable p) (first q) []) ∙ ap (λ x. either (in_tags (first p) o) x) (in_cond o (nullable p) (first q)))
      (meet-then o p q)
      (met_in_turn (in_tags (first q) o) (nullable q) (meet o q) q (met_part p a.0 b.0) (λ e. met_part q (behind p (leads test q) a.1 e) b.1))
  met_part (or p q) l s =
      let a = both_parts (leads test p) (leads test q) l in
      let b = both_parts (solid (nullable p)) (both (none_of (first q) (first p)) (both (separate p) (separate q))) s in
      let c = both_parts (separate p) (separate q) (both_parts (none_of (first q) (first p)) (both (separate p) (separate q)) b.1).1 in
      met_as (in_append o (first p) (first q)) (meet-or o p q) (met_one_of (is_solid (nullable p) b.0) (met_part p a.0 c.0) (met_part q a.1 c.1))
  met_part (maybe p) l s =
      let a = both_parts (solid (nullable p)) (separate p) s in
      met_as refl (meet-maybe o p) (met_optional (met_part p l a.1))
  met_part (many p) l s =
      let a = both_parts (solid (nullable p)) (both (none_of (first p) (after p)) (separate p)) s in
      met_as refl (meet-many o p) (met_repeated p (met_part p l (both_parts (none_of (first p) (after p)) (separate p) a.1).1))

met_lower : (o : Option Word) (n : ℕ) (r : Rule) → height r < n → IsMet (in_tags (first_tags r) o) (may_be_empty r) (meet o (rule r))
met_lower o zero r h = absurd (omega arith)
met_lower o (suc n) r h =
    let d : IsMet (in_tags (first (right r)) o) (nullable (right r)) (meet o (right r)) = met_part (is_below r) o (λ s e. let c = ltb-true (height s) (height r) e in met_lower o n s (omega arith)) (right r) (right_leads r) (rule_separate r) in
    let e : IsMet (in_tags (first (right r)) o) (may_be_empty r) (meet o (right r)) = subst (λ x. IsMet (in_tags (first (right r)) o) x (meet o (right r))) (rule_nullable r) d in
    met_as (ap (λ x. in_tags x o) (sym (rule_first r))) (meet-rule o r) e

met_rule : (o : Option Word) (r : Rule) → IsMet (in_tags (first_tags r) o) (may_be_empty r) (meet o (rule r))
met_rule o r = met_lower o (suc (height r)) r (omega arith)

-- a rule that derives something begins with its tokens, before any other part
pub begins_rule : (r : Rule) (q : Part) (o : Option Word) → may_be_empty r ≡ false → starts (then (rule r) q) o ≡ in_tags (first_tags r) o
begins_rule r q o h = ap can_begin (meet-then o (rule r) q) ∙ go h (met_rule o r)
  where
    go : {b e : Bool} {m : Met} → e ≡ false → IsMet b e m → can_begin (in_turn m (meet o q) q) ≡ b
    go i IsBegun = refl
    go i IsGone = absurd cc
    go i IsWrong = refl

pub begins_alone : (r : Rule) (o : Option Word) → starts (rule r) o ≡ in_tags (first_tags r) o
begins_alone r o = met_begins (met_rule o r)

-- ---- the law

any_leads : (p : Part) → leads (λ r. true) p ≡ true
any_leads (token n) = refl
any_leads (rule r) = refl
any_leads (make a) = refl
any_leads (then p q) = both_true (leads (λ r. true) p) (either (takes_word p) (leads (λ r. true) q)) (any_leads p) (right_true (takes_word p) (leads (λ r. true) q) (any_leads q))
any_leads (or p q) = both_true (leads (λ r. true) p) (leads (λ r. true) q) (any_leads p) (any_leads q)
any_leads (maybe p) = any_leads p
any_leads (many p) = any_leads p

starts_first : (o : Option Word) (p : Part) → separate p ≡ true → starts p o ≡ in_tags (first p) o
starts_first o p s = met_begins (met_part (λ r. true) o (λ r e. met_rule o r) p (any_leads p) s)

goes_after : (o : Option Word) (p : Part) → separate p ≡ true → goes_on p o ≡ in_tags (after p) o
goes_after o (token n) s = refl
goes_after o (rule r) s = refl
goes_after o (make a) s = refl
goes_after o (then p q) s =
    let b = both_parts (separate p) (separate q) (both_parts (none_of (first q) (after p)) (both (separate p) (separate q)) s).1 in
    ap₂ (λ x y. either x (both (nullable q) y)) (goes_after o q b.1) (goes_after o p b.0)
    ∙ sym (in_append o (after q) (cond (nullable q) (after p) []) ∙ ap (λ x. either (in_tags (after q) o) x) (in_cond o (nullable q) (after p)))
goes_after o (or p q) s =
    let b = (both_parts (solid (nullable p)) (both (none_of (first q) (first p)) (both (separate p) (separate q))) s).1 in
    let c = both_parts (separate p) (separate q) (both_parts (none_of (first q) (first p)) (both (separate p) (separate q)) b).1 in
    ap₂ (λ x y. either (both (nullable q) x) y) (starts_first o p c.0) (ap₂ either (goes_after o p c.0) (goes_after o q c.1))
    ∙ sym (in_append o (cond (nullable q) (first p) []) (after p ++ after q) ∙ ap₂ either (in_cond o (nullable q) (first p)) (in_append o (after p) (after q)))
goes_after o (maybe p) s =
    let b = (both_parts (solid (nullable p)) (separate p) s).1 in
    ap₂ either (starts_first o p b) (goes_after o p b) ∙ sym (in_append o (first p) (after p))
goes_after o (many p) s =
    let b = (both_parts (solid (nullable p)) (both (none_of (first p) (after p)) (separate p)) s).1 in
    let c = (both_parts (none_of (first p) (after p)) (separate p) b).1 in
    ap₂ either (starts_first o p c) (goes_after o p c) ∙ sym (in_append o (first p) (after p))

lawful_part : (o : Option Word) (p : Part) → separate p ≡ true → lawful p o ≡ true
lawful_part o (token n) s = refl
lawful_part o (rule r) s = refl
lawful_part o (make a) s = refl
lawful_part o (then p q) s =
    let a = both_parts (none_of (first q) (after p)) (both (separate p) (separate q)) s in
    let b = both_parts (separate p) (separate q) a.1 in
    both_true (apart (starts q o) (goes_on p o)) (both (lawful p o) (lawful q o))
    (ap₂ apart (starts_first o q b.1) (goes_after o p b.0) ∙ apart_sets o (first q) (after p) a.0)
    (both_true (lawful p o) (lawful q o) (lawful_part o p b.0) (lawful_part o q b.1))
lawful_part o (or p q) s =
    let a = both_parts (solid (nullable p)) (both (none_of (first q) (first p)) (both (separate p) (separate q))) s in
    let b = both_parts (none_of (first q) (first p)) (both (separate p) (separate q)) a.1 in
    let c = both_parts (separate p) (separate q) b.1 in
    both_true (solid (nullable p)) (both (apart (starts q o) (starts p o)) (both (lawful p o) (lawful q o))) a.0
    (both_true (apart (starts q o) (starts p o)) (both (lawful p o) (lawful q o))
    (ap₂ apart (starts_first o q c.1) (starts_first o p c.0) ∙ apart_sets o (first q) (first p) b.0)
    (both_true (lawful p o) (lawful q o) (lawful_part o p c.0) (lawful_part o q c.1)))
lawful_part o (maybe p) s =
    let a = both_parts (solid (nullable p)) (separate p) s in
    both_true (solid (nullable p)) (lawful p o) a.0 (lawful_part o p a.1)
lawful_part o (many p) s =
    let a = both_parts (solid (nullable p)) (both (none_of (first p) (after p)) (separate p)) s in
    let b = both_parts (none_of (first p) (after p)) (separate p) a.1 in
    both_true (solid (nullable p)) (both (apart (starts p o) (goes_on p o)) (lawful p o)) a.0
    (both_true (apart (starts p o) (goes_on p o)) (lawful p o)
    (ap₂ apart (starts_first o p b.1) (goes_after o p b.1) ∙ apart_sets o (first p) (after p) b.0)
    (lawful_part o p b.1))

pub rule_lawful : (r : Rule) (o : Option Word) → lawful (right r) o ≡ true
rule_lawful r o = lawful_part o (right r) (rule_separate r)

pub rule_more : (r : Rule) (o : Option Word) → more r o ≡ false → goes_on (right r) o ≡ false
rule_more r o h = goes_after o (right r) (rule_separate r) ∙ within_sets o (after (right r)) (more_tags r) (rule_after r) h
