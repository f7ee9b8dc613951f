-- What the grammar derives, the machine takes.
use Rattle.std.proofs.Common.{◌≡◌, Bool, true, false, cond, Option, Some, None, List, [], ◌∷◌, ◌++◌, refl, sym, ap, subst, ◌∙◌, append_assoc, inl, inr, ◌⊎◌}
use Rattle.pr_lang.specs.Word.{Word}
use Rattle.pr_lang.specs.Word.{fits}
use Rattle.pr_lang.specs.Grammar.{Rule, Action, Part, Begin, NoWidth, NoIndex, AnyOf, MaybeListOf, TheWidth, TheIndex, token, rule, make, then, or, maybe, many}
use Rattle.pr_lang.specs.Machine.{Met, meet, Taken, Gone, Wrong, can_begin, optional, repeated, next, begins}
use Rattle.pr_lang.specs.Tree.{Tree}
use Rattle.pr_parse.specs.Run.{run}
use Rattle.pr_parse.specs.Derive.{Derives, IsToken, IsRule, IsMade, IsThen, IsFirst, IsSecond, IsAbsent, IsThere, IsLast, IsRepeated}
use Rattle.pr_parse.proofs.Tests.{either, both, apart, solid, both_parts, neither, left_true, right_true, both_true, first_false, is_apart, not_empty}
use Rattle.pr_parse.proofs.Meets.{meet-rule, meet-token, meet-make, meet-then, meet-or, meet-maybe, meet-many, in_turn, one_of}
use Rattle.pr_parse.proofs.Laws.{run-rule, run-make, run-then, run-token, run-maybe, run-many, run-or}
use Rattle.pr_parse.proofs.Look.{starts, nullable, may_be_empty, goes_on, lawful, rule_nullable, rule_lawful, rule_more}

-- the parts of the law at each part
then_laws : (p q : Part) (o : Option Word) → lawful (then p q) o ≡ true → (apart (starts q o) (goes_on p o) ≡ true) × (lawful p o ≡ true) × (lawful q o ≡ true)
then_laws p q o w =
    let a = both_parts (apart (starts q o) (goes_on p o)) (both (lawful p o) (lawful q o)) w in
    let b = both_parts (lawful p o) (lawful q o) a.1 in
    (a.0, b.0, b.1)

or_laws : (p q : Part) (o : Option Word) → lawful (or p q) o ≡ true → (solid (nullable p) ≡ true) × (apart (starts q o) (starts p o) ≡ true) × (lawful p o ≡ true) × (lawful q o ≡ true)
or_laws p q o w =
    let a = both_parts (solid (nullable p)) (both (apart (starts q o) (starts p o)) (both (lawful p o) (lawful q o))) w in
    let b = both_parts (apart (starts q o) (starts p o)) (both (lawful p o) (lawful q o)) a.1 in
    let c = both_parts (lawful p o) (lawful q o) b.1 in
    (a.0, b.0, c.0, c.1)

maybe_laws : (p : Part) (o : Option Word) → lawful (maybe p) o ≡ true → (solid (nullable p) ≡ true) × (lawful p o ≡ true)
maybe_laws p o w = both_parts (solid (nullable p)) (lawful p o) w

many_laws : (p : Part) (o : Option Word) → lawful (many p) o ≡ true → (solid (nullable p) ≡ true) × (apart (starts p o) (goes_on p o) ≡ true) × (lawful p o ≡ true)
many_laws p o w =
    let a = both_parts (solid (nullable p)) (both (apart (starts p o) (goes_on p o)) (lawful p o)) w in
    let b = both_parts (apart (starts p o) (goes_on p o)) (lawful p o) a.1 in
    (a.0, b.0, b.1)

-- ---- what derives nothing, and what derives a token first

length_zero : (ks ls : List Word) → ks ++ ls ≡ [] → (ks ≡ []) × (ls ≡ [])
length_zero [] ls h = (refl, h)
length_zero (k ∷ ks) ls h = absurd cc

pub is_nullable : (p : Part) (ks : List Word) (ts us : List Tree) → Derives p ks ts us → ks ≡ [] → nullable p ≡ true
is_nullable _ _ _ _ (IsToken h) e = absurd cc
is_nullable _ _ _ _ (IsRule {r = r} d) e = sym (rule_nullable r) ∙ is_nullable _ _ _ _ d e
is_nullable _ _ _ _ IsMade e = refl
is_nullable _ _ _ _ (IsThen {p = p} {q = q} {ks = ks} {ls = ls} d f) e = let z = length_zero ks ls e in both_true _ _ (is_nullable _ _ _ _ d z.0) (is_nullable _ _ _ _ f z.1)
is_nullable _ _ _ _ (IsFirst d) e = left_true _ _ (is_nullable _ _ _ _ d e)
is_nullable _ _ _ _ (IsSecond d) e = right_true _ _ (is_nullable _ _ _ _ d e)
is_nullable _ _ _ _ IsAbsent e = refl
is_nullable _ _ _ _ (IsThere d) e = refl
is_nullable _ _ _ _ IsLast e = refl
is_nullable _ _ _ _ (IsRepeated d f) e = refl

-- a part that may derive nothing goes where it cannot begin
starts_then : (m n : Met) (q : Part) → can_begin m ≡ true → can_begin (in_turn m n q) ≡ true
starts_then (Taken acts ps) n q h = refl
starts_then (Gone acts) n q h = absurd cc
starts_then Wrong n q h = absurd cc

starts_after : (acts : List Action) (n : Met) (q : Part) → can_begin n ≡ true → can_begin (in_turn (Gone acts) n q) ≡ true
starts_after acts (Taken bs ps) q h = refl
starts_after acts (Gone bs) q h = absurd cc
starts_after acts Wrong q h = absurd cc

starts_one : (m n : Met) → can_begin m ≡ true → can_begin (one_of m n) ≡ true
starts_one (Taken acts ps) n h = refl
starts_one (Gone acts) n h = absurd cc
starts_one Wrong n h = absurd cc

starts_other : (m n : Met) → can_begin n ≡ true → can_begin (one_of m n) ≡ true
starts_other (Taken acts ps) n h = refl
starts_other (Gone acts) n h = h
starts_other Wrong n h = h

starts_optional : (m : Met) → can_begin m ≡ true → can_begin (optional m) ≡ true
starts_optional (Taken acts ps) h = refl
starts_optional (Gone acts) h = absurd cc
starts_optional Wrong h = absurd cc

starts_repeated : (m : Met) (p : Part) → can_begin m ≡ true → can_begin (repeated m p) ≡ true
starts_repeated (Taken acts ps) p h = refl
starts_repeated (Gone acts) p h = absurd cc
starts_repeated Wrong p h = absurd cc

abbrev IsGone : Met → Type 0
IsGone m = (acts : List Action) × (m ≡ Gone acts)

gone_then : (m n : Met) (q : Part) → (can_begin m ≡ false → IsGone m) → (can_begin n ≡ false → IsGone n) → can_begin (in_turn m n q) ≡ false → IsGone (in_turn m n q)
gone_then (Taken acts ps) n q hm hn h = absurd cc
gone_then (Gone acts) (Taken bs ps) q hm hn h = absurd cc
gone_then (Gone acts) (Gone bs) q hm hn h = (acts ++ bs, refl)
gone_then (Gone acts) Wrong q hm hn h = absurd (let e = (hn refl).1 in cc)
gone_then Wrong n q hm hn h = absurd (let e = (hm refl).1 in cc)

gone_or : (m n : Met) → (can_begin n ≡ false → IsGone n) → can_begin (one_of m n) ≡ false → IsGone (one_of m n)
gone_or (Taken acts ps) n hn h = absurd cc
gone_or (Gone acts) n hn h = hn h
gone_or Wrong n hn h = hn h

gone_optional : (m : Met) → can_begin (optional m) ≡ false → IsGone (optional m)
gone_optional (Taken acts ps) h = absurd cc
gone_optional (Gone acts) h = ([], refl)
gone_optional Wrong h = ([], refl)

gone_repeated : (m : Met) (p : Part) → can_begin (repeated m p) ≡ false → IsGone (repeated m p)
gone_repeated (Taken acts ps) p h = absurd cc
gone_repeated (Gone acts) p h = ([], refl)
gone_repeated Wrong p h = ([], refl)

along : (m n : Met) → n ≡ m → (can_begin m ≡ false → IsGone m) → can_begin n ≡ false → IsGone n
along m n e h = let P : Met → Type 0 = λ x. can_begin x ≡ false → IsGone x in subst P (sym e) h

only_second : (a b : Bool) → solid a ≡ true → either a b ≡ true → b ≡ true
only_second true b h i = absurd cc
only_second false b h i = i

goes_many : (a : Action) (p : Part) (o : Option Word) → starts (then (make a) (many p)) o ≡ false → IsGone (meet o (then (make a) (many p)))
goes_many a p o s = along _ _ (meet-then o (make a) (many p)) (gone_then (meet o (make a)) (meet o (many p)) (many p) (λ _. (a ∷ [], meet-make o a)) (along _ _ (meet-many o p) (gone_repeated (meet o p) p))) s

goes_maybe : (a : Action) (p : Part) (o : Option Word) → starts (then (make a) (maybe p)) o ≡ false → IsGone (meet o (then (make a) (maybe p)))
goes_maybe a p o s = along _ _ (meet-then o (make a) (maybe p)) (gone_then (meet o (make a)) (meet o (maybe p)) (maybe p) (λ _. (a ∷ [], meet-make o a)) (along _ _ (meet-maybe o p) (gone_optional (meet o p)))) s

-- the rules that may derive nothing
goes_rule : (r : Rule) (o : Option Word) → may_be_empty r ≡ true → starts (rule r) o ≡ false → IsGone (meet o (rule r))
goes_rule (AnyOf b) o h s = along _ _ (meet-rule o (AnyOf b)) (goes_many Begin _ o) s
goes_rule (MaybeListOf c) o h s = along _ _ (meet-rule o (MaybeListOf c)) (goes_maybe Begin _ o) s
goes_rule TheWidth o h s = along _ _ (meet-rule o TheWidth) (goes_maybe NoWidth _ o) s
goes_rule TheIndex o h s = along _ _ (meet-rule o TheIndex) (goes_maybe NoIndex _ o) s
goes_rule _ o h s = absurd cc

goes : (p : Part) (o : Option Word) → lawful p o ≡ true → nullable p ≡ true → starts p o ≡ false → IsGone (meet o p)
goes (token n) o l h s = absurd cc
goes (rule r) o l h s = goes_rule r o h s
goes (make a) o l h s = (a ∷ [], meet-make o a)
goes (then p q) o l h s =
    let l1 = then_laws p q o l in
    let h1 = both_parts (nullable p) (nullable q) h in
    along _ _ (meet-then o p q) (gone_then (meet o p) (meet o q) q (goes p o l1.1 h1.0) (goes q o l1.2 h1.1)) s
goes (or p q) o l h s =
    let l1 = or_laws p q o l in
    along _ _ (meet-or o p q) (gone_or (meet o p) (meet o q) (goes q o l1.3 (only_second (nullable p) (nullable q) l1.0 h))) s
goes (maybe p) o l h s = along _ _ (meet-maybe o p) (gone_optional (meet o p)) s
goes (many p) o l h s = along _ _ (meet-many o p) (gone_repeated (meet o p) p) s

starts_by : (m n : Met) → n ≡ m → can_begin m ≡ true → can_begin n ≡ true
starts_by m n e h = ap can_begin e ∙ h

-- the first part derives nothing, and the second begins so
starts_second : (m n : Met) (q : Part) → (can_begin m ≡ false → IsGone m) → can_begin n ≡ true → can_begin (in_turn m n q) ≡ true
starts_second (Taken acts ps) n q hm h = refl
starts_second (Gone acts) n q hm h = starts_after acts n q h
starts_second Wrong n q hm h = absurd (let e = (hm refl).1 in cc)

split_first : (ks ls : List Word) (k : Word) (rest : List Word) → ks ++ ls ≡ k ∷ rest → ((ks ≡ []) × (ls ≡ k ∷ rest)) ⊎ ((more : List Word) × (ks ≡ k ∷ more))
split_first [] ls k rest e = inl (refl, e)
split_first (x ∷ ks) ls k rest e = inr (ks, let same : x ≡ k = cc in ap (λ (y : Word). y ∷ ks) same)

-- what derives a token first can begin with it
pub can_start : (p : Part) (l : List Word) (ts us : List Tree) → Derives p l ts us → (k : Word) (rest : List Word) → l ≡ k ∷ rest → lawful p (Some k) ≡ true → starts p (Some k) ≡ true
can_start _ _ _ _ (IsToken {p = n} {k = x} h) k rest e w =
    let same : x ≡ k = cc in
    starts_by _ _ (meet-token (Some k) n) (ap (λ b. can_begin (cond b (Taken [] []) Wrong)) (ap (λ w. fits n w) (sym same) ∙ h))
can_start _ _ _ _ (IsRule {r = r} d) k rest e w = starts_by _ _ (meet-rule (Some k) r) (can_start _ _ _ _ d k rest e (rule_lawful r (Some k)))
can_start _ _ _ _ IsMade k rest e w = absurd cc
can_start _ _ _ _ (IsThen {p = p} {q = q} {ks = ks} {ls = ls} d f) k rest e w =
    let w1 = then_laws p q (Some k) w in
    starts_by _ _ (meet-then (Some k) p q) (elim (split_first ks ls k rest e) [
      | inl z ↦ starts_second (meet (Some k) p) (meet (Some k) q) q (goes p (Some k) w1.1 (is_nullable _ _ _ _ d z.0)) (can_start _ _ _ _ f k rest z.1 w1.2)
      | inr z ↦ starts_then (meet (Some k) p) (meet (Some k) q) q (can_start _ _ _ _ d k z.0 z.1 w1.1)
    ])
can_start _ _ _ _ (IsFirst {p = p} {q = q} d) k rest e w =
    let w1 = or_laws p q (Some k) w in
    starts_by _ _ (meet-or (Some k) p q) (starts_one _ _ (can_start _ _ _ _ d k rest e w1.2))
can_start _ _ _ _ (IsSecond {p = p} {q = q} d) k rest e w =
    let w1 = or_laws p q (Some k) w in
    starts_by _ _ (meet-or (Some k) p q) (starts_other _ _ (can_start _ _ _ _ d k rest e w1.3))
can_start _ _ _ _ IsAbsent k rest e w = absurd cc
can_start _ _ _ _ (IsThere {p = p} d) k rest e w =
    starts_by _ _ (meet-maybe (Some k) p) (starts_optional _ (can_start _ _ _ _ d k rest e (maybe_laws p (Some k) w).1))
can_start _ _ _ _ IsLast k rest e w = absurd cc
can_start _ _ _ _ (IsRepeated {p = p} {ks = ks} {ls = ls} d f) k rest e w =
    let w1 = many_laws p (Some k) w in
    elim (split_first ks ls k rest e) [
      | inl z ↦ absurd (not_empty (nullable p) w1.0 (is_nullable _ _ _ _ d z.0))
      | inr z ↦ starts_by _ _ (meet-many (Some k) p) (starts_repeated _ p (can_start _ _ _ _ d k z.0 z.1 w1.2))
    ]

-- ---- runs

-- a part that is no empty one can begin where it derives
module _ {p : Part} {ks : List Word} {ts us : List Tree} (d : Derives p ks ts us) (w : (o : Option Word) → lawful p o ≡ true) where
  begins_there : (ls : List Word) → solid (nullable p) ≡ true → begins p (ks ++ ls) ≡ true
  begins_there ls s = go ks refl
    where
      go : (l : List Word) → ks ≡ l → begins p (l ++ ls) ≡ true
      go [] e = absurd (not_empty (nullable p) s (is_nullable _ _ _ _ d e))
      go (k ∷ l) e = can_start _ _ _ _ d k l e (w (Some k))

  -- what follows the first part is apart from it
  follows : (b : Option Word → Bool) (ls : List Word) → ((k : Word) → starts p (Some k) ≡ true → b (Some k) ≡ false) → (nullable p ≡ true → b (next ls) ≡ false) → b (next (ks ++ ls)) ≡ false
  follows b ls h g = go ks refl
    where
      go : (l : List Word) → ks ≡ l → b (next (l ++ ls)) ≡ false
      go [] e = g (is_nullable _ _ _ _ d e)
      go (k ∷ l) e = h k (can_start _ _ _ _ d k l e (w (Some k)))

abbrev Lawful : Part → Type 0
Lawful p = (o : Option Word) → lawful p o ≡ true

again_starts : (m : Met) (p : Part) → can_begin (repeated m p) ≡ true → can_begin m ≡ true
again_starts (Taken acts ps) p h = refl
again_starts (Gone acts) p h = absurd cc
again_starts Wrong p h = absurd cc

pub completes : (p : Part) (ks : List Word) (ts us : List Tree) → Derives p ks ts us → Lawful p → (ls : List Word) → goes_on p (next ls) ≡ false → (ps : List Part) → run (ks ++ ls) (p ∷ ps) ts ≡ run ls ps us
completes _ _ _ _ (IsToken {p = n} {k = k} {ts = ts} h) w ls g ps = run-token ls n ps ts k h
completes _ _ _ _ (IsRule {r = r} {ks = ks} {ts = ts} d) w ls g ps = run-rule (ks ++ ls) r ps ts ∙ completes _ _ _ _ d (rule_lawful r) ls (rule_more r (next ls) g) ps
completes _ _ _ _ (IsMade {a = a} {ts = ts}) w ls g ps = run-make ls a ps ts
completes _ _ _ _ (IsThen {p = p} {q = q} {ks = k1} {ls = k2} {ts = ts} {us = us} d f) w ls g ps =
    let wp : Lawful p = λ o. (then_laws p q o (w o)).1 in
    let wq : Lawful q = λ o. (then_laws p q o (w o)).2 in
    let g2 = neither (goes_on q (next ls)) (both (nullable q) (goes_on p (next ls))) g in
    let gp : goes_on p (next (k2 ++ ls)) ≡ false = follows f wq (goes_on p) ls (λ k s. is_apart (starts q (Some k)) (goes_on p (Some k)) (then_laws p q (Some k) (w (Some k))).0 s) (λ n. first_false (nullable q) (goes_on p (next ls)) g2.1 n) in
    run-then ((k1 ++ k2) ++ ls) p q ps ts
    ∙ ap (λ l. run l (p ∷ q ∷ ps) ts) (append_assoc k1 k2 ls)
    ∙ completes _ _ _ _ d wp (k2 ++ ls) gp (q ∷ ps)
    ∙ completes _ _ _ _ f wq ls g2.0 ps
completes _ _ _ _ (IsFirst {p = p} {q = q} {ks = ks} {ts = ts} d) w ls g ps =
    let wp : Lawful p = λ o. (or_laws p q o (w o)).2 in
    let g2 = neither (both (nullable q) (starts p (next ls))) (either (goes_on p (next ls)) (goes_on q (next ls))) g in
    run-or (ks ++ ls) p q ps ts
    ∙ ap (λ b. cond b (run (ks ++ ls) (p ∷ ps) ts) (run (ks ++ ls) (q ∷ ps) ts)) (begins_there d wp ls (or_laws p q None (w None)).0)
    ∙ completes _ _ _ _ d wp ls (neither (goes_on p (next ls)) (goes_on q (next ls)) g2.1).0 ps
completes _ _ _ _ (IsSecond {p = p} {q = q} {ks = ks} {ts = ts} d) w ls g ps =
    let wq : Lawful q = λ o. (or_laws p q o (w o)).3 in
    let g2 = neither (both (nullable q) (starts p (next ls))) (either (goes_on p (next ls)) (goes_on q (next ls))) g in
    let not_p : begins p (ks ++ ls) ≡ false = follows d wq (starts p) ls (λ k s. is_apart (starts q (Some k)) (starts p (Some k)) (or_laws p q (Some k) (w (Some k))).1 s) (λ n. first_false (nullable q) (starts p (next ls)) g2.0 n) in
    run-or (ks ++ ls) p q ps ts
    ∙ ap (λ b. cond b (run (ks ++ ls) (p ∷ ps) ts) (run (ks ++ ls) (q ∷ ps) ts)) not_p
    ∙ completes _ _ _ _ d wq ls (neither (goes_on p (next ls)) (goes_on q (next ls)) g2.1).1 ps
completes _ _ _ _ (IsAbsent {p = p} {ts = ts}) w ls g ps =
    run-maybe ls p ps ts ∙ ap (λ b. cond b (run ls (p ∷ ps) ts) (run ls ps ts)) (neither (starts p (next ls)) (goes_on p (next ls)) g).0
completes _ _ _ _ (IsThere {p = p} {ks = ks} {ts = ts} d) w ls g ps =
    let wp : Lawful p = λ o. (maybe_laws p o (w o)).1 in
    run-maybe (ks ++ ls) p ps ts
    ∙ ap (λ b. cond b (run (ks ++ ls) (p ∷ ps) ts) (run (ks ++ ls) ps ts)) (begins_there d wp ls (maybe_laws p None (w None)).0)
    ∙ completes _ _ _ _ d wp ls (neither (starts p (next ls)) (goes_on p (next ls)) g).1 ps
completes _ _ _ _ (IsLast {p = p} {ts = ts}) w ls g ps =
    run-many ls p ps ts ∙ ap (λ b. cond b (run ls (p ∷ many p ∷ ps) ts) (run ls ps ts)) (neither (starts p (next ls)) (goes_on p (next ls)) g).0
completes _ _ _ _ (IsRepeated {p = p} {ks = k1} {ls = k2} {ts = ts} d f) w ls g ps =
    let wp : Lawful p = λ o. (many_laws p o (w o)).2 in
    let g2 = neither (starts p (next ls)) (goes_on p (next ls)) g in
    let begins_many : (k : Word) → starts (many p) (Some k) ≡ true → starts p (Some k) ≡ true = λ k s. again_starts (meet (Some k) p) p (sym (ap can_begin (meet-many (Some k) p)) ∙ s) in
    let gp : goes_on p (next (k2 ++ ls)) ≡ false = follows f w (goes_on p) ls (λ k s. is_apart (starts p (Some k)) (goes_on p (Some k)) (many_laws p (Some k) (w (Some k))).1 (begins_many k s)) (λ n. g2.1) in
    ap (λ l. run l (many p ∷ ps) ts) (append_assoc k1 k2 ls)
    ∙ run-many (k1 ++ (k2 ++ ls)) p ps ts
    ∙ ap (λ b. cond b (run (k1 ++ (k2 ++ ls)) (p ∷ many p ∷ ps) ts) (run (k1 ++ (k2 ++ ls)) ps ts)) (begins_there d wp (k2 ++ ls) (many_laws p None (w None)).0)
    ∙ completes _ _ _ _ d wp (k2 ++ ls) gp (many p ∷ ps)
    ∙ completes _ _ _ _ f w ls g ps
