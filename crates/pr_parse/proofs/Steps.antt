-- How far the machine has come with a part: what is still expected of it, and the trees read for it.
use Rattle.std.proofs.Common.{◌≡◌, ℕ, Bool, true, false, cond, Option, Some, List, [], ◌∷◌, ◌++◌, length, Result, Ok, Err, IfErr, refl, sym, ap, subst, ◌∙◌, arith, append_assoc}
use Rattle.pr_lang.specs.declared.tokens.Token.{Token}
use Rattle.pr_lang.specs.declared.tokens.Symbol.{Symbol}
use Rattle.pr_lang.specs.Word.{Word, words, symbol, symbol_tag, among, Pattern, one_of, fits, takes}
use Rattle.pr_lang.specs.Grammar.{Rule, Action, Part, right, token, rule, make, then, or, maybe, many, MakeBinary, Listed, ListOf, MaybeListOf, element, first_and_more, ◌⨟◌}
use Rattle.pr_lang.specs.Machine.{next, begins, can_begin, meet, Taken, Gone, Wrong, after_actions}
use Rattle.pr_lang.specs.Tree.{Tree}
use Rattle.pr_lang.specs.Tree as tree
use Rattle.pr_parse.specs.declared.fault.Fault.{Fault}
use Rattle.pr_parse.specs.declared.fault.Fault.TheVariants as fault
use Rattle.pr_parse.specs.Run.{run, act, Outcome, WrongAt}
use Rattle.pr_parse.specs.Reads.{Sofar, IsRead, IsFront, Fails, FrontFails, IsTaken, IsNotTaken, IsOperator, IsTest}
use Rattle.pr_parse.proofs.Laws.{run-rule, run-make, run-then, run-token, run-not_token, run-maybe, run-many, run-or}

module _ {p : Part} {text : List ℕ} {ks : List Token} where
  pub begun : Sofar p text ks ks (p ∷ []) []
  begun = record { runs = λ ps ts. refl; within = omega arith }

module _ {p : Part} {text : List ℕ} {ks rest : List Token} {qs : List Part} {us : List Tree} where
  pub open_rule : {r : Rule} → Sofar p text ks rest (rule r ∷ qs) us → Sofar p text ks rest (right r ∷ qs) us
  open_rule {r} s = record { runs = λ ps ts. s.runs ps ts ∙ run-rule (words text rest) r (qs ++ ps) (us ++ ts); within = s.within }

  pub open_then : {a b : Part} → Sofar p text ks rest (then a b ∷ qs) us → Sofar p text ks rest (a ∷ b ∷ qs) us
  open_then {a} {b} s = record { runs = λ ps ts. s.runs ps ts ∙ run-then (words text rest) a b (qs ++ ps) (us ++ ts); within = s.within }

  pub first : {a b : Part} → begins a (words text rest) ≡ true → Sofar p text ks rest (or a b ∷ qs) us → Sofar p text ks rest (a ∷ qs) us
  first {a} {b} h s = record { runs = λ ps ts. s.runs ps ts ∙ run-or (words text rest) a b (qs ++ ps) (us ++ ts) ∙ ap (λ x. cond x (run (words text rest) (a ∷ (qs ++ ps)) (us ++ ts)) (run (words text rest) (b ∷ (qs ++ ps)) (us ++ ts))) h; within = s.within }

  pub second : {a b : Part} → begins a (words text rest) ≡ false → Sofar p text ks rest (or a b ∷ qs) us → Sofar p text ks rest (b ∷ qs) us
  second {a} {b} h s = record { runs = λ ps ts. s.runs ps ts ∙ run-or (words text rest) a b (qs ++ ps) (us ++ ts) ∙ ap (λ x. cond x (run (words text rest) (a ∷ (qs ++ ps)) (us ++ ts)) (run (words text rest) (b ∷ (qs ++ ps)) (us ++ ts))) h; within = s.within }

  pub there : {a : Part} → begins a (words text rest) ≡ true → Sofar p text ks rest (maybe a ∷ qs) us → Sofar p text ks rest (a ∷ qs) us
  there {a} h s = record { runs = λ ps ts. s.runs ps ts ∙ run-maybe (words text rest) a (qs ++ ps) (us ++ ts) ∙ ap (λ x. cond x (run (words text rest) (a ∷ (qs ++ ps)) (us ++ ts)) (run (words text rest) (qs ++ ps) (us ++ ts))) h; within = s.within }

  pub absent : {a : Part} → begins a (words text rest) ≡ false → Sofar p text ks rest (maybe a ∷ qs) us → Sofar p text ks rest qs us
  absent {a} h s = record { runs = λ ps ts. s.runs ps ts ∙ run-maybe (words text rest) a (qs ++ ps) (us ++ ts) ∙ ap (λ x. cond x (run (words text rest) (a ∷ (qs ++ ps)) (us ++ ts)) (run (words text rest) (qs ++ ps) (us ++ ts))) h; within = s.within }

  pub again : {a : Part} → begins a (words text rest) ≡ true → Sofar p text ks rest (many a ∷ qs) us → Sofar p text ks rest (a ∷ many a ∷ qs) us
  again {a} h s = record { runs = λ ps ts. s.runs ps ts ∙ run-many (words text rest) a (qs ++ ps) (us ++ ts) ∙ ap (λ x. cond x (run (words text rest) (a ∷ many a ∷ (qs ++ ps)) (us ++ ts)) (run (words text rest) (qs ++ ps) (us ++ ts))) h; within = s.within }

  pub no_more : {a : Part} → begins a (words text rest) ≡ false → Sofar p text ks rest (many a ∷ qs) us → Sofar p text ks rest qs us
  no_more {a} h s = record { runs = λ ps ts. s.runs ps ts ∙ run-many (words text rest) a (qs ++ ps) (us ++ ts) ∙ ap (λ x. cond x (run (words text rest) (a ∷ many a ∷ (qs ++ ps)) (us ++ ts)) (run (words text rest) (qs ++ ps) (us ++ ts))) h; within = s.within }

  pub made : {a : Action} (vs : List Tree) → ((ts : List Tree) → act a (us ++ ts) ≡ vs ++ ts) → Sofar p text ks rest (make a ∷ qs) us → Sofar p text ks rest qs vs
  made {a} vs h s = record { runs = λ ps ts. s.runs ps ts ∙ run-make (words text rest) a (qs ++ ps) (us ++ ts) ∙ ap (λ x. run (words text rest) (qs ++ ps) x) (h ts); within = s.within }

  pub took : {n : Pattern} {after : List Token} {w : Word} → IsTaken w text rest after → fits n w ≡ true → Sofar p text ks rest (token n ∷ qs) us → Sofar p text ks after qs (tree.word w ∷ us)
  took {n} {after} {w} t e s = record { runs = λ ps ts. s.runs ps ts ∙ ap (λ l. run l (token n ∷ (qs ++ ps)) (us ++ ts)) t.first ∙ run-token (words text after) n (qs ++ ps) (us ++ ts) w e; within = omega (arith, t.shorter, s.within) }

  pub not_there : {n : Pattern} (e : Fault) → IsNotTaken n text rest e → Sofar p text ks rest (token n ∷ qs) us → Fails p text ks e
  not_there {n} e h s = let P : Fault → Type 0 = λ f. Fails p text ks f in subst P (sym h.place) (record { runs = λ ps ts. s.runs ps ts ∙ run-not_token (words text rest) n (qs ++ ps) (us ++ ts) h.other ∙ ap fault_at (length-words rest) })
    where
      fault_at : ℕ → Outcome
      fault_at n = WrongAt n

      length-words : (l : List Token) → length (words text l) ≡ length l
      length-words [] = refl
      length-words (t ∷ l) = omega (arith, length-words l)

  pub read : {q : Part} {after : List Token} {vs : List Tree} → Sofar q text rest after [] vs → Sofar p text ks rest (q ∷ qs) us → Sofar p text ks after qs (vs ++ us)
  read {q} {after} {vs} r s = record { runs = λ ps ts. s.runs ps ts ∙ r.runs (qs ++ ps) (us ++ ts) ∙ ap (λ l. run (words text after) (qs ++ ps) l) (sym (append_assoc vs us ts)); within = omega (arith, s.within, r.within) }

  pub front : (f : Part → Part) {after : List Token} {vs : List Tree} (q : Part) → IsFront f text rest after vs → Sofar p text ks rest (f q ∷ qs) us → Sofar p text ks after (q ∷ qs) (vs ++ us)
  front f {after} {vs} q r s = record { runs = λ ps ts. s.runs ps ts ∙ (r q).runs (qs ++ ps) (us ++ ts) ∙ ap (λ l. run (words text after) (q ∷ (qs ++ ps)) l) (sym (append_assoc vs us ts)); within = omega (arith, s.within, (r q).within) }

  pub failed : {q : Part} (e : Fault) → Fails q text rest e → Sofar p text ks rest (q ∷ qs) us → Fails p text ks e
  failed (fault.Wrong n) r s = record { runs = λ ps ts. s.runs ps ts ∙ r.runs (qs ++ ps) (us ++ ts) }
  failed (fault.Memory error) r s = tt

  pub front_failed : (f : Part → Part) (e : Fault) (q : Part) → FrontFails f text rest e → Sofar p text ks rest (f q ∷ qs) us → Fails p text ks e
  front_failed f e q r s = failed e (r q) s

-- a result that is passed on as it is
pub passed_on : {X : Type 0} {p q : Part} {text : List ℕ} {ks rest : List Token} {qs : List Part} {us : List Tree} (r : Result X Fault) → Sofar p text ks rest (q ∷ qs) us → IfErr r (λ e. Fails q text rest e) → IfErr r (λ e. Fails p text ks e)
passed_on (Ok x) s h = tt
passed_on (Err e) s h = failed e h s

-- ---- tests of the code

pub begins_token : (n : Pattern) (q : Part) (ws : List Word) → begins (then (token n) q) ws ≡ takes n (next ws)
unfolding meet
begins_token n q ws = go (takes n (next ws)) (next ws)
  where
    go : (b : Bool) (o : Option Word) → can_begin (elim (cond b (Taken [] []) Wrong) [ Taken acts ps ↦ Taken acts (ps ++ q ∷ []) | Gone acts ↦ after_actions acts (meet o q) | Wrong ↦ Wrong ]) ≡ b
    go true o = refl
    go false o = refl

pub begins_one : (n : Pattern) (ws : List Word) → begins (token n) ws ≡ takes n (next ws)
unfolding meet
begins_one n ws = go (takes n (next ws))
  where
    go : (b : Bool) → can_begin (cond b (Taken [] []) Wrong) ≡ b
    go true = refl
    go false = refl

pub by_test : (n : Pattern) (q : Part) (text : List ℕ) (ks : List Token) {b v : Bool} → IsTest n text ks b → b ≡ v → begins (then (token n) q) (words text ks) ≡ v
by_test n q text ks t e = begins_token n q (words text ks) ∙ sym t ∙ e

pub by_token : (n : Pattern) (q : Part) {text : List ℕ} {ks rest : List Token} {w : Word} → IsTaken w text ks rest → fits n w ≡ true → begins (then (token n) q) (words text ks) ≡ true
by_token n q {text} {ks} t e = begins_token n q (words text ks) ∙ ap (λ l. takes n (next l)) t.first ∙ e

pub by_one : (n : Pattern) {text : List ℕ} {ks rest : List Token} {w : Word} → IsTaken w text ks rest → fits n w ≡ true → begins (token n) (words text ks) ≡ true
by_one n {text} {ks} t e = begins_one n (words text ks) ∙ ap (λ l. takes n (next l)) t.first ∙ e

pub by_none : (n : Pattern) (q : Part) (text : List ℕ) (ks : List Token) → takes n (next (words text ks)) ≡ false → begins (then (token n) q) (words text ks) ≡ false
by_none n q text ks e = begins_token n q (words text ks) ∙ e

pub by_none_one : (n : Pattern) (text : List ℕ) (ks : List Token) → takes n (next (words text ks)) ≡ false → begins (token n) (words text ks) ≡ false
by_none_one n text ks e = begins_one n (words text ks) ∙ e

-- ---- operators, and lists

-- an operator and its operand
module _ {p operand : Part} {text : List ℕ} {ks rest : List Token} {ss : List Symbol} {qs : List Part} {a : Tree} {us : List Tree} where
  pub operator : {after : List Token} (s : Symbol) → IsOperator ss text rest (Some (s, after)) → Sofar p text ks rest (many (token (one_of ss) ⨟ operand ⨟ make MakeBinary) ∷ qs) (a ∷ us) → Sofar p text ks after (operand ∷ make MakeBinary ∷ many (token (one_of ss) ⨟ operand ⨟ make MakeBinary) ∷ qs) (tree.word (symbol s) ∷ a ∷ us)
  operator s found so = open_then (took found.0 found.1 (open_then (again (by_token (one_of ss) (operand ⨟ make MakeBinary) found.0 found.1) so)))

  pub operated : {after end : List Token} {b : Tree} (s : Symbol) → IsOperator ss text rest (Some (s, after)) → IsRead operand text after end b → Sofar p text ks rest (many (token (one_of ss) ⨟ operand ⨟ make MakeBinary) ∷ qs) (a ∷ us) → Sofar p text ks end (many (token (one_of ss) ⨟ operand ⨟ make MakeBinary) ∷ qs) (tree.binary (tree.word (symbol s)) a b ∷ us)
  operated s found r so = made _ (λ ts. refl) (read r (operator s found so))

-- a list that may be left out, where it is there
pub maybe_list : {c : Listed} {text : List ℕ} {ks rest : List Token} {t : Tree} → begins (first_and_more (element c)) (words text ks) ≡ true → IsRead (rule (ListOf c)) text ks rest t → IsRead (rule (MaybeListOf c)) text ks rest t
maybe_list {c} {text} {ks} {rest} {t} h r =
    let s : Sofar (rule (MaybeListOf c)) text ks ks (first_and_more (element c) ∷ []) (tree.none ∷ []) = there h (made _ (λ ts. refl) (open_then (open_rule begun))) in
    let f : Sofar (rule (ListOf c)) text ks ks (first_and_more (element c) ∷ []) (tree.none ∷ []) = made _ (λ ts. refl) (open_then (open_rule begun)) in
    record { runs = λ ps ts. s.runs ps ts ∙ sym (f.runs ps ts) ∙ r.runs ps ts; within = r.within }

pub maybe_list_fails : (c : Listed) (text : List ℕ) (ks : List Token) (e : Fault) → begins (first_and_more (element c)) (words text ks) ≡ true → Fails (rule (ListOf c)) text ks e → Fails (rule (MaybeListOf c)) text ks e
maybe_list_fails c text ks (fault.Memory error) h r = tt
maybe_list_fails c text ks (fault.Wrong n) h r =
    let s : Sofar (rule (MaybeListOf c)) text ks ks (first_and_more (element c) ∷ []) (tree.none ∷ []) = there h (made _ (λ ts. refl) (open_then (open_rule begun))) in
    let f : Sofar (rule (ListOf c)) text ks ks (first_and_more (element c) ∷ []) (tree.none ∷ []) = made _ (λ ts. refl) (open_then (open_rule begun)) in
    record { runs = λ ps ts. s.runs ps ts ∙ sym (f.runs ps ts) ∙ r.runs ps ts }

pub maybe_list_passed : {X : Type 0} (c : Listed) (text : List ℕ) (ks : List Token) (r : Result X Fault) → begins (first_and_more (element c)) (words text ks) ≡ true → IfErr r (λ e. Fails (rule (ListOf c)) text ks e) → IfErr r (λ e. Fails (rule (MaybeListOf c)) text ks e)
maybe_list_passed c text ks (Ok x) h f = tt
maybe_list_passed c text ks (Err e) h f = maybe_list_fails c text ks e h f

-- the same signs under another name
pub found_signs : (ss ms : List Symbol) → ss ≡ ms → (s : Symbol) (text : List ℕ) (ks rest : List Token) → IsTaken (symbol s) text ks rest × (among (symbol_tag s) ss ≡ true) → IsTaken (symbol s) text ks rest × (among (symbol_tag s) ms ≡ true)
found_signs ss ms e s text ks rest f = (f.0, ap (λ l. among (symbol_tag s) l) (sym e) ∙ f.1)

pub none_signs : (ss ms : List Symbol) → ss ≡ ms → (text : List ℕ) (ks : List Token) → takes (one_of ss) (next (words text ks)) ≡ false → takes (one_of ms) (next (words text ks)) ≡ false
none_signs ss ms e text ks f = ap (λ l. takes (one_of l) (next (words text ks))) (sym e) ∙ f
