-- Statements, one after the other and turn by turn: what assignments keep on all sides, every statement keeps.
use Rattle.std.proofs.Common.{◌≡◌, ◌∙◌, ℕ, zero, suc, ◌+◌, ◌-◌, Bool, List, [], ◌∷◌, map, Option, Some, Ok, refl, sym, ap, subst, subst₂}
use Rattle.std.specs.Option.{option_and_then}
use Rattle.std.proofs.lemmas.Option.{same_Some}
use Rattle.pr_lang.specs.declared.trees.Fixed.{Fixed}
use Rattle.pr_lang.specs.declared.trees.Ref.{Ref}
use Rattle.pr_lang.specs.declared.trees.Expr.{Expr}
use Rattle.pr_lang.specs.declared.trees.Stmt.{Stmt}
use Rattle.pr_lang.specs.declared.trees.Stmt.TheOpen.{Stmt-F}
use Rattle.pr_scope_names.specs.declared.names.Callee.{Callee}
use Rattle.pr_scope_names.specs.declared.names.Static.TheVariants.{Index}
use Rattle.pr_scope_names.specs.Names.{Known, Streaming, bind}
use Rattle.pr_lang_meaning.specs.Streams.{Streams}
use Rattle.pr_lang_meaning.specs.Expressions.{Function, Visible}
use Rattle.pr_lang_meaning.specs.Statements as meaning
use Rattle.pr_expand_spec.specs.Making.{Equations, constant}
use Rattle.pr_expand_spec.specs.Expressions as making
use Rattle.pr_expand_spec.specs.Statements as equations
use Rattle.pr_scope.specs.Statements.{Progress}
use Rattle.pr_scope_facts.proofs.Statics.{SameKnown, constant-made, constant-meant}
use Rattle.pr_scope_facts.proofs.InvertedStatements.{AllChange, AllTurns, LetWalk, RecWalk, for-inverted, let-inverted, rec-inverted}
use Rattle.pr_scope_facts.proofs.Inductions.{ProvedStmt, StmtFact, StmtLayer, OfStmt, each-statement}
use Rattle.pr_scope_facts.proofs.Outcomes.{then_some}
use Rattle.pr_scope_facts.proofs.Worlds.{SameVisible, visible-index, visible-made}

-- ---- the equations alone
-- what the walk's names and the equations' names have in common, where it is kept under an index
pub record Sees (V : Known → making.Visible → Type 0) : Type 0 where
  pub known : (walk : Known) (v : making.Visible) → V walk v → SameKnown walk v.known
  pub index : (walk : Known) (v : making.Visible) (index : List ℕ) (at : ℕ) → V walk v → V (bind index (Index at) walk) (equations.with_index index at v)

-- what assignments keep
pub record Makes (V : Known → making.Visible → Type 0) (R : Streaming → equations.Progress → Type 0) : Type 0 where
  pub sees : Sees V
  pub assigns : (target : Ref) (width : Option ℕ) (e : Expr) (known : Known) (v : making.Visible) (inside : Bool) (s t : Progress) (p : equations.Progress) → V known v → LetWalk target width e known inside s t → R s.streams p → R t.streams (equations.let_change target width e v p)
  pub recurs : (target : Ref) (width : Option ℕ) (init : Fixed) (e : Expr) (known : Known) (v : making.Visible) (inside : Bool) (s t : Progress) (p : equations.Progress) → V known v → RecWalk target width init e known inside s t → R s.streams p → R t.streams (equations.rec_change target width init e v p)

abbrev pub MadeFact : (Known → making.Visible → Type 0) → (Streaming → equations.Progress → Type 0) → StmtFact
MadeFact V R = λ walk mean make past. (known : Known) (v : making.Visible) (inside : Bool) (s t : Progress) (p : equations.Progress) → V known v → walk known inside s ≡ Ok t → R s.streams p → R t.streams (make v p)

made-list : (V : Known → making.Visible → Type 0) (R : Streaming → equations.Progress → Type 0) (ss : List (ProvedStmt (MadeFact V R))) (known : Known) (v : making.Visible) (inside : Bool) (s t : Progress) (p : equations.Progress) → V known v → AllChange (map (λ p. p.0) ss) known inside s t → R s.streams p → R t.streams (equations.in_turn (map equations.change_of (map (λ p. p.0) ss)) v p)
made-list V R [] known v inside s t p sees walk fact = subst (λ (q : Progress). R q.streams p) walk fact
made-list V R (x ∷ xs) known v inside s t p sees walk fact = made-list V R xs known v inside walk.0 t (equations.change_of x.0 v p) sees walk.2 (x.1 known v inside s walk.0 p sees walk.1 fact)

made-turns : (V : Known → making.Visible → Type 0) (R : Streaming → equations.Progress → Type 0) → Sees V → (ss : List (ProvedStmt (MadeFact V R))) (k at : ℕ) (index : List ℕ) (known : Known) (v : making.Visible) (inside : Bool) (s t : Progress) (p : equations.Progress) → V known v → AllTurns k at index (map (λ p. p.0) ss) known inside s t → R s.streams p → R t.streams (equations.turns k at (λ at. equations.in_turn (map equations.change_of (map (λ p. p.0) ss)) (equations.with_index index at v)) p)
made-turns V R see ss zero at index known v inside s t p sees walk fact = subst (λ (q : Progress). R q.streams p) walk fact
made-turns V R see ss (suc k) at index known v inside s t p sees walk fact =
    let here = made-list V R ss (bind index (Index at) known) (equations.with_index index at v) inside (record { streams = s.streams; count = walk.0 }) walk.1 p (see.index known v index at sees) walk.2 fact in
    made-turns V R see ss k (at + 1) index known v inside walk.1 t (equations.in_turn (map equations.change_of (map (λ p. p.0) ss)) (equations.with_index index at v) p) sees walk.3 here

made-layer : (V : Known → making.Visible → Type 0) (R : Streaming → equations.Progress → Type 0) → Makes V R → (y : Stmt-F (ProvedStmt (MadeFact V R))) → StmtLayer (MadeFact V R) y
made-layer V R makes (Stmt-F.Let target width e) known v inside s t p sees walk fact = makes.assigns target width e known v inside s t p sees (let-inverted target width e known inside s t walk) fact
made-layer V R makes (Stmt-F.Rec target width init e) known v inside s t p sees walk fact = makes.recurs target width init e known v inside s t p sees (rec-inverted target width init e known inside s t walk) fact
made-layer V R makes (Stmt-F.For index low high body) known v inside s t p sees walk fact =
    let w = for-inverted index low high (map (λ p. p.0) body.items) known inside s t walk in
    let same = makes.sees.known known v sees in
    let run = λ (at : ℕ). equations.in_turn (map equations.change_of (map (λ (p : ProvedStmt (MadeFact V R)). p.0) body.items)) (equations.with_index index at v) in
    subst₂ (λ from to. R t.streams (equations.turns (to - from) from run p)) (sym (constant-made known v.known same low w.from w.low_is)) (sym (constant-made known v.known same high w.to w.high_is))
    (made-turns V R makes.sees body.items (w.to - w.from) w.from index known v inside (record { streams = s.streams; count = w.begin }) t p sees w.turns fact)

pub statement-made : (V : Known → making.Visible → Type 0) (R : Streaming → equations.Progress → Type 0) → Makes V R → (x : Stmt) → OfStmt (MadeFact V R) x
statement-made V R makes = each-statement (MadeFact V R) (made-layer V R makes)

pub statements-made : (V : Known → making.Visible → Type 0) (R : Streaming → equations.Progress → Type 0) → Makes V R → (xs : List Stmt) (known : Known) (v : making.Visible) (inside : Bool) (s t : Progress) (p : equations.Progress) → V known v → AllChange xs known inside s t → R s.streams p → R t.streams (equations.changes_of xs v p)
statements-made V R makes [] known v inside s t p sees walk fact = subst (λ (q : Progress). R q.streams p) walk fact
statements-made V R makes (x ∷ xs) known v inside s t p sees walk fact = statements-made V R makes xs known v inside walk.0 t (equations.change_of x v p) sees walk.2 (statement-made V R makes x known v inside s walk.0 p sees walk.1 fact)

-- ---- from the equations to the meaning
-- what statements mean, and the streams that are reached then
pub record Reached (R : Streaming → Streams → equations.Progress → Type 0) (streams : Streaming) (o : Option Streams) (p : equations.Progress) : Type 0 where
  pub after : Streams
  pub meant : o ≡ Some after
  pub fact : R streams after p

-- Where the equations in the end are fine, and so were those before, assignments mean something.
pub record Eliminates (F : Callee → Function → making.Inlined → Type 0) (R : Streaming → Streams → equations.Progress → Type 0) (Fine : Equations → Type 0) (m : ℕ) : Type 0 where
  pub earlier : (known : Known) (v : Visible) (made : making.Visible) (x : Stmt) (p : equations.Progress) → SameVisible F known v made → Fine (equations.change_of x made p).equations → Fine p.equations
  pub assigns : (target : Ref) (width : Option ℕ) (e : Expr) (known : Known) (v : Visible) (made : making.Visible) (inside : Bool) (s t : Progress) (env : Streams) (p : equations.Progress) → SameVisible F known v made → LetWalk target width e known inside s t → Fine (equations.let_change target width e made p).equations → R s.streams env p → Reached R t.streams (meaning.let_change target width e v m env) (equations.let_change target width e made p)
  pub recurs : (target : Ref) (width : Option ℕ) (init : Fixed) (e : Expr) (known : Known) (v : Visible) (made : making.Visible) (inside : Bool) (s t : Progress) (env : Streams) (p : equations.Progress) → SameVisible F known v made → RecWalk target width init e known inside s t → Fine (equations.rec_change target width init e made p).equations → R s.streams env p → Reached R t.streams (meaning.rec_change target width init e v m env) (equations.rec_change target width init e made p)

abbrev pub EliminatedFact : (Callee → Function → making.Inlined → Type 0) → (Streaming → Streams → equations.Progress → Type 0) → (Equations → Type 0) → ℕ → StmtFact
EliminatedFact F R Fine m = λ walk mean make past. (known : Known) (v : Visible) (made : making.Visible) (inside : Bool) (s t : Progress) (env : Streams) (p : equations.Progress) → SameVisible F known v made → walk known inside s ≡ Ok t → Fine (make made p).equations → R s.streams env p → Reached R t.streams (mean v m env) (make made p)

-- the equations before some statements, and before some turns, are fine
fine-list : (F : Callee → Function → making.Inlined → Type 0) (R : Streaming → Streams → equations.Progress → Type 0) (Fine : Equations → Type 0) (m : ℕ) → Eliminates F R Fine m → (xs : List Stmt) (known : Known) (v : Visible) (made : making.Visible) (p : equations.Progress) → SameVisible F known v made → Fine (equations.in_turn (map equations.change_of xs) made p).equations → Fine p.equations
fine-list F R Fine m el [] known v made p sees fine = fine
fine-list F R Fine m el (x ∷ xs) known v made p sees fine = el.earlier known v made x p sees (fine-list F R Fine m el xs known v made (equations.change_of x made p) sees fine)

fine-turns : (F : Callee → Function → making.Inlined → Type 0) (R : Streaming → Streams → equations.Progress → Type 0) (Fine : Equations → Type 0) (m : ℕ) → Eliminates F R Fine m → (xs : List Stmt) (k at : ℕ) (index : List ℕ) (known : Known) (v : Visible) (made : making.Visible) (p : equations.Progress) → SameVisible F known v made → Fine (equations.turns k at (λ n. equations.in_turn (map equations.change_of xs) (equations.with_index index n made)) p).equations → Fine p.equations
fine-turns F R Fine m el xs zero at index known v made p sees fine = fine
fine-turns F R Fine m el xs (suc k) at index known v made p sees fine =
    let here = fine-turns F R Fine m el xs k (at + 1) index known v made (equations.in_turn (map equations.change_of xs) (equations.with_index index at made) p) sees fine in
    fine-list F R Fine m el xs (bind index (Index at) known) (meaning.with_known index at v) (equations.with_index index at made) p (visible-index F known v made index at sees) here

reached-then : (R : Streaming → Streams → equations.Progress → Type 0) (streams : Streaming) (o : Option Streams) (k : Streams → Option Streams) (p : equations.Progress) (first : Streams) → o ≡ Some first → Reached R streams (k first) p → Reached R streams (option_and_then k o) p
reached-then R streams o k p first is rest = record { after = rest.after; meant = ap (option_and_then k) is ∙ rest.meant; fact = rest.fact }

eliminated-list : (F : Callee → Function → making.Inlined → Type 0) (R : Streaming → Streams → equations.Progress → Type 0) (Fine : Equations → Type 0) (m : ℕ) → Eliminates F R Fine m → (ss : List (ProvedStmt (EliminatedFact F R Fine m))) (known : Known) (v : Visible) (made : making.Visible) (inside : Bool) (s t : Progress) (env : Streams) (p : equations.Progress) → SameVisible F known v made → AllChange (map (λ p. p.0) ss) known inside s t → Fine (equations.in_turn (map equations.change_of (map (λ p. p.0) ss)) made p).equations → R s.streams env p → Reached R t.streams (meaning.in_turn (map meaning.change_of (map (λ p. p.0) ss)) v m env) (equations.in_turn (map equations.change_of (map (λ p. p.0) ss)) made p)
eliminated-list F R Fine m el [] known v made inside s t env p sees walk fine fact = record { after = env; meant = refl; fact = subst (λ (q : Progress). R q.streams env p) walk fact }
eliminated-list F R Fine m el (x ∷ xs) known v made inside s t env p sees walk fine fact =
    let rest = map (λ (p : ProvedStmt (EliminatedFact F R Fine m)). p.0) xs in
    let next = equations.change_of x.0 made p in
    let first = x.1 known v made inside s walk.0 env p sees walk.1 (fine-list F R Fine m el rest known v made next sees fine) fact in
    reached-then R t.streams (meaning.change_of x.0 v m env) (meaning.in_turn (map meaning.change_of rest) v m) (equations.in_turn (map equations.change_of rest) made next) first.after first.meant
    (eliminated-list F R Fine m el xs known v made inside walk.0 t first.after next sees walk.2 fine first.fact)

eliminated-turns : (F : Callee → Function → making.Inlined → Type 0) (R : Streaming → Streams → equations.Progress → Type 0) (Fine : Equations → Type 0) (m : ℕ) → Eliminates F R Fine m → (ss : List (ProvedStmt (EliminatedFact F R Fine m))) (k at : ℕ) (index : List ℕ) (known : Known) (v : Visible) (made : making.Visible) (inside : Bool) (s t : Progress) (env : Streams) (p : equations.Progress) → SameVisible F known v made → AllTurns k at index (map (λ p. p.0) ss) known inside s t → Fine (equations.turns k at (λ n. equations.in_turn (map equations.change_of (map (λ p. p.0) ss)) (equations.with_index index n made)) p).equations → R s.streams env p → Reached R t.streams (meaning.turns k at (λ n. meaning.in_turn (map meaning.change_of (map (λ p. p.0) ss)) (meaning.with_known index n v) m) env) (equations.turns k at (λ n. equations.in_turn (map equations.change_of (map (λ p. p.0) ss)) (equations.with_index index n made)) p)
eliminated-turns F R Fine m el ss zero at index known v made inside s t env p sees walk fine fact = record { after = env; meant = refl; fact = subst (λ (q : Progress). R q.streams env p) walk fact }
eliminated-turns F R Fine m el ss (suc k) at index known v made inside s t env p sees walk fine fact =
    let body = map (λ (p : ProvedStmt (EliminatedFact F R Fine m)). p.0) ss in
    let mean = λ (n : ℕ). meaning.in_turn (map meaning.change_of body) (meaning.with_known index n v) m in
    let make = λ (n : ℕ). equations.in_turn (map equations.change_of body) (equations.with_index index n made) in
    let here = fine-turns F R Fine m el body k (at + 1) index known v made (make at p) sees fine in
    let first = eliminated-list F R Fine m el ss (bind index (Index at) known) (meaning.with_known index at v) (equations.with_index index at made) inside (record { streams = s.streams; count = walk.0 }) walk.1 env p (visible-index F known v made index at sees) walk.2 here fact in
    reached-then R t.streams (mean at env) (meaning.turns k (at + 1) mean) (equations.turns k (at + 1) make (make at p)) first.after first.meant
    (eliminated-turns F R Fine m el ss k (at + 1) index known v made inside walk.1 t first.after (make at p) sees walk.3 fine first.fact)

eliminated-layer : (F : Callee → Function → making.Inlined → Type 0) (R : Streaming → Streams → equations.Progress → Type 0) (Fine : Equations → Type 0) (m : ℕ) → Eliminates F R Fine m → (y : Stmt-F (ProvedStmt (EliminatedFact F R Fine m))) → StmtLayer (EliminatedFact F R Fine m) y
eliminated-layer F R Fine m el (Stmt-F.Let target width e) known v made inside s t env p sees walk fine fact = el.assigns target width e known v made inside s t env p sees (let-inverted target width e known inside s t walk) fine fact
eliminated-layer F R Fine m el (Stmt-F.Rec target width init e) known v made inside s t env p sees walk fine fact = el.recurs target width init e known v made inside s t env p sees (rec-inverted target width init e known inside s t walk) fine fact
eliminated-layer F R Fine m el (Stmt-F.For index low high body) known v made inside s t env p sees walk fine fact =
    let stmts = map (λ (p : ProvedStmt (EliminatedFact F R Fine m)). p.0) body.items in
    let w = for-inverted index low high stmts known inside s t walk in
    let same = visible-made F known v made sees in
    let mean = λ (n : ℕ). meaning.in_turn (map meaning.change_of stmts) (meaning.with_known index n v) m in
    let make = λ (n : ℕ). equations.in_turn (map equations.change_of stmts) (equations.with_index index n made) in
    let begin = constant-made known made.known same low w.from w.low_is in
    let end = constant-made known made.known same high w.to w.high_is in
    let there = subst₂ (λ from to. Fine (equations.turns (to - from) from make p).equations) begin end fine in
    let all = eliminated-turns F R Fine m el body.items (w.to - w.from) w.from index known v made inside (record { streams = s.streams; count = w.begin }) t env p sees w.turns there fact in
    let here = subst₂ (λ from to. Reached R t.streams (meaning.turns (w.to - w.from) w.from mean env) (equations.turns (to - from) from make p)) (sym begin) (sym end) all in
    subst₂ (λ a b. Reached R t.streams (option_and_then (λ from. option_and_then (λ to. meaning.turns (to - from) from mean env) b) a) (equations.turns (constant high made.known - constant low made.known) (constant low made.known) make p)) (sym (constant-meant known v.known sees.meant low w.from w.low_is)) (sym (constant-meant known v.known sees.meant high w.to w.high_is)) here

pub statement-eliminated : (F : Callee → Function → making.Inlined → Type 0) (R : Streaming → Streams → equations.Progress → Type 0) (Fine : Equations → Type 0) (m : ℕ) → Eliminates F R Fine m → (x : Stmt) → OfStmt (EliminatedFact F R Fine m) x
statement-eliminated F R Fine m el = each-statement (EliminatedFact F R Fine m) (eliminated-layer F R Fine m el)

pub statements-eliminated : (F : Callee → Function → making.Inlined → Type 0) (R : Streaming → Streams → equations.Progress → Type 0) (Fine : Equations → Type 0) (m : ℕ) → Eliminates F R Fine m → (xs : List Stmt) (known : Known) (v : Visible) (made : making.Visible) (inside : Bool) (s t : Progress) (env : Streams) (p : equations.Progress) → SameVisible F known v made → AllChange xs known inside s t → Fine (equations.changes_of xs made p).equations → R s.streams env p → Reached R t.streams (meaning.changes_of xs v m env) (equations.changes_of xs made p)
statements-eliminated F R Fine m el [] known v made inside s t env p sees walk fine fact = record { after = env; meant = refl; fact = subst (λ (q : Progress). R q.streams env p) walk fact }
statements-eliminated F R Fine m el (x ∷ xs) known v made inside s t env p sees walk fine fact =
    let next = equations.change_of x made p in
    let first = statement-eliminated F R Fine m el x known v made inside s walk.0 env p sees walk.1 (fine-list F R Fine m el xs known v made next sees fine) fact in
    reached-then R t.streams (meaning.change_of x v m env) (meaning.changes_of xs v m) (equations.changes_of xs made next) first.after first.meant
    (statements-eliminated F R Fine m el xs known v made inside walk.0 t first.after next sees walk.2 fine first.fact)

-- ---- from the meaning to the equations
-- What assignments keep that mean something.
pub record Carries (F : Callee → Function → making.Inlined → Type 0) (R : Streaming → Streams → equations.Progress → Type 0) (m : ℕ) : Type 0 where
  pub assigns : (target : Ref) (width : Option ℕ) (e : Expr) (known : Known) (v : Visible) (made : making.Visible) (inside : Bool) (s t : Progress) (env after : Streams) (p : equations.Progress) → SameVisible F known v made → LetWalk target width e known inside s t → meaning.let_change target width e v m env ≡ Some after → R s.streams env p → R t.streams after (equations.let_change target width e made p)
  pub recurs : (target : Ref) (width : Option ℕ) (init : Fixed) (e : Expr) (known : Known) (v : Visible) (made : making.Visible) (inside : Bool) (s t : Progress) (env after : Streams) (p : equations.Progress) → SameVisible F known v made → RecWalk target width init e known inside s t → meaning.rec_change target width init e v m env ≡ Some after → R s.streams env p → R t.streams after (equations.rec_change target width init e made p)

abbrev pub CarriedFact : (Callee → Function → making.Inlined → Type 0) → (Streaming → Streams → equations.Progress → Type 0) → ℕ → StmtFact
CarriedFact F R m = λ walk mean make past. (known : Known) (v : Visible) (made : making.Visible) (inside : Bool) (s t : Progress) (env after : Streams) (p : equations.Progress) → SameVisible F known v made → walk known inside s ≡ Ok t → mean v m env ≡ Some after → R s.streams env p → R t.streams after (make made p)

carried-end : (R : Streaming → Streams → equations.Progress → Type 0) (s t : Progress) (env after : Streams) (p : equations.Progress) → s ≡ t → Some env ≡ Some after → R s.streams env p → R t.streams after p
carried-end R s t env after p same is fact = subst₂ (λ (q : Progress) (e : Streams). R q.streams e p) same (same_Some env after is) fact

carried-list : (F : Callee → Function → making.Inlined → Type 0) (R : Streaming → Streams → equations.Progress → Type 0) (m : ℕ) (ss : List (ProvedStmt (CarriedFact F R m))) (known : Known) (v : Visible) (made : making.Visible) (inside : Bool) (s t : Progress) (env after : Streams) (p : equations.Progress) → SameVisible F known v made → AllChange (map (λ p. p.0) ss) known inside s t → meaning.in_turn (map meaning.change_of (map (λ p. p.0) ss)) v m env ≡ Some after → R s.streams env p → R t.streams after (equations.in_turn (map equations.change_of (map (λ p. p.0) ss)) made p)
carried-list F R m [] known v made inside s t env after p sees walk is fact = carried-end R s t env after p walk is fact
carried-list F R m (x ∷ xs) known v made inside s t env after p sees walk is fact =
    let rest = map (λ (p : ProvedStmt (CarriedFact F R m)). p.0) xs in
    let first = then_some (meaning.change_of x.0 v m env) (meaning.in_turn (map meaning.change_of rest) v m) after is in
    carried-list F R m xs known v made inside walk.0 t first.0 after (equations.change_of x.0 made p) sees walk.2 first.2 (x.1 known v made inside s walk.0 env first.0 p sees walk.1 first.1 fact)

carried-turns : (F : Callee → Function → making.Inlined → Type 0) (R : Streaming → Streams → equations.Progress → Type 0) (m : ℕ) (ss : List (ProvedStmt (CarriedFact F R m))) (k at : ℕ) (index : List ℕ) (known : Known) (v : Visible) (made : making.Visible) (inside : Bool) (s t : Progress) (env after : Streams) (p : equations.Progress) → SameVisible F known v made → AllTurns k at index (map (λ p. p.0) ss) known inside s t → meaning.turns k at (λ n. meaning.in_turn (map meaning.change_of (map (λ p. p.0) ss)) (meaning.with_known index n v) m) env ≡ Some after → R s.streams env p → R t.streams after (equations.turns k at (λ n. equations.in_turn (map equations.change_of (map (λ p. p.0) ss)) (equations.with_index index n made)) p)
carried-turns F R m ss zero at index known v made inside s t env after p sees walk is fact = carried-end R s t env after p walk is fact
carried-turns F R m ss (suc k) at index known v made inside s t env after p sees walk is fact =
    let body = map (λ (p : ProvedStmt (CarriedFact F R m)). p.0) ss in
    let mean = λ (n : ℕ). meaning.in_turn (map meaning.change_of body) (meaning.with_known index n v) m in
    let first = then_some (mean at env) (meaning.turns k (at + 1) mean) after is in
    let here = carried-list F R m ss (bind index (Index at) known) (meaning.with_known index at v) (equations.with_index index at made) inside (record { streams = s.streams; count = walk.0 }) walk.1 env first.0 p (visible-index F known v made index at sees) walk.2 first.1 fact in
    carried-turns F R m ss k (at + 1) index known v made inside walk.1 t first.0 after (equations.in_turn (map equations.change_of body) (equations.with_index index at made) p) sees walk.3 first.2 here

carried-layer : (F : Callee → Function → making.Inlined → Type 0) (R : Streaming → Streams → equations.Progress → Type 0) (m : ℕ) → Carries F R m → (y : Stmt-F (ProvedStmt (CarriedFact F R m))) → StmtLayer (CarriedFact F R m) y
carried-layer F R m carries (Stmt-F.Let target width e) known v made inside s t env after p sees walk is fact = carries.assigns target width e known v made inside s t env after p sees (let-inverted target width e known inside s t walk) is fact
carried-layer F R m carries (Stmt-F.Rec target width init e) known v made inside s t env after p sees walk is fact = carries.recurs target width init e known v made inside s t env after p sees (rec-inverted target width init e known inside s t walk) is fact
carried-layer F R m carries (Stmt-F.For index low high body) known v made inside s t env after p sees walk is fact =
    let stmts = map (λ (p : ProvedStmt (CarriedFact F R m)). p.0) body.items in
    let w = for-inverted index low high stmts known inside s t walk in
    let same = visible-made F known v made sees in
    let mean = λ (n : ℕ). meaning.in_turn (map meaning.change_of stmts) (meaning.with_known index n v) m in
    let make = λ (n : ℕ). equations.in_turn (map equations.change_of stmts) (equations.with_index index n made) in
    let met = subst₂ (λ a b. option_and_then (λ from. option_and_then (λ to. meaning.turns (to - from) from mean env) b) a ≡ Some after) (constant-meant known v.known sees.meant low w.from w.low_is) (constant-meant known v.known sees.meant high w.to w.high_is) is in
    subst₂ (λ from to. R t.streams after (equations.turns (to - from) from make p)) (sym (constant-made known made.known same low w.from w.low_is)) (sym (constant-made known made.known same high w.to w.high_is))
    (carried-turns F R m body.items (w.to - w.from) w.from index known v made inside (record { streams = s.streams; count = w.begin }) t env after p sees w.turns met fact)

pub statement-carried : (F : Callee → Function → making.Inlined → Type 0) (R : Streaming → Streams → equations.Progress → Type 0) (m : ℕ) → Carries F R m → (x : Stmt) → OfStmt (CarriedFact F R m) x
statement-carried F R m carries = each-statement (CarriedFact F R m) (carried-layer F R m carries)

pub statements-carried : (F : Callee → Function → making.Inlined → Type 0) (R : Streaming → Streams → equations.Progress → Type 0) (m : ℕ) → Carries F R m → (xs : List Stmt) (known : Known) (v : Visible) (made : making.Visible) (inside : Bool) (s t : Progress) (env after : Streams) (p : equations.Progress) → SameVisible F known v made → AllChange xs known inside s t → meaning.changes_of xs v m env ≡ Some after → R s.streams env p → R t.streams after (equations.changes_of xs made p)
statements-carried F R m carries [] known v made inside s t env after p sees walk is fact = carried-end R s t env after p walk is fact
statements-carried F R m carries (x ∷ xs) known v made inside s t env after p sees walk is fact =
    let first = then_some (meaning.change_of x v m env) (meaning.changes_of xs v m) after is in
    statements-carried F R m carries xs known v made inside walk.0 t first.0 after (equations.change_of x made p) sees walk.2 first.2 (statement-carried F R m carries x known v made inside s walk.0 env first.0 p sees walk.1 first.1 fact)
