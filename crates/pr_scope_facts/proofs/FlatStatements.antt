-- Statements, functions and items that the walk accepts keep what equations keep.
use Rattle.std.proofs.Common.{◌≡◌, ◌⊎◌, inl, inr, ◌<◌, ◌^◌, ℕ, zero, suc, ◌+◌, ◌-◌, Bool, true, false, cond, ◌||◌, nat_lt, bytes_eq, List, [], ◌∷◌, map, length, Option, Some, None, Ok, refl, sym, subst, arith}
use Rattle.std.specs.Option.{IfSome}
use Rattle.std.proofs.lemmas.Bool.{or_parts, false≢true, lt-ltb, and_from}
use Rattle.pr_lang.specs.declared.trees.Fixed.{Fixed}
use Rattle.pr_lang.specs.declared.trees.Ref.{Ref}
use Rattle.pr_lang.specs.declared.trees.Param.{Param}
use Rattle.pr_lang.specs.declared.trees.Expr.{Expr}
use Rattle.pr_lang.specs.declared.trees.Stmt.{Stmt}
use Rattle.pr_lang.specs.declared.trees.Stmt.TheOpen.{Stmt-F}
use Rattle.pr_scope_names.specs.declared.names.Callee.{Callee}
use Rattle.pr_scope_names.specs.declared.names.Static.{Static}
use Rattle.pr_scope_names.specs.declared.names.Static.TheVariants.{Function, Index}
use Rattle.pr_scope_names.specs.Names.{Known, bind}
use Rattle.pr_scope.specs.declared.expressions.Scene.{Scene}
use Rattle.pr_scope.specs.Expressions.{past_of}
use Rattle.pr_scope.specs.Statements as scope
use Rattle.pr_scope.specs.Statements.{stmt_past_of, stmts_past_of}
use Rattle.pr_flat.specs.declared.equations.Operand.{Operand}
use Rattle.pr_flat.specs.declared.equations.Operand.TheVariants.{Const, Eq, Past}
use Rattle.pr_flat.specs.declared.equations.Op.TheVariants as op
use Rattle.pr_flat.specs.Facts.{is_width, has_lawful_width}
use Rattle.pr_expand_spec.specs.declared.givens.Given.{Given}
use Rattle.pr_expand_spec.specs.declared.givens.Standing.{Standing}
use Rattle.pr_expand_spec.specs.declared.givens.Standing.TheVariants.{Stream, Own}
use Rattle.pr_expand_spec.specs.Making.{Equations, Expanded, with_equation, lawful, constant}
use Rattle.pr_expand_spec.specs.Expressions.{Streams, Visible, place, plan_of, assigned}
use Rattle.pr_expand_spec.specs.Statements.{Progress, with_standing, named, let_change, body_made, number_after, with_recurrence, rec_change, with_index, turns, change_of, changes_of}
use Rattle.pr_expand_spec.specs.Programs.{no_streams, fitted_to, passed, with_arguments, inlined, signed_function}
use Rattle.pr_scope_facts.proofs.Statics.{same-index, constant-made}
use Rattle.pr_scope_facts.proofs.InvertedStatements.{AllChange, AllTurns, LetWalk, RecWalk, let-inverted, rec-inverted, for-inverted}
use Rattle.pr_scope_facts.proofs.InvertedItems.{CalleeWalk}
use Rattle.pr_scope_facts.proofs.Inductions.{StmtFact, ProvedStmt, StmtLayer, OfStmt, each-statement}
use Rattle.pr_scope_facts.proofs.Appending.{inlined-appends, signed-appends}
use Rattle.pr_scope_facts.proofs.Numbering.{IsStill}
use Rattle.pr_scope_facts.proofs.Pasts.{turn-past}
use Rattle.pr_scope_facts.proofs.NoRecurrence.{AreStill, StandsStill, each-standing, quiet-body, settled-is, calm-function, calm-signed}
use Rattle.pr_scope_facts.proofs.FlatStates.{Setting, Outside, Inside, State, IsGiven, Later, Grown, later-same, later-both, begins-zero, clean-given, opened, opened-clean, closed-grown, closed-begins}
use Rattle.pr_scope_facts.proofs.FlatExpressions.{IsWidth, lawful-width, AreGiven, all-given-kept, declared-grown, fitted-grown, SoundStanding, SoundStreams, CleanStanding, CleanStreams, some-more, streams-kept, May, IsSound, IsLawful, Lawful, lawful-append, lawful-calm, making-grown, assigned-grown}

-- ---- names
pub record SoundProgress (s : Setting) (p : Progress) : Type 0 where
  pub state : State s p.equations
  pub streams : SoundStreams s p.equations p.streams

pub record Progressed (s : Setting) (p q : Progress) : Type 0 where
  pub sound : SoundProgress s q
  pub later : Later p.equations q.equations

progressed-same : (s : Setting) (p : Progress) → SoundProgress s p → Progressed s p p
progressed-same s p sound = record { sound = sound; later = later-same p.equations }

progressed-both : (s : Setting) (p q r : Progress) → Progressed s p q → Progressed s q r → Progressed s p r
progressed-both s p q r one two = record { sound = two.sound; later = later-both p.equations q.equations r.equations one.later two.later }

pub named-grown : (s : Setting) (name : List ℕ) (at : Option ℕ) (p : Progress) (m : Expanded) → SoundProgress s p → Grown s p.equations m → Progressed s p (named name at p.streams m)
named-grown s name at p m sound g = record {
  sound = record {
    state = g.state;
    streams = each-standing (SoundStanding s m.equations) name at (Stream m.given 0) p.streams (g.given, begins-zero m.equations m.given.operand) (streams-kept s p.equations m.equations p.streams g.later sound.streams);
  };
  later = g.later;
}

-- a text that does not look back, or one outside of every body
abbrev pub MayLook : Setting → Bool → Type 0
MayLook s past = (past ≡ false) ⊎ (s ≡ Outside)

look-left : (s : Setting) (a b : Bool) → MayLook s (a || b) → MayLook s a
look-left s a b (inl none) = inl (or_parts a b none).0
look-left s a b (inr out) = inr out

look-right : (s : Setting) (a b : Bool) → MayLook s (a || b) → MayLook s b
look-right s a b (inl none) = inl (or_parts a b none).1
look-right s a b (inr out) = inr out

may-of : (s : Setting) (es : Equations) (past : Bool) (scene : Scene) (env : Streams) → MayLook s past → May s es past scene env
may-of s es past scene env (inl none) = inl none
may-of s es past scene env (inr out) = inr (inr out)

let-grown : (known : Known) (v : Visible) → Lawful known v → (target : Ref) (width : Option ℕ) (e : Expr) (inside : Bool) (a b : scope.Progress) → LetWalk target width e known inside a b → (s : Setting) → MayLook s (past_of e known) → (p : Progress) → SoundProgress s p → Progressed s p (let_change target width e v p)
let-grown known v fs target width e inside a b w s may p sound =
    let scene : Scene = record { own = None; inside = inside } in
    named-grown s target.name (place target v.known) p (assigned width e v p.streams p.equations) sound (assigned-grown known v fs width e s p.streams a.streams scene w.begin b.count w.walk p.equations sound.state sound.streams (may-of s p.equations (past_of e known) scene p.streams may))

-- ---- recurrences
still-given : (es : Equations) (q : Operand) → IsGiven Outside es q → IsStill q
still-given es (Const c) given = tt
still-given es (Eq j) given = tt
still-given es (Past rec k) given = absurd given

still-standing : (es : Equations) (x : Standing) → SoundStanding Outside es x → StandsStill x
still-standing es (Stream g c) sound = still-given es g.operand sound.0
still-standing es (Own number) sound = absurd sound

-- outside of every body no name stands for a past
pub outside-still : (es : Equations) (env : Streams) → SoundStreams Outside es env → AreStill env
outside-still es env sound name at = some-more (SoundStanding Outside es) StandsStill (still-standing es) (env name at) (sound name at)

opened-standing : (es : Equations) (number : ℕ) (x : Standing) → SoundStanding Outside es x → SoundStanding (Inside (length es) number) es x × CleanStanding (Inside (length es) number) es x
opened-standing es number (Stream g c) sound =
    let clean = opened-clean es number g.operand sound.0 in
    ((clean-given (Inside (length es) number) es g.operand clean, sound.1), clean)
opened-standing es number (Own n) sound = absurd sound

-- in a body its names are those before and its own
opened-streams : (es : Equations) (number : ℕ) (name : List ℕ) (at : Option ℕ) (env : Streams) → SoundStreams Outside es env → SoundStreams (Inside (length es) number) es (with_standing name at (Own number) env)
opened-streams es number name at env sound = each-standing (SoundStanding (Inside (length es) number) es) name at (Own number) env refl (λ q r. some-more (SoundStanding Outside es) (SoundStanding (Inside (length es) number) es) (λ x is. (opened-standing es number x is).0) (env q r) (sound q r))

opened-clean-streams : (es : Equations) (number : ℕ) (name : List ℕ) (at : Option ℕ) (env : Streams) → SoundStreams Outside es env → CleanStreams (Inside (length es) number) es (with_standing name at (Own number) env)
opened-clean-streams es number name at env sound = each-standing (CleanStanding (Inside (length es) number) es) name at (Own number) env tt (λ q r. some-more (SoundStanding Outside es) (CleanStanding (Inside (length es) number) es) (λ x is. (opened-standing es number x is).1) (env q r) (sound q r))

rec-width : (width : Option ℕ) (init first : ℕ) → ((w : ℕ) → width ≡ Some w → init < 2 ^ w) → has_lawful_width (op.Rec init first) (lawful width) ≡ true
rec-width None init first fits = refl
rec-width (Some w) init first fits = by_test (is_width w) refl where
  by_test : (b : Bool) → is_width w ≡ b → has_lawful_width (op.Rec init first) (cond b (Some w) None) ≡ true
  by_test true is = and_from (is_width w) (nat_lt init (2 ^ w)) is (lt-ltb init (2 ^ w) (fits w refl))
  by_test false is = refl

-- the body of a recurrence, as it is made
pub record BodyGrown (name : List ℕ) (at width : Option ℕ) (e : Expr) (v : Visible) (p : Progress) : Type 0 where
  pub grown : Grown (Inside (length p.equations) (number_after name at width e v p)) p.equations (body_made name at width e (number_after name at width e v p) v p)
  pub number : number_after name at width e v p ≡ length (body_made name at width e (number_after name at width e v p) v p).equations

pub body-grown : (known : Known) (v : Visible) → Lawful known v → (target : Ref) (width : Option ℕ) (init : Fixed) (e : Expr) (inside : Bool) (a b : scope.Progress) → RecWalk target width init e known inside a b → (p : Progress) → SoundProgress Outside p → BodyGrown target.name (place target v.known) width e v p
body-grown known v fs target width init e inside a b w p sound =
    let at = place target v.known in
    let es = p.equations in
    let number = number_after target.name at width e v p in
    let s : Setting = Inside (length es) number in
    let env = with_standing target.name at (Own number) p.streams in
    let scene : Scene = record { own = Some (record { name = target.name; index = w.index }); inside = inside } in
    let quiet = quiet-body known v (lawful-calm known v fs) target.name at width e p a.streams scene w.begin b.count w.walk refl (outside-still es p.streams sound.streams) in
    let made_body = making-grown known v fs e s env a.streams scene w.begin b.count w.walk es (opened es number sound.state) (opened-streams es number target.name at p.streams sound.streams) (inr (inl (refl, opened-clean-streams es number target.name at p.streams sound.streams))) in
    record { grown = declared-grown (plan_of e).is_operator (lawful width) s es ((plan_of e).making v env es) (lawful-width width) made_body; number = sym (quiet.number number) }

pub rec-grown : (known : Known) (v : Visible) → Lawful known v → (target : Ref) (width : Option ℕ) (init : Fixed) (e : Expr) (inside : Bool) (a b : scope.Progress) → RecWalk target width init e known inside a b → (p : Progress) → SoundProgress Outside p → Progressed Outside p (rec_change target width init e v p)
rec-grown known v fs target width init e inside a b w p sound =
    let at = place target v.known in
    let es = p.equations in
    let number = number_after target.name at width e v p in
    let body = body_made target.name at width e number v p in
    let begins = constant init v.known in
    let initial : begins ≡ w.initial = constant-made known v.known fs.same init w.initial w.initial_is in
    let grown = body-grown known v fs target width init e inside a b w p sound in
    let m = with_equation (op.Rec begins (length es)) (body.given ∷ []) (lawful width) body.equations in
    let stands = settled-is (body_made target.name at width e 0 v p) body (sym grown.number) in
    let closed : Grown Outside es m = closed-grown es body.equations begins number body.given (lawful width) grown.grown.state grown.grown.later grown.number grown.grown.given (rec-width width begins (length es) (λ h is. let fits = w.fits h is in omega (arith, initial, fits))) in
    subst (λ (b : Expanded). Progressed Outside p (with_recurrence target.name at width begins p b)) (sym stands) (record {
      sound = record {
        state = closed.state;
        streams = each-standing (SoundStanding Outside m.equations) target.name at (Stream (record { operand = m.given.operand; signed = false }) begins) p.streams (closed.given, closed-begins body.equations begins (length es) body.given (lawful width)) (streams-kept Outside es m.equations p.streams closed.later sound.streams);
      };
      later = closed.later;
    })

-- ---- statements
pub lawful-index : (known : Known) (v : Visible) (index : List ℕ) (at : ℕ) → Lawful known v → Lawful (bind index (Index at) known) (with_index index at v)
lawful-index known v index at fs = record { same = same-index known v.known fs.same index at; functions = λ q f is. fs.functions q f (choice (bytes_eq index q) (known q) f is) } where
  choice : (b : Bool) (o : Option Static) (f : Callee) → cond b (Some (Index at)) o ≡ Some (Function f) → o ≡ Some (Function f)
  choice true o f is = cc
  choice false o f is = is

abbrev StatementFact : StmtFact
StatementFact = λ walk mean make past. (known : Known) (v : Visible) → Lawful known v → (inside : Bool) (a b : scope.Progress) → walk known inside a ≡ Ok b → (s : Setting) → MayLook s (past known) → (p : Progress) → SoundProgress s p → Progressed s p (make v p)

abbrev Proved : Type 0
Proved = ProvedStmt StatementFact

list-grown : (xs : List Proved) (known : Known) (v : Visible) → Lawful known v → (inside : Bool) (a b : scope.Progress) → AllChange (map (λ (x : Proved). x.0) xs) known inside a b → (s : Setting) → MayLook s (stmts_past_of (map (λ (x : Proved). x.0) xs) known) → (p : Progress) → SoundProgress s p → Progressed s p (changes_of (map (λ (x : Proved). x.0) xs) v p)
list-grown [] known v fs inside a b walk s may p sound = progressed-same s p sound
list-grown (x ∷ xs) known v fs inside a b walk s may p sound =
    let rest = map (λ (y : Proved). y.0) xs in
    let past = stmt_past_of x.0 known in
    let pasts = stmts_past_of rest known in
    let first = x.1 known v fs inside a walk.0 walk.1 s (look-left s past pasts may) p sound in
    progressed-both s p (change_of x.0 v p) (changes_of rest v (change_of x.0 v p)) first (list-grown xs known v fs inside walk.0 b walk.2 s (look-right s past pasts may) (change_of x.0 v p) first.sound)

turns-grown : (xs : List Proved) (index : List ℕ) (known : Known) (v : Visible) → Lawful known v → (s : Setting) → ((at : ℕ) → MayLook s (stmts_past_of (map (λ (x : Proved). x.0) xs) (bind index (Index at) known))) → (k at : ℕ) (inside : Bool) (a b : scope.Progress) → AllTurns k at index (map (λ (x : Proved). x.0) xs) known inside a b → (p : Progress) → SoundProgress s p → Progressed s p (turns k at (λ n. changes_of (map (λ (x : Proved). x.0) xs) (with_index index n v)) p)
turns-grown xs index known v fs s may zero at inside a b walk p sound = progressed-same s p sound
turns-grown xs index known v fs s may (suc k) at inside a b walk p sound =
    let f : ℕ → Progress → Progress = λ n. changes_of (map (λ (x : Proved). x.0) xs) (with_index index n v) in
    let first = list-grown xs (bind index (Index at) known) (with_index index at v) (lawful-index known v index at fs) inside (record { streams = a.streams; count = walk.0 }) walk.1 walk.2 s (may at) p sound in
    progressed-both s p (f at p) (turns k (at + 1) f (f at p)) first (turns-grown xs index known v fs s may k (at + 1) inside walk.1 b walk.3 (f at p) first.sound)

outside-rec : (known : Known) (v : Visible) → Lawful known v → (target : Ref) (width : Option ℕ) (init : Fixed) (e : Expr) (inside : Bool) (a b : scope.Progress) → RecWalk target width init e known inside a b → (s : Setting) → s ≡ Outside → (p : Progress) → SoundProgress s p → Progressed s p (rec_change target width init e v p)
outside-rec known v fs target width init e inside a b w Outside out p sound = rec-grown known v fs target width init e inside a b w p sound
outside-rec known v fs target width init e inside a b w (Inside first number) out p sound = cc

statement-layer : (y : Stmt-F Proved) → StmtLayer StatementFact y
statement-layer (Stmt-F.Let target width e) known v fs inside a b walk s may p sound = let-grown known v fs target width e inside a b (let-inverted target width e known inside a b walk) s may p sound
statement-layer (Stmt-F.Rec target width init e) known v fs inside a b walk s (inl none) p sound = absurd (false≢true (sym none))
statement-layer (Stmt-F.Rec target width init e) known v fs inside a b walk s (inr out) p sound = outside-rec known v fs target width init e inside a b (rec-inverted target width init e known inside a b walk) s out p sound
statement-layer (Stmt-F.For index low high body) known v fs inside a b walk s may p sound =
    let stmts = map (λ (x : Proved). x.0) body.items in
    let w = for-inverted index low high stmts known inside a b walk in
    let from : constant low v.known ≡ w.from = constant-made known v.known fs.same low w.from w.low_is in
    let to : constant high v.known ≡ w.to = constant-made known v.known fs.same high w.to w.high_is in
    let f : ℕ → Progress → Progress = λ n. changes_of stmts (with_index index n v) in
    let goal : Progressed s p (turns (w.to - w.from) w.from f p) = turns-grown body.items index known v fs s (λ at. subst (MayLook s) (sym (turn-past stmts known index at w.unknown)) may) (w.to - w.from) w.from inside (record { streams = a.streams; count = w.begin }) b w.turns p sound in
    subst (λ (n : ℕ). Progressed s p (turns (constant high v.known - n) n f p)) (sym from) (subst (λ (n : ℕ). Progressed s p (turns (n - w.from) w.from f p)) (sym to) goal)

pub statement-grown : (x : Stmt) → OfStmt StatementFact x
statement-grown = each-statement StatementFact statement-layer

pub statements-grown : (xs : List Stmt) (known : Known) (v : Visible) → Lawful known v → (inside : Bool) (a b : scope.Progress) → AllChange xs known inside a b → (s : Setting) → MayLook s (stmts_past_of xs known) → (p : Progress) → SoundProgress s p → Progressed s p (changes_of xs v p)
statements-grown [] known v fs inside a b walk s may p sound = progressed-same s p sound
statements-grown (x ∷ xs) known v fs inside a b walk s may p sound =
    let past = stmt_past_of x known in
    let pasts = stmts_past_of xs known in
    let first = statement-grown x known v fs inside a walk.0 walk.1 s (look-left s past pasts may) p sound in
    progressed-both s p (change_of x v p) (changes_of xs v (change_of x v p)) first (statements-grown xs known v fs inside walk.0 b walk.2 s (look-right s past pasts may) (change_of x v p) first.sound)

-- ---- functions
passed-grown : (s : Setting) (es : Equations) (width : Option ℕ) (g : Given) → State s es → IsGiven s es g.operand → Grown s es (passed width g es)
passed-grown s es width g state given = by_width (lawful width) (lawful-width width) where
  by_width : (o : Option ℕ) → IfSome o IsWidth → Grown s es (fitted_to o g es)
  by_width None is = record { state = state; later = later-same es; given = given }
  by_width (Some w) is = fitted-grown s es w g is state given

arguments-grown : (s : Setting) (params : List Param) (gs : List Given) (p : Progress) → SoundProgress s p → AreGiven s p.equations gs → Progressed s p (with_arguments params gs p)
arguments-grown s [] gs p sound given = progressed-same s p sound
arguments-grown s (x ∷ xs) [] p sound given = progressed-same s p sound
arguments-grown s (x ∷ xs) (g ∷ gs) p sound given =
    let m = passed x.width g p.equations in
    let next = named x.name None p.streams m in
    let first : Progressed s p next = named-grown s x.name None p m sound (passed-grown s p.equations x.width g sound.state given.0) in
    progressed-both s p next (with_arguments xs gs next) first (arguments-grown s xs gs next first.sound (all-given-kept s p.equations next.equations gs first.later given.1))

function-sound : (known : Known) (v : Visible) → Lawful known v → (at : ℕ) (params : List Param) (width : Option ℕ) (body : List Stmt) (result : Expr) (f : Callee) → CalleeWalk at params width body result known f → IsSound f.past (inlined params width body result v)
function-sound known v fs at params width body result f w = record { at = gives } where
  may_body : (s : Setting) → MayLook s f.past → MayLook s (stmts_past_of body known || past_of result known)
  may_body s may = subst (MayLook s) w.past may

  gives : (s : Setting) → MayLook s f.past → (es : Equations) → State s es → (args : List Given) → AreGiven s es args → Grown s es (inlined params width body result v args es)
  gives s may es state args given =
      let begin : Progress = record { streams = no_streams; equations = es } in
      let bound = with_arguments params args begin in
      let t = changes_of body v bound in
      let pasts = stmts_past_of body known in
      let past = past_of result known in
      let scene : Scene = record { own = None; inside = true } in
      let one : Progressed s begin bound = arguments-grown s params args begin (record { state = state; streams = λ q r. tt }) given in
      let two : Progressed s bound t = statements-grown body known v fs true (record { streams = w.locals; count = w.begin }) w.between w.changes s (look-left s pasts past (may_body s may)) bound one.sound in
      let last = assigned-grown known v fs width result s t.streams w.between.streams scene w.between.count w.last w.walk t.equations two.sound.state two.sound.streams (may-of s t.equations past scene t.streams (look-right s pasts past (may_body s may))) in
      record { state = last.state; later = later-both es t.equations (assigned width result v t.streams t.equations).equations (later-both es bound.equations t.equations one.later two.later) last.later; given = last.given }

-- a function that the walk accepts
pub lawful-function : (known : Known) (v : Visible) → Lawful known v → (at : ℕ) (params : List Param) (width : Option ℕ) (body : List Stmt) (result : Expr) (f : Callee) → CalleeWalk at params width body result known f → IsLawful f.past (inlined params width body result v)
lawful-function known v fs at params width body result f w = record {
  appends = inlined-appends params width body result v (lawful-append known v fs);
  calm = λ none. calm-function known v (lawful-calm known v fs) at params width body result f w none;
  sound = function-sound known v fs at params width body result f w;
}

pub lawful-signed : IsLawful false signed_function
lawful-signed = record { appends = signed-appends; calm = λ none. calm-signed; sound = record { at = gives } } where
  gives : (s : Setting) → MayLook s false → (es : Equations) → State s es → (args : List Given) → AreGiven s es args → Grown s es (signed_function args es)
  gives s may es state [] given = record { state = state; later = later-same es; given = tt }
  gives s may es state (g ∷ []) given = record { state = state; later = later-same es; given = given.0 }
  gives s may es state (g ∷ h ∷ gs) given = record { state = state; later = later-same es; given = tt }
