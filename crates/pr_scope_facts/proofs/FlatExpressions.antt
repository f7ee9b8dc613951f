-- Making an expression that the walk accepts keeps what equations keep.
use Rattle.std.proofs.Common.{◌≡◌, ◌∙◌, ◌⊎◌, inl, inr, ℕ, Bool, true, false, cond, ◌&&◌, ◌||◌, nat_le, List, [], ◌∷◌, map, length, Option, Some, None, is_none, Ok, refl, sym, ap, subst, arith}
use Rattle.std.specs.List.{AllByRecursion}
use Rattle.std.specs.Option.{IfSome}
use Rattle.std.proofs.lemmas.Bool.{and_parts, or_parts, false≢true, le-leb, leb-true}
use Rattle.pr_lang.specs.declared.trees.BinOp.{BinOp}
use Rattle.pr_lang.specs.declared.trees.BinOp.TheVariants as binary
use Rattle.pr_lang.specs.declared.trees.Expr.{Expr}
use Rattle.pr_lang.specs.declared.trees.Expr.TheOpen.{Expr-F}
use Rattle.pr_scope_names.specs.declared.counts.Count.{Count}
use Rattle.pr_scope_names.specs.declared.names.Callee.{Callee}
use Rattle.pr_scope_names.specs.declared.names.Static.{Static}
use Rattle.pr_scope_names.specs.declared.names.Static.TheVariants.{Function}
use Rattle.pr_scope.specs.declared.expressions.Scene.{Scene}
use Rattle.pr_scope_names.specs.Names.{Known, Streaming}
use Rattle.pr_scope.specs.Expressions.{walk_of, past_of, pasts_of, is_past}
use Rattle.pr_flat.specs.declared.equations.Operand.{Operand}
use Rattle.pr_flat.specs.declared.equations.Operand.TheVariants.{Const, Past}
use Rattle.pr_flat.specs.declared.equations.Op.{Op}
use Rattle.pr_flat.specs.declared.equations.Op.TheVariants as op
use Rattle.pr_flat.specs.Facts.{arity, is_rec, is_width, has_lawful_width, has_lawful_ends, has_lawful_constant}
use Rattle.pr_lang_meaning.specs.Expressions.{constant_shift, operator}
use Rattle.pr_expand_spec.specs.declared.givens.Given.{Given}
use Rattle.pr_expand_spec.specs.declared.givens.Standing.{Standing}
use Rattle.pr_expand_spec.specs.declared.givens.Standing.TheVariants.{Stream, Own}
use Rattle.pr_expand_spec.specs.Making.{Equations, Expanded, made, given_operand, with_equation, lawful, constant}
use Rattle.pr_expand_spec.specs.Expressions.{Streams, Inlined, Visible, ExprPlan, place, referred, earlier, AllExpanded, all_made, apply, combined, beside, concatenated, function_of, called, own_past, plan_of, declared_at_operator, declared_else, assigned}
use Rattle.pr_scope_facts.proofs.Statics.{SameKnown, constant-made}
use Rattle.pr_scope_facts.proofs.InvertedExpressions.{slice-inverted, binary-inverted, choose-inverted, AllWalk, parts-inverted, call-inverted}
use Rattle.pr_scope_facts.proofs.Inductions.{ExprFact, ProvedExpr, ExprLayer, each-expression}
use Rattle.pr_scope_facts.proofs.Adding.{IsShift, callee-known, callee-of, declared-with, each-more, shift-is}
use Rattle.pr_scope_facts.proofs.Appending.{AllAppend, DoesAppend}
use Rattle.pr_scope_facts.proofs.NoRecurrence.{IsCalm, Calm, calm-visible, second-walk}
use Rattle.pr_scope_facts.proofs.FlatStates.{Setting, Outside, Inside, is_delay, State, IsGiven, IsClean, Begins, Later, Grown, later-same, later-both, given-kept, clean-kept, outside-clean, begins-later, fresh-grown, delayed-grown}

-- ---- operators
abbrev pub operates : Op → Bool
operates op.Input = false
operates (op.Delay c) = false
operates (op.Rec init first) = false
operates o = true

operates-rec : (o : Op) → operates o ≡ true → is_rec o ≡ false
operates-rec (op.Rec init first) is = absurd (false≢true is)
operates-rec o is = refl

operates-delay : (o : Op) → operates o ≡ true → is_delay o ≡ false
operates-delay (op.Delay c) is = absurd (false≢true is)
operates-delay o is = refl

operates-constant : (es : Equations) (o : Op) (args : List Operand) → operates o ≡ true → has_lawful_constant es o args ≡ true
operates-constant es (op.Delay c) args is = absurd (false≢true is)
operates-constant es o args is = refl

-- a declared width is 1 to 128
abbrev pub IsWidth : ℕ → Type 0
IsWidth w = is_width w ≡ true

operates-width : (o : Op) (width : Option ℕ) → operates o ≡ true → IfSome width IsWidth → has_lawful_width o width ≡ true
operates-width op.Input width is lawful = absurd (false≢true is)
operates-width (op.Delay c) width is lawful = absurd (false≢true is)
operates-width (op.Rec init first) width is lawful = absurd (false≢true is)
operates-width o None is lawful = refl
operates-width o (Some w) is lawful = lawful

pub lawful-width : (width : Option ℕ) → IfSome (lawful width) IsWidth
lawful-width None = tt
lawful-width (Some w) = by_test (is_width w) refl where
  by_test : (b : Bool) → is_width w ≡ b → IfSome (cond b (Some w) None) IsWidth
  by_test true is = is
  by_test false is = tt

pub record IsOperation (o : Op) (count : ℕ) : Type 0 where
  pub operates_is : operates o ≡ true
  pub count_is : count ≡ arity o
  pub ends : has_lawful_ends o ≡ true

operator-is : (o : BinOp) → IsOperation (operator o) 2
operator-is binary.Add = record { operates_is = refl; count_is = refl; ends = refl }
operator-is o = record { operates_is = refl; count_is = refl; ends = refl }

shift-operation : (o : Op) → IsShift o → IsOperation o 1
shift-operation (op.Left k) is = record { operates_is = refl; count_is = refl; ends = refl }
shift-operation (op.Right k) is = record { operates_is = refl; count_is = refl; ends = refl }
shift-operation o is = absurd is

abbrev pub AreGiven : Setting → Equations → List Given → Type 0
AreGiven s es args = AllByRecursion (λ (g : Given). IsGiven s es g.operand) args

pub all-given-kept : (s : Setting) (es ds : Equations) (args : List Given) → Later es ds → AreGiven s es args → AreGiven s ds args
all-given-kept s es ds args l given = each-more (λ (g : Given). IsGiven s es g.operand) (λ (g : Given). IsGiven s ds g.operand) (λ g. given-kept s es ds l g.operand) args given

pub operation-grown : (s : Setting) (es : Equations) (o : Op) (args : List Given) (width : Option ℕ) → IsOperation o (length args) → IfSome width IsWidth → State s es → AreGiven s es args → Grown s es (with_equation o args width es)
operation-grown s es o args width is lawful state given = fresh-grown s es o args width state (record {
  rec = operates-rec o is.operates_is;
  count = is.count_is;
  width = operates-width o width is.operates_is lawful;
  ends = is.ends;
  constant = operates-constant es o (map given_operand args) is.operates_is;
  given = given;
  delays = λ delays. absurd (false≢true (sym (operates-delay o is.operates_is) ∙ delays));
})

-- an operation whose own equation stands last
pub record GrownLast (s : Setting) (es : Equations) (m : Expanded) : Type 0 where
  pub parts : Equations
  pub state : State s parts
  pub later : Later es parts
  pub op : Op
  pub args : List Given
  pub operation : IsOperation op (length args)
  pub given : AreGiven s parts args
  pub is : m ≡ with_equation op args None parts

abbrev pub GrownIf : Bool → Setting → Equations → Expanded → Type 0
GrownIf true s es m = GrownLast s es m
GrownIf false s es m = Grown s es m

grown-before : (s : Setting) (es ds : Equations) (m : Expanded) → Later es ds → Grown s ds m → Grown s es m
grown-before s es ds m l g = record { state = g.state; later = later-both es ds m.equations l g.later; given = g.given }

last-grown : (s : Setting) (es : Equations) (m : Expanded) (width : Option ℕ) → IfSome width IsWidth → (l : GrownLast s es m) → Grown s es (with_equation l.op l.args width l.parts)
last-grown s es m width lawful l = grown-before s es l.parts (with_equation l.op l.args width l.parts) l.later (operation-grown s l.parts l.op l.args width l.operation lawful l.state l.given)

pub grown-any : (b : Bool) (s : Setting) (es : Equations) (m : Expanded) → GrownIf b s es m → Grown s es m
grown-any true s es m l = subst (Grown s es) (sym l.is) (last-grown s es m None tt l)
grown-any false s es m g = g

pub declared-grown : (b : Bool) (width : Option ℕ) (s : Setting) (es : Equations) (m : Expanded) → IfSome width IsWidth → GrownIf b s es m → Grown s es (declared_at_operator b width m)
declared-grown true (Some w) s es m lawful l = subst (λ (x : Expanded). Grown s es (declared_at_operator true (Some w) x)) (sym l.is) (subst (Grown s es) (sym (declared-with w l.op l.args l.parts)) (last-grown s es m (Some w) lawful l))
declared-grown true None s es m lawful l = grown-any true s es m l
declared-grown false width s es m lawful g = g

fit-operation : IsOperation op.Fit 1
fit-operation = record { operates_is = refl; count_is = refl; ends = refl }

pub fitted-grown : (s : Setting) (es : Equations) (w : ℕ) (g : Given) → IsWidth w → State s es → IsGiven s es g.operand → Grown s es (with_equation op.Fit (g ∷ []) (Some w) es)
fitted-grown s es w g lawful state given = operation-grown s es op.Fit (g ∷ []) (Some w) fit-operation lawful state (given, tt)

else-grown : (b : Bool) (width : Option ℕ) (s : Setting) (es : Equations) (m : Expanded) → IfSome width IsWidth → Grown s es m → Grown s es (declared_else b width m)
else-grown false (Some w) s es m lawful g = grown-before s es m.equations _ g.later (fitted-grown s m.equations w m.given lawful g.state g.given)
else-grown false None s es m lawful g = g
else-grown true width s es m lawful g = g

-- ---- what names stand for
abbrev pub IsOwn : Setting → ℕ → Type 0
IsOwn Outside number = ⊥
IsOwn (Inside first own) number = number ≡ own

abbrev pub SoundStanding : Setting → Equations → Standing → Type 0
SoundStanding s es (Stream g c) = IsGiven s es g.operand × Begins es c g.operand
SoundStanding s es (Own number) = IsOwn s number

-- each name stands for what may be read, or for the recurrence that is being made
abbrev pub SoundStreams : Setting → Equations → Streams → Type 0
SoundStreams s es env = (name : List ℕ) (at : Option ℕ) → IfSome (env name at) (SoundStanding s es)

abbrev pub CleanStanding : Setting → Equations → Standing → Type 0
CleanStanding s es (Stream g c) = IsClean s es g.operand
CleanStanding s es (Own number) = Unit {0}

-- and may be read by delays
abbrev pub CleanStreams : Setting → Equations → Streams → Type 0
CleanStreams s es env = (name : List ℕ) (at : Option ℕ) → IfSome (env name at) (CleanStanding s es)

pub some-more : {X : Type 0} (P Q : X → Type 0) → ((x : X) → P x → Q x) → (o : Option X) → IfSome o P → IfSome o Q
some-more P Q more None is = tt
some-more P Q more (Some x) is = more x is

standing-kept : (s : Setting) (es ds : Equations) → Later es ds → (x : Standing) → SoundStanding s es x → SoundStanding s ds x
standing-kept s es ds l (Stream g c) is = (given-kept s es ds l g.operand is.0, begins-later es ds c g.operand l is.1)
standing-kept s es ds l (Own number) is = is

pub streams-kept : (s : Setting) (es ds : Equations) (env : Streams) → Later es ds → SoundStreams s es env → SoundStreams s ds env
streams-kept s es ds env l sound name at = some-more (SoundStanding s es) (SoundStanding s ds) (standing-kept s es ds l) (env name at) (sound name at)

clean-standing-kept : (s : Setting) (es ds : Equations) → Later es ds → (x : Standing) → CleanStanding s es x → CleanStanding s ds x
clean-standing-kept s es ds l (Stream g c) is = clean-kept s es ds l g.operand is
clean-standing-kept s es ds l (Own number) is = tt

-- a text that does not look back, the body of a recurrence, or a text outside of every body
abbrev pub May : Setting → Equations → Bool → Scene → Streams → Type 0
May s es past scene env = (past ≡ false) ⊎ (((is_none scene.own ≡ false) × CleanStreams s es env) ⊎ (s ≡ Outside))

may-kept : (s : Setting) (es ds : Equations) (past : Bool) (scene : Scene) (env : Streams) → Later es ds → May s es past scene env → May s ds past scene env
may-kept s es ds past scene env l (inl none) = inl none
may-kept s es ds past scene env l (inr (inl body)) = inr (inl (body.0, λ name at. some-more (CleanStanding s es) (CleanStanding s ds) (clean-standing-kept s es ds l) (env name at) (body.1 name at)))
may-kept s es ds past scene env l (inr (inr out)) = inr (inr out)

may-left : (s : Setting) (es : Equations) (a b : Bool) (scene : Scene) (env : Streams) → May s es (a || b) scene env → May s es a scene env
may-left s es a b scene env (inl none) = inl (or_parts a b none).0
may-left s es a b scene env (inr rest) = inr rest

may-right : (s : Setting) (es : Equations) (a b : Bool) (scene : Scene) (env : Streams) → May s es (a || b) scene env → May s es b scene env
may-right s es a b scene env (inl none) = inl (or_parts a b none).1
may-right s es a b scene env (inr rest) = inr rest

referred-grown : (s : Setting) (es : Equations) (o : Option Static) (at : Option ℕ) (x : Option Standing) → State s es → IfSome x (SoundStanding s es) → Grown s es (referred o at x es)
referred-grown s es (Some static) at x state sound = record { state = state; later = later-same es; given = tt }
referred-grown s es None at (Some (Stream g c)) state sound = record { state = state; later = later-same es; given = sound.0 }
referred-grown s es None at (Some (Own number)) state sound = record { state = state; later = later-same es; given = tt }
referred-grown s es None at None state sound = record { state = state; later = later-same es; given = tt }

own-given : (s : Setting) (es : Equations) (number k : ℕ) → IsOwn s number → IsGiven s es (own_past number k)
own-given Outside es number k own = absurd own
own-given (Inside first n) es number k own = by_test (nat_le 1 k && nat_le k 256) refl where
  by_test : (b : Bool) → (nat_le 1 k && nat_le k 256) ≡ b → IsGiven (Inside first n) es (cond b (Past number k) (Const 0))
  by_test true is = (own, leb-true 1 k (and_parts (nat_le 1 k) (nat_le k 256) is).0)
  by_test false is = tt

earlier-grown : (s : Setting) (es : Equations) (k : ℕ) (x : Option Standing) → State s es → IfSome x (SoundStanding s es) → IfSome x (CleanStanding s es) → Grown s es (earlier k x es)
earlier-grown s es k (Some (Stream g c)) state sound clean = delayed-grown s k g c es state clean sound.1
earlier-grown s es k (Some (Own number)) state sound clean = record { state = state; later = later-same es; given = own-given s es number k sound }
earlier-grown s es k None state sound clean = record { state = state; later = later-same es; given = tt }

sound-clean : (es : Equations) (x : Standing) → SoundStanding Outside es x → CleanStanding Outside es x
sound-clean es (Stream g c) sound = outside-clean es g.operand sound.0
sound-clean es (Own number) sound = absurd sound

outside-streams : (t : Setting) (es : Equations) → t ≡ Outside → (o : Option Standing) → IfSome o (SoundStanding t es) → IfSome o (CleanStanding t es)
outside-streams Outside es is o sound = some-more (SoundStanding Outside es) (CleanStanding Outside es) (sound-clean es) o sound
outside-streams (Inside first number) es is o sound = cc

-- what is delayed is clean
clean-of : (s : Setting) (es : Equations) (scene : Scene) (env : Streams) → May s es true scene env → SoundStreams s es env → CleanStreams s es env
clean-of s es scene env (inl none) sound = absurd (false≢true (sym none))
clean-of s es scene env (inr (inl body)) sound = body.1
clean-of s es scene env (inr (inr out)) sound = λ name at. outside-streams s es out (env name at) (sound name at)

-- ---- parts
record GrownAll (s : Setting) (es : Equations) (a : AllExpanded) : Type 0 where
  state : State s a.equations
  later : Later es a.equations
  given : AreGiven s a.equations a.given

abbrev PartGrown : Visible → Setting → Streams → Equations → ExprPlan → Type 0
PartGrown v s env from p = (es : Equations) → Later from es → State s es → GrownIf p.is_operator s es (p.making v env es)

parts-grown : (v : Visible) (s : Setting) (env : Streams) (from : Equations) (ps : List ExprPlan) → AllByRecursion (PartGrown v s env from) ps → (es : Equations) → Later from es → State s es → GrownAll s es (all_made ps v env es)
parts-grown v s env from [] all es l state = record { state = state; later = later-same es; given = tt }
parts-grown v s env from (p ∷ ps) all es l state =
    let first = p.making v env es in
    let one = grown-any p.is_operator s es first (all.0 es l state) in
    let rest = parts-grown v s env from ps all.1 first.equations (later-both from es first.equations l one.later) one.state in
    record {
      state = rest.state;
      later = later-both es first.equations (all_made ps v env first.equations).equations one.later rest.later;
      given = (given-kept s first.equations (all_made ps v env first.equations).equations rest.later first.given.operand one.given, rest.given);
    }

apply-grown : (s : Setting) (es : Equations) (o : Op) (a : AllExpanded) → IsOperation o (length a.given) → GrownAll s es a → GrownLast s es (apply o a)
apply-grown s es o a is g = record { parts = a.equations; state = g.state; later = g.later; op = o; args = a.given; operation = is; given = g.given; is = refl }

beside-grown : (s : Setting) (old : Equations) (above : Expanded) (g : Given) (gs : List Given) → State s above.equations → Later old above.equations → IsGiven s above.equations above.given.operand → AreGiven s above.equations (g ∷ gs) → GrownLast s old (beside above (g ∷ gs))
beside-grown s old above g [] state l given all = record { parts = above.equations; state = state; later = l; op = op.Cat; args = above.given ∷ g ∷ []; operation = record { operates_is = refl; count_is = refl; ends = refl }; given = (given, (all.0, tt)); is = refl }
beside-grown s old above g (h ∷ gs) state l given all =
    let next = with_equation op.Cat (above.given ∷ g ∷ []) None above.equations in
    let grown = operation-grown s above.equations op.Cat (above.given ∷ g ∷ []) None (record { operates_is = refl; count_is = refl; ends = refl }) tt state (given, (all.0, tt)) in
    beside-grown s old next h gs grown.state (later-both old above.equations next.equations l grown.later) grown.given (all-given-kept s above.equations next.equations (h ∷ gs) grown.later all.1)

concatenated-grown : (v : Visible) (s : Setting) (env : Streams) (from : Equations) (ps : List ExprPlan) → AllByRecursion (PartGrown v s env from) ps → (es : Equations) → Later from es → State s es → GrownIf (nat_le 2 (length ps)) s es (concatenated (all_made ps v env es).given (all_made ps v env es).equations)
concatenated-grown v s env from [] all es l state = record { state = state; later = later-same es; given = tt }
concatenated-grown v s env from (p ∷ []) all es l state =
    let one = grown-any p.is_operator s es (p.making v env es) (all.0 es l state) in
    record { state = one.state; later = one.later; given = one.given }
concatenated-grown v s env from (p ∷ q ∷ ps) all es l state =
    let whole = all_made (p ∷ q ∷ ps) v env es in
    let first = p.making v env es in
    let second = q.making v env first.equations in
    let rest = all_made ps v env second.equations in
    let g = parts-grown v s env from (p ∷ q ∷ ps) all es l state in
    subst (λ b. GrownIf b s es (concatenated whole.given whole.equations)) (sym (le-leb 2 (length (p ∷ q ∷ ps)) (omega arith))) (beside-grown s es (made whole.equations first.given.operand false) second.given rest.given g.state g.later g.given.0 g.given.1)

-- ---- functions
-- a function keeps what equations keep, in a body only where it does not look back
pub record IsSound (past : Bool) (f : Inlined) : Type 0 where
  pub at : (s : Setting) → (past ≡ false) ⊎ (s ≡ Outside) → (es : Equations) → State s es → (args : List Given) → AreGiven s es args → Grown s es (f args es)

-- what a function is, of which it is said whether it looks back
pub record IsLawful (past : Bool) (f : Inlined) : Type 0 where
  pub appends : DoesAppend f
  pub calm : past ≡ false → IsCalm f
  pub sound : IsSound past f

-- the names that the walk knows, and its functions
pub record Lawful (known : Known) (v : Visible) : Type 0 where
  pub same : SameKnown known v.known
  pub functions : (name : List ℕ) (f : Callee) → known name ≡ Some (Function f) → IfSome (v.functions name) (IsLawful f.past)

pub lawful-append : (known : Known) (v : Visible) → Lawful known v → AllAppend v
lawful-append known v fs = record { at = λ q. callee-known DoesAppend (known q) (v.known q) (v.functions q) (fs.same.at q) (λ c is. some-more (IsLawful c.past) DoesAppend (λ f l. l.appends) (v.functions q) (fs.functions q c is)) }

pub lawful-calm : (known : Known) (v : Visible) → Lawful known v → Calm known v
lawful-calm known v fs = calm-visible known v fs.same (λ q c is none. some-more (IsLawful c.past) IsCalm (λ f l. l.calm none) (v.functions q) (fs.functions q c is))

lawful-sound : (known : Known) (v : Visible) → Lawful known v → (name : List ℕ) (c : Callee) → known name ≡ Some (Function c) → IfSome (function_of (v.known name) (v.functions name)) (IsSound c.past)
lawful-sound known v fs name c is = callee-of (IsSound c.past) (v.known name) (v.functions name) (some-more (IsLawful c.past) (IsSound c.past) (λ f l. l.sound) (v.functions name) (fs.functions name c is))

called-grown : (past : Bool) (s : Setting) → (past ≡ false) ⊎ (s ≡ Outside) → (f : Option Inlined) → IfSome f (IsSound past) → (es : Equations) (a : AllExpanded) → GrownAll s es a → Grown s es (called f a)
called-grown past s may None sound es a g = record { state = g.state; later = g.later; given = tt }
called-grown past s may (Some f) sound es a g = grown-before s es a.equations (f a.given a.equations) g.later (sound.at s may a.equations g.state a.given g.given)

may-call : (s : Setting) (es : Equations) (f : Callee) (rest : Bool) (scene : Scene) (env : Streams) → May s es (f.past || rest) scene env → (is_none scene.own ≡ false → f.past ≡ false) → (f.past ≡ false) ⊎ (s ≡ Outside)
may-call s es f rest scene env (inl none) calm = inl (or_parts f.past rest none).0
may-call s es f rest scene env (inr (inl body)) calm = inl (calm body.0)
may-call s es f rest scene env (inr (inr out)) calm = inr out

-- ---- expressions
abbrev SoundFact : Known → Visible → ExprFact
SoundFact known v r sense p past = (s : Setting) (env : Streams) (streams : Streaming) (scene : Scene) (c d : Count) → r.walk known streams scene c ≡ Ok d → (es : Equations) → State s es → SoundStreams s es env → May s es (past known) scene env → GrownIf p.is_operator s es (p.making v env es)

abbrev Proved : Known → Visible → Type 0
Proved known v = ProvedExpr (SoundFact known v)

part-grown : (known : Known) (v : Visible) (e : Proved known v) (s : Setting) (env : Streams) (streams : Streaming) (scene : Scene) (c d : Count) → walk_of e.0 known streams scene c ≡ Ok d → (from : Equations) → SoundStreams s from env → May s from (past_of e.0 known) scene env → PartGrown v s env from (plan_of e.0)
part-grown known v e s env streams scene c d walk from sound may es l state = e.1 s env streams scene c d walk es state (streams-kept s from es env l sound) (may-kept s from es (past_of e.0 known) scene env l may)

each-grown : (known : Known) (v : Visible) (es : List (Proved known v)) (s : Setting) (env : Streams) (streams : Streaming) (scene : Scene) (c d : Count) → AllWalk (map (λ (p : Proved known v). p.0) es) known streams scene c d → (from : Equations) → SoundStreams s from env → May s from (pasts_of (map past_of (map (λ (p : Proved known v). p.0) es)) known) scene env → AllByRecursion (PartGrown v s env from) (map plan_of (map (λ (p : Proved known v). p.0) es))
each-grown known v [] s env streams scene c d walk from sound may = tt
each-grown known v (e ∷ es) s env streams scene c d walk from sound may =
    let past = past_of e.0 known in
    let pasts = pasts_of (map past_of (map (λ (p : Proved known v). p.0) es)) known in
    (part-grown known v e s env streams scene c walk.0 walk.1 from sound (may-left s from past pasts scene env may), each-grown known v es s env streams scene walk.0 d walk.2 from sound (may-right s from past pasts scene env may))

combined-grown : (v : Visible) (s : Setting) (env : Streams) (es : Equations) (o : BinOp) (shift : Option Op) (a b : ExprPlan) → IfSome shift IsShift → PartGrown v s env es a → (shift ≡ None → PartGrown v s env es b) → State s es → GrownLast s es (combined o shift a b v env es)
combined-grown v s env es o (Some shift) a b is one two state = apply-grown s es shift (all_made (a ∷ []) v env es) (shift-operation shift is) (parts-grown v s env es (a ∷ []) (one, tt) es (later-same es) state)
combined-grown v s env es o None a b is one two state = apply-grown s es (operator o) (all_made (a ∷ b ∷ []) v env es) (operator-is o) (parts-grown v s env es (a ∷ b ∷ []) (one, (two refl, tt)) es (later-same es) state)

layer-grown : (known : Known) (v : Visible) → Lawful known v → (y : Expr-F (Proved known v)) → ExprLayer (SoundFact known v) y
layer-grown known v fs (Expr-F.Number n) s env streams scene c d walk es state sound may = record { state = state; later = later-same es; given = tt }
layer-grown known v fs (Expr-F.Refer r) s env streams scene c d walk es state sound may = referred-grown s es (v.known r.name) (place r v.known) (env r.name (place r v.known)) state (sound r.name (place r v.known))
layer-grown known v fs (Expr-F.Delay r k) s env streams scene c d walk es state sound may = earlier-grown s es (constant k v.known) (env r.name (place r v.known)) state (sound r.name (place r v.known)) (clean-of s es scene env may sound r.name (place r v.known))
layer-grown known v fs (Expr-F.Slice e high low) s env streams scene c d walk es state sound may =
    let w = slice-inverted e.value.0 high low known streams scene c d walk in
    let same : SameKnown known v.known = fs.same in
    let top : constant high v.known ≡ w.from = constant-made known v.known same high w.from w.high_is in
    let bottom : constant low v.known ≡ w.to = constant-made known v.known same low w.to w.low_is in
    let ordered = w.order in
    apply-grown s es (op.Slice (constant high v.known) (constant low v.known)) (all_made (plan_of e.value.0 ∷ []) v env es) (record { operates_is = refl; count_is = refl; ends = le-leb (constant low v.known) (constant high v.known) (omega (arith, top, bottom, ordered)) }) (parts-grown v s env es (plan_of e.value.0 ∷ []) (part-grown known v e.value s env streams scene c d w.part es sound may, tt) es (later-same es) state)
layer-grown known v fs (Expr-F.Not e) s env streams scene c d walk es state sound may = apply-grown s es op.Not (all_made (plan_of e.value.0 ∷ []) v env es) (record { operates_is = refl; count_is = refl; ends = refl }) (parts-grown v s env es (plan_of e.value.0 ∷ []) (part-grown known v e.value s env streams scene c d walk es sound may, tt) es (later-same es) state)
layer-grown known v fs (Expr-F.Binary o a b) s env streams scene c d walk es state sound may =
    let w = binary-inverted o a.value.0 b.value.0 known streams scene c d walk in
    let left = past_of a.value.0 known in
    let right = past_of b.value.0 known in
    let amount = (plan_of b.value.0).amount v.known in
    combined-grown v s env es o (constant_shift o amount) (plan_of a.value.0) (plan_of b.value.0) (shift-is o amount) (part-grown known v a.value s env streams scene c w.between w.first es sound (may-left s es left right scene env may)) (λ none. part-grown known v b.value s env streams scene w.between d (second-walk known v.known fs.same o b.value.0 streams scene w.between d w.rest none) es sound (may-right s es left right scene env may)) state
layer-grown known v fs (Expr-F.Choose e a b) s env streams scene c d walk es state sound may =
    let w = choose-inverted e.value.0 a.value.0 b.value.0 known streams scene c d walk in
    let test = past_of e.value.0 known in
    let left = past_of a.value.0 known in
    let right = past_of b.value.0 known in
    let both = may-left s es (test || left) right scene env may in
    let one = part-grown known v e.value s env streams scene c w.after_test w.test es sound (may-left s es test left scene env both) in
    let two = part-grown known v a.value s env streams scene w.after_test w.after_first w.first es sound (may-right s es test left scene env both) in
    let three = part-grown known v b.value s env streams scene w.after_first d w.other es sound (may-right s es (test || left) right scene env may) in
    apply-grown s es op.Choose (all_made (plan_of e.value.0 ∷ plan_of a.value.0 ∷ plan_of b.value.0 ∷ []) v env es) (record { operates_is = refl; count_is = refl; ends = refl }) (parts-grown v s env es (plan_of e.value.0 ∷ plan_of a.value.0 ∷ plan_of b.value.0 ∷ []) (one, (two, (three, tt))) es (later-same es) state)
layer-grown known v fs (Expr-F.Call name args) s env streams scene c d walk es state sound may =
    let exprs = map (λ (p : Proved known v). p.0) args.items in
    let w = call-inverted name exprs known streams scene c d walk in
    let pasts = pasts_of (map past_of exprs) known in
    let callee : is_past (known name) ≡ w.callee.past = ap is_past w.is in
    let known_may : May s es (w.callee.past || pasts) scene env = subst (λ b. May s es (b || pasts) scene env) callee may in
    called-grown w.callee.past s (may-call s es w.callee pasts scene env known_may w.may.calm) (function_of (v.known name) (v.functions name)) (lawful-sound known v fs name w.callee w.is) es (all_made (map plan_of exprs) v env es) (parts-grown v s env es (map plan_of exprs) (each-grown known v args.items s env streams scene c w.between w.parts es sound (may-right s es (is_past (known name)) pasts scene env may)) es (later-same es) state)
layer-grown known v fs (Expr-F.Cat parts) s env streams scene c d walk es state sound may =
    let exprs = map (λ (p : Proved known v). p.0) parts.items in
    concatenated-grown v s env es (map plan_of exprs) (each-grown known v parts.items s env streams scene c d (parts-inverted exprs known streams scene c d walk) es sound may) es (later-same es) state
layer-grown known v fs (Expr-F.Paren e) s env streams scene c d walk es state sound may = e.value.1 s env streams scene c d walk es state sound may

-- an expression keeps what equations keep
pub making-grown : (known : Known) (v : Visible) → Lawful known v → (e : Expr) (s : Setting) (env : Streams) (streams : Streaming) (scene : Scene) (c d : Count) → walk_of e known streams scene c ≡ Ok d → (es : Equations) → State s es → SoundStreams s es env → May s es (past_of e known) scene env → GrownIf (plan_of e).is_operator s es ((plan_of e).making v env es)
making-grown known v fs e = each-expression (SoundFact known v) (layer-grown known v fs) e

pub assigned-grown : (known : Known) (v : Visible) → Lawful known v → (width : Option ℕ) (e : Expr) (s : Setting) (env : Streams) (streams : Streaming) (scene : Scene) (c d : Count) → walk_of e known streams scene c ≡ Ok d → (es : Equations) → State s es → SoundStreams s es env → May s es (past_of e known) scene env → Grown s es (assigned width e v env es)
assigned-grown known v fs width e s env streams scene c d walk es state sound may =
    let b = (plan_of e).is_operator in
    let m = (plan_of e).making v env es in
    let w = lawful width in
    else-grown b w s es (declared_at_operator b w m) (lawful-width width) (declared-grown b w s es m (lawful-width width) (making-grown known v fs e s env streams scene c d walk es state sound may))
