-- Of numbers of 64 bits, equations with constants of 64 bits are made.
use Rattle.std.proofs.Common.{◌≡◌, ◌+◌, ◌-◌, ◌*◌, ◌/◌, ◌%◌, ◌^◌, ◌<◌, ℕ, zero, suc, Bool, true, false, cond, not, ◌&&◌, nat_eq, nat_lt, nat_le, bytes_eq, List, [], ◌∷◌, map, Option, Some, None, Result, Ok, Err, IfOk, refl, ap, ◌∙◌, length, slice_get, arith}
use Rattle.std.specs.List.{list_all, AllByRecursion}
use Rattle.std.specs.Option.{IfSome, unwrap_or}
use Rattle.std.specs.Result.{result_ok}
use Rattle.std.proofs.Math.Nat.{div-le_self, mod-le}
use Rattle.std.proofs.lemmas.Bool.{and_from, lt-ltb, ltb-true}
use Rattle.std.proofs.lemmas.List.Folds.{list_all-append}
use Rattle.pr_lang.specs.declared.trees.BinOp.{BinOp}
use Rattle.pr_lang.specs.declared.trees.FixedOp.{FixedOp}
use Rattle.pr_lang.specs.declared.trees.FixedOp.TheVariants as fixed
use Rattle.pr_lang.specs.declared.trees.Fixed.{Fixed}
use Rattle.pr_lang.specs.declared.trees.Expr.{Expr}
use Rattle.pr_lang.specs.declared.trees.Stmt.{Stmt}
use Rattle.pr_lang.specs.declared.trees.Ref.{Ref}
use Rattle.pr_lang.specs.declared.trees.Param.{Param}
use Rattle.pr_scope_names.specs.declared.rules.Rule.{Rule}
use Rattle.pr_scope_names.specs.declared.rules.Rule.TheVariants.{Steps, Divisors}
use Rattle.pr_scope_names.specs.declared.rules.Offence.{Offence}
use Rattle.pr_scope_names.specs.declared.names.Static.{Static}
use Rattle.pr_scope_names.specs.declared.names.Static.TheVariants.{Constant, Index, Table, Function}
use Rattle.pr_scope_names.specs.Names.{Known, bind, same_place}
use Rattle.pr_scope_names.specs.Outcomes.{and_then, provided}
use Rattle.pr_scope_names.specs.Constants.{read, entry_of, applied, in_64_bits, constant_of}
use Rattle.pr_flat.specs.declared.equations.Operand.{Operand}
use Rattle.pr_flat.specs.declared.equations.Operand.TheVariants.{Const, Past, Eq}
use Rattle.pr_flat.specs.declared.equations.Op.{Op}
use Rattle.pr_flat.specs.declared.equations.Op.TheVariants as op
use Rattle.pr_flat.specs.Shape.{EquationShape}
use Rattle.pr_lang_meaning.specs.Expressions.{operator}
use Rattle.pr_expand_spec.specs.declared.givens.Given.{Given}
use Rattle.pr_expand_spec.specs.declared.givens.Standing.{Standing}
use Rattle.pr_expand_spec.specs.declared.givens.Standing.TheVariants.{Stream, Own}
use Rattle.pr_expand_spec.specs.Making.{Equations, Expanded, made, given_operand, given_signed, kinds_read, with_equation, lawful, declare_last, delay_from, delay_step, delayed_once, delayed, constant}
use Rattle.pr_expand_spec.specs.Expressions.{Streams, Inlined, Visible, Making, ExprPlan, referred, earlier, AllExpanded, all_made, apply, combined, beside, concatenated, function_of, called, plan_of, declared_at_operator, declared_else, assigned, place}
use Rattle.pr_expand_spec.specs.Statements.{Progress, Change, with_standing, named, let_change, body_made, number_after, with_recurrence, settled, rec_change, in_turn, with_index, turns, change_of, changes_of}
use Rattle.pr_expand_spec.specs.Programs.{no_streams, fitted_to, passed, with_arguments, inlined, signed_function}
use Rattle.pr_scope_facts.specs.Numbers.{is_number}

-- ---- what is known
abbrev pub ShortStatic : Static → Type 0
ShortStatic (Constant n) = n < 2 ^ 64
ShortStatic (Index n) = n < 2 ^ 64
ShortStatic (Table ns) = AllByRecursion (λ n. n < 2 ^ 64) ns
ShortStatic (Function f) = Unit {0}

pub record ShortKnown (known : Known) : Type 0 where
  pub at : (name : List ℕ) → IfSome (known name) ShortStatic

pub bind-short : {X : Type 0} (P : X → Type 0) (b : Bool) (x : X) (o : Option X) → P x → IfSome o P → IfSome (cond b (Some x) o) P
bind-short P true x o here rest = here
bind-short P false x o here rest = rest

pub known-more : (known : Known) (name : List ℕ) (s : Static) → ShortStatic s → ShortKnown known → ShortKnown (bind name s known)
known-more known name s here all = record { at = λ q. bind-short ShortStatic (bytes_eq name q) s (known q) here (all.at q) }

-- ---- constant expressions
abbrev pub IsShort : Result ℕ Offence → Type 0
IsShort r = IfOk r (λ n. n < 2 ^ 64)

abbrev pub ShortFixed : Fixed → Type 0
ShortFixed f = (known : Known) → ShortKnown known → IsShort (constant_of f known)

value-short : (r : Result ℕ Offence) → IsShort r → unwrap_or (result_ok r) 0 < 2 ^ 64
value-short (Ok n) short = short
value-short (Err e) short = omega arith

pub constant-short : (f : Fixed) → ShortFixed f → (known : Known) → ShortKnown known → constant f known < 2 ^ 64
constant-short f short known all = value-short (constant_of f known) (short known all)

entry-short : (ns : List ℕ) (place : ℕ) → AllByRecursion (λ n. n < 2 ^ 64) ns → IsShort (entry_of (slice_get ns place))
entry-short [] place all = tt
entry-short (n ∷ ns) zero all = all.0
entry-short (n ∷ ns) (suc place) all = entry-short ns place all.1

pub read-short : (o : Option Static) (at : Option ℕ) → IfSome o ShortStatic → IsShort (read o at)
read-short (Some (Constant n)) None short = short
read-short (Some (Index n)) None short = short
read-short (Some (Table ns)) (Some place) short = entry-short ns place short
read-short (Some (Constant n)) (Some place) short = tt
read-short (Some (Index n)) (Some place) short = tt
read-short (Some (Table ns)) None short = tt
read-short (Some (Function f)) None short = tt
read-short (Some (Function f)) (Some place) short = tt
read-short None None short = tt
read-short None (Some place) short = tt

-- the second step gives a short number, whatever the first gave
pub then-short : {A : Type 0} (r : Result A Offence) (f : A → Result ℕ Offence) → ((a : A) → IsShort (f a)) → IsShort (and_then r f)
then-short (Ok a) f each = each a
then-short (Err e) f each = tt

-- and where the first gave one
pub then-also : (r : Result ℕ Offence) (f : ℕ → Result ℕ Offence) → IsShort r → ((n : ℕ) → n < 2 ^ 64 → IsShort (f n)) → IsShort (and_then r f)
then-also (Ok n) f short each = each n short
then-also (Err e) f short each = tt

provided-short : (b : Bool) (rule : Rule) (n : ℕ) → (b ≡ true → n < 2 ^ 64) → IsShort (provided b rule (Ok n))
provided-short true rule n short = short refl
provided-short false rule n short = tt

in-bits : (n : ℕ) → IsShort (in_64_bits n)
in-bits n = provided-short (nat_lt n (2 ^ 64)) Steps n (λ is. ltb-true n (2 ^ 64) is)

pub applied-short : (o : FixedOp) (a b : ℕ) → a < 2 ^ 64 → IsShort (applied o a b)
applied-short fixed.Add a b short = in-bits (a + b)
applied-short fixed.Sub a b short = provided-short (nat_le b a) Steps (a - b) (λ is. omega (arith, short))
applied-short fixed.Mul a b short = in-bits (a * b)
applied-short fixed.Div a b short = provided-short (not (nat_eq b 0)) Divisors (a / b) (λ is. (let less = div-le_self a b in omega (arith, less, short)))
applied-short fixed.Mod a b short = provided-short (not (nat_eq b 0)) Divisors (a % b) (λ is. (let less = mod-le a b in omega (arith, less, short)))

-- ---- operands and equations
abbrev pub ShortGiven : Given → Type 0
ShortGiven g = is_number g.operand ≡ true

abbrev pub ShortGivens : List Given → Type 0
ShortGivens gs = AllByRecursion ShortGiven gs

abbrev pub are_short : EquationShape → Bool
are_short e = list_all is_number e.args

abbrev pub ShortEquations : Equations → Type 0
ShortEquations es = list_all are_short es ≡ true

-- equations, and what they give
pub record ShortMade (m : Expanded) : Type 0 where
  pub equations : ShortEquations m.equations
  pub given : ShortGiven m.given

pub record ShortAll (a : AllExpanded) : Type 0 where
  pub equations : ShortEquations a.equations
  pub given : ShortGivens a.given

zero-short : is_number (Const 0) ≡ true
zero-short = lt-ltb 0 (2 ^ 64) (omega arith)

args-short : (gs : List Given) → ShortGivens gs → list_all is_number (map given_operand gs) ≡ true
args-short [] all = refl
args-short (g ∷ gs) all = and_from (is_number g.operand) (list_all is_number (map given_operand gs)) all.0 (args-short gs all.1)

pub with-short : (o : Op) (args : List Given) (width : Option ℕ) (es : Equations) → ShortGivens args → ShortEquations es → ShortMade (with_equation o args width es)
with-short o args width es given all = record {
  equations =
      let here = args-short args given in
      let e : EquationShape = record { op = o; args = map given_operand args; declared = width; kinds = kinds_read o (map given_signed args) } in
      list_all-append are_short es (e ∷ []) ∙ and_from (list_all are_short es) (list_all is_number (map given_operand args) && true) all (and_from (list_all is_number (map given_operand args)) true here refl);
  given = refl;
}

declare-same : (w : ℕ) (es : Equations) → list_all are_short (declare_last w es) ≡ list_all are_short es
declare-same w [] = refl
declare-same w (e ∷ []) = refl
declare-same w (e ∷ d ∷ es) = ap (λ (b : Bool). are_short e && b) (declare-same w (d ∷ es))

pub at-operator-short : (b : Bool) (width : Option ℕ) (m : Expanded) → ShortMade m → ShortMade (declared_at_operator b width m)
at-operator-short true (Some w) m short = record { equations = declare-same w m.equations ∙ short.equations; given = short.given }
at-operator-short true None m short = short
at-operator-short false width m short = short

else-short : (b : Bool) (width : Option ℕ) (m : Expanded) → ShortMade m → ShortMade (declared_else b width m)
else-short false (Some w) m short = with-short op.Fit (m.given ∷ []) (Some w) m.equations (short.given, tt) short.equations
else-short false None m short = short
else-short true width m short = short

-- ---- names
abbrev pub ShortStanding : Standing → Type 0
ShortStanding (Stream g c) = ShortGiven g
ShortStanding (Own number) = Unit {0}

pub record ShortStreams (env : Streams) : Type 0 where
  pub at : (name : List ℕ) (place : Option ℕ) → IfSome (env name place) ShortStanding

standing-more : (name : List ℕ) (at : Option ℕ) (s : Standing) (env : Streams) → ShortStanding s → ShortStreams env → ShortStreams (with_standing name at s env)
standing-more name at s env here all = record { at = λ q r. bind-short ShortStanding (bytes_eq name q && same_place at r) s (env q r) here (all.at q r) }

abbrev pub ShortInlined : Inlined → Type 0
ShortInlined f = (args : List Given) → ShortGivens args → (es : Equations) → ShortEquations es → ShortMade (f args es)

pub record ShortVisible (v : Visible) : Type 0 where
  pub known : ShortKnown v.known
  pub functions : (name : List ℕ) → IfSome (v.functions name) ShortInlined

abbrev pub ShortMaking : Making → Type 0
ShortMaking f = (v : Visible) → ShortVisible v → (env : Streams) → ShortStreams env → (es : Equations) → ShortEquations es → ShortMade (f v env es)

abbrev pub ShortExpr : Expr → Type 0
ShortExpr e = ShortMaking (plan_of e).making

-- ---- expressions
pub referred-short : (s : Option Static) (at : Option ℕ) (x : Option Standing) (es : Equations) → IfSome s ShortStatic → IfSome x ShortStanding → ShortEquations es → ShortMade (referred s at x es)
referred-short (Some s) at x es static standing all = record { equations = all; given = lt-ltb _ (2 ^ 64) (value-short (read (Some s) at) (read-short (Some s) at static)) }
referred-short None at (Some (Stream g c)) es static standing all = record { equations = all; given = standing }
referred-short None at (Some (Own number)) es static standing all = record { equations = all; given = zero-short }
referred-short None at None es static standing all = record { equations = all; given = zero-short }

step-short : (o : Option ℕ) (q : Operand) (c : ℕ) (es : Equations) → is_number q ≡ true → ShortEquations es → ShortMade (delay_step o q c es)
step-short (Some i) q c es short all = record { equations = all; given = refl }
step-short None q c es short all = with-short (op.Delay c) (record { operand = q; signed = false } ∷ []) None es (short, tt) all

delayed-short : (k : ℕ) (g : Given) (c : ℕ) (es : Equations) → ShortGiven g → ShortEquations es → ShortMade (delayed k g c es)
delayed-short zero g c es short all = record { equations = all; given = short }
delayed-short (suc k) g c es short all =
    let once = delayed_once g.operand c es in
    let first : ShortMade once = step-short (delay_from 0 es g.operand c) g.operand c es short all in
    delayed-short k (record { operand = once.given.operand; signed = g.signed }) c once.equations first.given first.equations

own-short : (b : Bool) (number k : ℕ) → is_number (cond b (Past number k) (Const 0)) ≡ true
own-short true number k = refl
own-short false number k = zero-short

pub earlier-short : (k : ℕ) (x : Option Standing) (es : Equations) → IfSome x ShortStanding → ShortEquations es → ShortMade (earlier k x es)
earlier-short k (Some (Stream g c)) es standing all = delayed-short k g c es standing all
earlier-short k (Some (Own number)) es standing all = record { equations = all; given = own-short (nat_le 1 k && nat_le k 256) number k }
earlier-short k None es standing all = record { equations = all; given = zero-short }

abbrev pub ShortPlans : List ExprPlan → Type 0
ShortPlans ps = AllByRecursion (λ (p : ExprPlan). ShortMaking p.making) ps

pub all-made-short : (ps : List ExprPlan) → ShortPlans ps → (v : Visible) → ShortVisible v → (env : Streams) → ShortStreams env → (es : Equations) → ShortEquations es → ShortAll (all_made ps v env es)
all-made-short [] plans v seen env streams es all = record { equations = all; given = tt }
all-made-short (p ∷ ps) plans v seen env streams es all =
    let first = p.making v env es in
    let one : ShortMade first = plans.0 v seen env streams es all in
    let rest = all-made-short ps plans.1 v seen env streams first.equations one.equations in
    record { equations = rest.equations; given = (one.given, rest.given) }

pub apply-short : (o : Op) (a : AllExpanded) → ShortAll a → ShortMade (apply o a)
apply-short o a short = with-short o a.given None a.equations short.given short.equations

pub combined-short : (o : BinOp) (shift : Option Op) (a b : ExprPlan) → ShortMaking a.making → ShortMaking b.making → ShortMaking (combined o shift a b)
combined-short o (Some shift) a b one other v seen env streams es all = apply-short shift (all_made (a ∷ []) v env es) (all-made-short (a ∷ []) (one, tt) v seen env streams es all)
combined-short o None a b one other v seen env streams es all = apply-short (operator o) (all_made (a ∷ b ∷ []) v env es) (all-made-short (a ∷ b ∷ []) (one, (other, tt)) v seen env streams es all)

beside-short : (above : Expanded) (gs : List Given) → ShortMade above → ShortGivens gs → ShortMade (beside above gs)
beside-short above [] short given = short
beside-short above (g ∷ gs) short given = beside-short _ gs (with-short op.Cat (above.given ∷ g ∷ []) None above.equations (short.given, (given.0, tt)) short.equations) given.1

pub concatenated-short : (gs : List Given) (es : Equations) → ShortGivens gs → ShortEquations es → ShortMade (concatenated gs es)
concatenated-short [] es given all = record { equations = all; given = zero-short }
concatenated-short (g ∷ gs) es given all = beside-short (made es g.operand false) gs (record { equations = all; given = given.0 }) given.1

pub called-short : (f : Option Inlined) (a : AllExpanded) → IfSome f ShortInlined → ShortAll a → ShortMade (called f a)
called-short (Some f) a does short = does a.given short.given a.equations short.equations
called-short None a does short = record { equations = short.equations; given = zero-short }

pub function-short : (s : Option Static) (f : Option Inlined) → IfSome f ShortInlined → IfSome (function_of s f) ShortInlined
function-short (Some (Function c)) f does = does
function-short (Some (Constant n)) f does = tt
function-short (Some (Index n)) f does = tt
function-short (Some (Table ns)) f does = tt
function-short None f does = tt

pub assigned-short : (width : Option ℕ) (e : Expr) → ShortExpr e → ShortMaking (assigned width e)
assigned-short width e short v seen env streams es all =
    let b = (plan_of e).is_operator in
    let m = (plan_of e).making v env es in
    else-short b (lawful width) (declared_at_operator b (lawful width) m) (at-operator-short b (lawful width) m (short v seen env streams es all))

-- ---- statements
pub record ShortProgress (s : Progress) : Type 0 where
  pub streams : ShortStreams s.streams
  pub equations : ShortEquations s.equations

abbrev pub ShortChange : Change → Type 0
ShortChange f = (v : Visible) → ShortVisible v → (s : Progress) → ShortProgress s → ShortProgress (f v s)

abbrev pub ShortStmt : Stmt → Type 0
ShortStmt s = ShortChange (change_of s)

pub named-short : (name : List ℕ) (at : Option ℕ) (env : Streams) (m : Expanded) → ShortStreams env → ShortMade m → ShortProgress (named name at env m)
named-short name at env m streams short = record { streams = standing-more name at (Stream m.given 0) env short.given streams; equations = short.equations }

pub let-short : (target : Ref) (width : Option ℕ) (e : Expr) → ShortExpr e → ShortChange (let_change target width e)
let-short target width e short v seen s all = named-short target.name (place target v.known) s.streams (assigned width e v s.streams s.equations) all.streams (assigned-short width e short v seen s.streams all.streams s.equations all.equations)

body-short : (name : List ℕ) (at width : Option ℕ) (e : Expr) (number : ℕ) (v : Visible) (s : Progress) → ShortExpr e → ShortVisible v → ShortProgress s → ShortMade (body_made name at width e number v s)
body-short name at width e number v s short seen all =
    let env = with_standing name at (Own number) s.streams in
    at-operator-short (plan_of e).is_operator (lawful width) ((plan_of e).making v env s.equations) (short v seen env (standing-more name at (Own number) s.streams tt all.streams) s.equations all.equations)

settled-short : (b : Bool) (counted body : Expanded) → ShortMade counted → ShortMade body → ShortMade (cond b body counted)
settled-short true counted body one other = other
settled-short false counted body one other = one

recurrence-short : (name : List ℕ) (at width : Option ℕ) (init : ℕ) (s : Progress) (body : Expanded) → ShortProgress s → ShortMade body → ShortProgress (with_recurrence name at width init s body)
recurrence-short name at width init s body all short = record {
  streams = standing-more name at (Stream (record { operand = Eq (length body.equations); signed = false }) init) s.streams refl all.streams;
  equations = (with-short (op.Rec init (length s.equations)) (body.given ∷ []) (lawful width) body.equations (short.given, tt) short.equations).equations;
}

pub rec-short : (target : Ref) (width : Option ℕ) (init : Fixed) (e : Expr) → ShortExpr e → ShortChange (rec_change target width init e)
rec-short target width init e short v seen s all =
    let at = place target v.known in
    let number = number_after target.name at width e v s in
    let counted = body_made target.name at width e 0 v s in
    let body = body_made target.name at width e number v s in
    recurrence-short target.name at width (constant init v.known) s (settled counted body) all
    (settled-short (nat_le (length counted.equations) (length body.equations)) counted body (body-short target.name at width e 0 v s short seen all) (body-short target.name at width e number v s short seen all))

pub in-turn-short : (fs : List Change) → AllByRecursion ShortChange fs → ShortChange (in_turn fs)
in-turn-short [] each v seen s all = all
in-turn-short (f ∷ fs) each v seen s all = in-turn-short fs each.1 v seen (f v s) (each.0 v seen s all)

turns-short : (k at : ℕ) (f : ℕ → Progress → Progress) → ((n : ℕ) → n < 2 ^ 64 → (s : Progress) → ShortProgress s → ShortProgress (f n s)) → at + k < 2 ^ 64 → (s : Progress) → ShortProgress s → ShortProgress (turns k at f s)
turns-short zero at f each low s all = all
turns-short (suc k) at f each low s all = turns-short k (at + 1) f each (omega (arith, low)) (f at s) (each at (omega (arith, low)) s all)

index-seen : (index : List ℕ) (at : ℕ) (v : Visible) → at < 2 ^ 64 → ShortVisible v → ShortVisible (with_index index at v)
index-seen index at v low seen = record { known = known-more v.known index (Index at) low seen.known; functions = seen.functions }

pub for-short : (index : List ℕ) (low high : Fixed) (fs : List Change) → ShortFixed low → ShortFixed high → AllByRecursion ShortChange fs
    → ShortChange (λ v s. turns (constant high v.known - constant low v.known) (constant low v.known) (λ at. in_turn fs (with_index index at v)) s)
for-short index low high fs short_low short_high each v seen s all =
    let from = constant-short low short_low v.known seen.known in
    let to = constant-short high short_high v.known seen.known in
    turns-short (constant high v.known - constant low v.known) (constant low v.known) (λ at. in_turn fs (with_index index at v)) (λ n few t short. in-turn-short fs each (with_index index n v) (index-seen index n v few seen) t short) (omega (arith, from, to)) s all

-- ---- functions
passed-short : (width : Option ℕ) (g : Given) (es : Equations) → ShortGiven g → ShortEquations es → ShortMade (passed width g es)
passed-short width g es short all = by_width (lawful width) where
  by_width : (o : Option ℕ) → ShortMade (fitted_to o g es)
  by_width None = record { equations = all; given = short }
  by_width (Some w) = with-short op.Fit (g ∷ []) (Some w) es (short, tt) all

arguments-short : (params : List Param) (gs : List Given) (s : Progress) → ShortGivens gs → ShortProgress s → ShortProgress (with_arguments params gs s)
arguments-short [] gs s given all = all
arguments-short (p ∷ ps) [] s given all = all
arguments-short (p ∷ ps) (g ∷ gs) s given all = arguments-short ps gs _ given.1 (named-short p.name None s.streams (passed p.width g s.equations) all.streams (passed-short p.width g s.equations given.0 all.equations))

pub each-change : (ss : List Stmt) → AllByRecursion ShortStmt ss → AllByRecursion ShortChange (map change_of ss)
each-change [] all = tt
each-change (s ∷ ss) all = (all.0, each-change ss all.1)

pub inlined-short : (params : List Param) (width : Option ℕ) (body : List Stmt) (result : Expr) (v : Visible) → AllByRecursion ShortStmt body → ShortExpr result → ShortVisible v → ShortInlined (inlined params width body result v)
inlined-short params width body result v stmts short seen args given es all =
    let begin : Progress = record { streams = no_streams; equations = es } in
    let begun : ShortProgress begin = record { streams = record { at = λ q r. tt }; equations = all } in
    let bound = with_arguments params args begin in
    let s = changes_of body v bound in
    let done : ShortProgress s = in-turn-short (map change_of body) (each-change body stmts) v seen bound (arguments-short params args begin given begun) in
    assigned-short width result short v seen s.streams done.streams s.equations done.equations

pub signed-short : ShortInlined signed_function
signed-short [] given es all = record { equations = all; given = zero-short }
signed-short (g ∷ []) given es all = record { equations = all; given = given.0 }
signed-short (g ∷ h ∷ gs) given es all = record { equations = all; given = zero-short }
