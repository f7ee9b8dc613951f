-- Making only appends, and what holds of every operation but an input's holds of each operation that expressions and
-- statements make.
use Rattle.std.proofs.Common.{◌≡◌, ◌∙◌, ℕ, zero, suc, ◌+◌, ◌-◌, Bool, true, false, cond, nat_le, bytes_eq, codes, List, [], ◌∷◌, ◌++◌, map, length, Option, Some, None, option_map, Result, Ok, refl, sym, ap, subst, arith, append_assoc}
use Rattle.std.specs.Option.{IfSome}
use Rattle.std.specs.List.{AllByRecursion}
use Rattle.std.proofs.lemmas.List.{append-nil}
use Rattle.std.proofs.lemmas.Bool.{le-leb}
use Rattle.pr_lang.specs.declared.trees.BinOp.{BinOp}
use Rattle.pr_lang.specs.declared.trees.BinOp.TheVariants as binary
use Rattle.pr_lang.specs.declared.trees.Fixed.{Fixed}
use Rattle.pr_lang.specs.declared.trees.Ref.{Ref}
use Rattle.pr_lang.specs.declared.trees.Param.{Param}
use Rattle.pr_lang.specs.declared.trees.Expr.{Expr}
use Rattle.pr_lang.specs.declared.trees.Expr.TheOpen.{Expr-F}
use Rattle.pr_lang.specs.declared.trees.Stmt.{Stmt}
use Rattle.pr_lang.specs.declared.trees.Stmt.TheOpen.{Stmt-F}
use Rattle.pr_lang.specs.declared.trees.Item.{Item}
use Rattle.pr_lang.specs.declared.trees.Item.TheVariants as item
use Rattle.pr_scope_names.specs.declared.rules.Offence.{Offence}
use Rattle.pr_scope_names.specs.declared.names.Callee.{Callee}
use Rattle.pr_scope_names.specs.declared.names.Static.{Static}
use Rattle.pr_scope_names.specs.declared.names.Static.TheVariants as static
use Rattle.pr_scope_names.specs.Names.{built_in}
use Rattle.pr_flat.specs.declared.equations.Operand.{Operand}
use Rattle.pr_flat.specs.declared.equations.Op.{Op}
use Rattle.pr_flat.specs.declared.equations.Op.TheVariants as op
use Rattle.pr_flat.specs.Shape.{EquationShape}
use Rattle.pr_flat.specs.Facts.{is_input}
use Rattle.pr_lang_meaning.specs.Expressions.{constant_shift, operator, shift_by}
use Rattle.pr_lang_meaning.specs.Programs.{function_at}
use Rattle.pr_expand_spec.specs.declared.givens.Given.{Given}
use Rattle.pr_expand_spec.specs.declared.givens.Standing.{Standing}
use Rattle.pr_expand_spec.specs.declared.givens.Standing.TheVariants.{Stream, Own}
use Rattle.pr_expand_spec.specs.Making.{Equations, Expanded, made, with_equation, lawful, declare_last, delay_from, delay_step, delayed_once, delayed, constant}
use Rattle.pr_expand_spec.specs.Expressions.{Streams, Inlined, Visible, ExprPlan, place, referred, earlier, AllExpanded, all_made, apply, combined, beside, concatenated, function_of, called, plan_of, made_with, declared_at_operator, declared_else, assigned}
use Rattle.pr_expand_spec.specs.Statements.{Progress, Change, with_standing, named, body_made, number_after, settled, rec_change, in_turn, with_index, turns, change_of, changes_of}
use Rattle.pr_expand_spec.specs.Programs.{no_streams, fitted_to, passed, with_arguments, inlined, signed_function, World, start, item_change}
use Rattle.pr_scope_facts.proofs.Statics.{plain}
use Rattle.pr_scope_facts.proofs.Inductions.{ExprFact, ProvedExpr, ExprLayer, StmtFact, ProvedStmt, StmtLayer, each-expression, each-statement}

-- equations more, of each operation of which the fact holds
pub record Adds (P : Op → Type 0) (old new : Equations) : Type 0 where
  pub more : Equations
  pub is : new ≡ old ++ more
  pub each : AllByRecursion (λ (e : EquationShape). P e.op) more

pub adds-nothing : (P : Op → Type 0) (es : Equations) → Adds P es es
adds-nothing P es = record { more = []; is = sym (append-nil es); each = tt }

each-append : (P : EquationShape → Type 0) (xs ys : Equations) → AllByRecursion P xs → AllByRecursion P ys → AllByRecursion P (xs ++ ys)
each-append P [] ys one two = two
each-append P (x ∷ xs) ys one two = (one.0, each-append P xs ys one.1 two)

pub adds-both : (P : Op → Type 0) (a b c : Equations) → Adds P a b → Adds P b c → Adds P a c
adds-both P a b c one two = record {
  more = one.more ++ two.more;
  is = two.is ∙ (ap (λ (x : Equations). x ++ two.more) one.is ∙ append_assoc a one.more two.more);
  each = each-append (λ (e : EquationShape). P e.op) one.more two.more one.each two.each;
}

pub adds-with : (P : Op → Type 0) (o : Op) (args : List Given) (width : Option ℕ) (es : Equations) → P o → Adds P es (with_equation o args width es).equations
adds-with P o args width es holds = record { more = _; is = refl; each = (holds, tt) }

pub each-more : {X : Type 0} (P Q : X → Type 0) → ((x : X) → P x → Q x) → (xs : List X) → AllByRecursion P xs → AllByRecursion Q xs
each-more P Q more [] all = tt
each-more P Q more (x ∷ xs) all = (more x all.0, each-more P Q more xs all.1)

pub adds-weaker : (P Q : Op → Type 0) → ((o : Op) → P o → Q o) → (a b : Equations) → Adds P a b → Adds Q a b
adds-weaker P Q weaker a b adds = record { more = adds.more; is = adds.is; each = each-more (λ (e : EquationShape). P e.op) (λ (e : EquationShape). Q e.op) (λ e. weaker e.op) adds.more adds.each }

-- ---- an operator's own equation
-- the last equation's declared width
declare-last : (w : ℕ) (es : Equations) (e : EquationShape) → declare_last w (es ++ e ∷ []) ≡ es ++ record e { declared = Some w } ∷ []
declare-last w [] e = refl
declare-last w (d ∷ []) e = refl
declare-last w (d ∷ c ∷ es) e = ap (λ (x : Equations). d ∷ x) (declare-last w (c ∷ es) e)

-- the equation that an operator made last is as it would have been made under the declared width
pub declared-with : (w : ℕ) (o : Op) (args : List Given) (es : Equations) → declared_at_operator true (Some w) (with_equation o args None es) ≡ with_equation o args (Some w) es
declared-with w o args es = ap (made_with (with_equation o args None es)) (declare-last w es _)

-- an operation whose own equation stands last, after those of its parts
pub record AddsLast (P : Op → Type 0) (old : Equations) (m : Expanded) : Type 0 where
  pub parts : Equations
  pub adds : Adds P old parts
  pub op : Op
  pub holds : P op
  pub args : List Given
  pub is : m ≡ with_equation op args None parts

abbrev pub AddsIf : (Op → Type 0) → Bool → Equations → Expanded → Type 0
AddsIf P true es m = AddsLast P es m
AddsIf P false es m = Adds P es m.equations

adds-last : (P : Op → Type 0) (es : Equations) (m : Expanded) (width : Option ℕ) (l : AddsLast P es m) → Adds P es (with_equation l.op l.args width l.parts).equations
adds-last P es m width l = adds-both P es l.parts (with_equation l.op l.args width l.parts).equations l.adds (adds-with P l.op l.args width l.parts l.holds)

pub adds-any : (P : Op → Type 0) (b : Bool) (es : Equations) (m : Expanded) → AddsIf P b es m → Adds P es m.equations
adds-any P true es m l = subst (λ (x : Expanded). Adds P es x.equations) (sym l.is) (adds-last P es m None l)
adds-any P false es m adds = adds

pub adds-declared : (P : Op → Type 0) (b : Bool) (width : Option ℕ) (es : Equations) (m : Expanded) → AddsIf P b es m → Adds P es (declared_at_operator b width m).equations
adds-declared P true (Some w) es m l = subst (λ (x : Expanded). Adds P es (declared_at_operator true (Some w) x).equations) (sym l.is) (subst (λ (x : Expanded). Adds P es x.equations) (sym (declared-with w l.op l.args l.parts)) (adds-last P es m (Some w) l))
adds-declared P true None es m l = adds-any P true es m l
adds-declared P false width es m adds = adds

pub adds-else : (P : Op → Type 0) → P op.Fit → (b : Bool) (width : Option ℕ) (es : Equations) (m : Expanded) → Adds P es m.equations → Adds P es (declared_else b width m).equations
adds-else P fits false (Some w) es m adds = adds-both P es m.equations _ adds (adds-with P op.Fit (m.given ∷ []) (Some w) m.equations fits)
adds-else P fits false None es m adds = adds
adds-else P fits true width es m adds = adds

-- ---- parts
abbrev pub PlanAdds : (Op → Type 0) → Visible → Streams → ExprPlan → Type 0
PlanAdds P v env p = (es : Equations) → AddsIf P p.is_operator es (p.making v env es)

pub adds-parts : (P : Op → Type 0) (v : Visible) (env : Streams) (ps : List ExprPlan) → AllByRecursion (PlanAdds P v env) ps → (es : Equations) → Adds P es (all_made ps v env es).equations
adds-parts P v env [] all es = adds-nothing P es
adds-parts P v env (p ∷ ps) all es =
    let first = p.making v env es in
    adds-both P es first.equations (all_made ps v env first.equations).equations (adds-any P p.is_operator es first (all.0 es)) (adds-parts P v env ps all.1 first.equations)

pub adds-apply : (P : Op → Type 0) (o : Op) (es : Equations) (a : AllExpanded) → P o → Adds P es a.equations → AddsLast P es (apply o a)
adds-apply P o es a holds adds = record { parts = a.equations; adds = adds; op = o; holds = holds; args = a.given; is = refl }

adds-beside : (P : Op → Type 0) → P op.Cat → (old : Equations) (above : Expanded) (g : Given) (gs : List Given) → Adds P old above.equations → AddsLast P old (beside above (g ∷ gs))
adds-beside P cat old above g [] adds = record { parts = above.equations; adds = adds; op = op.Cat; holds = cat; args = above.given ∷ g ∷ []; is = refl }
adds-beside P cat old above g (h ∷ gs) adds =
    let next = with_equation op.Cat (above.given ∷ g ∷ []) None above.equations in
    adds-beside P cat old next h gs (adds-both P old above.equations next.equations adds (adds-with P op.Cat (above.given ∷ g ∷ []) None above.equations cat))

pub adds-concatenated : (P : Op → Type 0) → P op.Cat → (v : Visible) (env : Streams) (ps : List ExprPlan) → AllByRecursion (PlanAdds P v env) ps → (es : Equations) → AddsIf P (nat_le 2 (length ps)) es (concatenated (all_made ps v env es).given (all_made ps v env es).equations)
adds-concatenated P cat v env [] all es = adds-nothing P es
adds-concatenated P cat v env (p ∷ []) all es = adds-any P p.is_operator es (p.making v env es) (all.0 es)
adds-concatenated P cat v env (p ∷ q ∷ ps) all es =
    let first = p.making v env es in
    let second = q.making v env first.equations in
    let rest = all_made ps v env second.equations in
    let whole = all_made (p ∷ q ∷ ps) v env es in
    subst (λ b. AddsIf P b es (concatenated whole.given whole.equations)) (sym (le-leb 2 (length (p ∷ q ∷ ps)) (omega arith))) (adds-beside P cat es (made whole.equations first.given.operand false) second.given rest.given (adds-parts P v env (p ∷ q ∷ ps) all es))

-- ---- delays
adds-step : (P : Op → Type 0) (c : ℕ) → P (op.Delay c) → (o : Option ℕ) (q : Operand) (es : Equations) → Adds P es (delay_step o q c es).equations
adds-step P c holds (Some i) q es = adds-nothing P es
adds-step P c holds None q es = adds-with P (op.Delay c) (record { operand = q; signed = false } ∷ []) None es holds

pub adds-delayed : (P : Op → Type 0) (c : ℕ) → P (op.Delay c) → (k : ℕ) (g : Given) (es : Equations) → Adds P es (delayed k g c es).equations
adds-delayed P c holds zero g es = adds-nothing P es
adds-delayed P c holds (suc k) g es =
    let once = delayed_once g.operand c es in
    let next : Given = record { operand = once.given.operand; signed = g.signed } in
    adds-both P es once.equations (delayed k next c once.equations).equations (adds-step P c holds (delay_from 0 es g.operand c) g.operand es) (adds-delayed P c holds k next once.equations)

-- ---- constant shifts
abbrev pub IsShift : Op → Type 0
IsShift (op.Left k) = Unit {0}
IsShift (op.Right k) = Unit {0}
IsShift o = ⊥

shift_by-is : (o : BinOp) (k : ℕ) → IfSome (shift_by o k) IsShift
shift_by-is binary.Left k = by_test (nat_le k 128) where
  by_test : (b : Bool) → IfSome (cond b (Some (op.Left k)) None) IsShift
  by_test true = tt
  by_test false = tt
shift_by-is binary.Right k = by_test (nat_le k 128) where
  by_test : (b : Bool) → IfSome (cond b (Some (op.Right k)) None) IsShift
  by_test true = tt
  by_test false = tt
shift_by-is o k = tt

-- a constant shift is a shift
pub shift-is : (o : BinOp) (amount : Option (Result ℕ Offence)) → IfSome (constant_shift o amount) IsShift
shift-is o None = tt
shift-is o (Some (Ok k)) = shift_by-is o k
shift-is o (Some (Result.Err e)) = tt

-- ---- functions by name
-- what holds of a function holds of what its name stands for
pub callee-of : (P : Inlined → Type 0) (o : Option Static) (f : Option Inlined) → IfSome f P → IfSome (function_of o f) P
callee-of P (Some (static.Function c)) f does = does
callee-of P (Some (static.Constant n)) f does = tt
callee-of P (Some (static.Index n)) f does = tt
callee-of P (Some (static.Table ns)) f does = tt
callee-of P None f does = tt

-- the same, where the walk's names say which names stand for functions
pub callee-known : (P : Inlined → Type 0) (o p : Option Static) (f : Option Inlined) → p ≡ option_map plain o → ((c : Callee) → o ≡ Some (static.Function c) → IfSome f P) → IfSome (function_of p f) P
callee-known P o (Some (static.Constant n)) f is each = tt
callee-known P o (Some (static.Index n)) f is each = tt
callee-known P o (Some (static.Table ns)) f is each = tt
callee-known P o None f is each = tt
callee-known P None (Some (static.Function c)) f is each = cc
callee-known P (Some (static.Constant n)) (Some (static.Function c)) f is each = cc
callee-known P (Some (static.Index n)) (Some (static.Function c)) f is each = cc
callee-known P (Some (static.Table ns)) (Some (static.Function c)) f is each = cc
callee-known P (Some (static.Function d)) (Some (static.Function c)) f is each = each d refl

-- a name more that stands for no function
callee-static : (P : Inlined → Type 0) (b : Bool) (s : Static) (o : Option Static) (f : Option Inlined) → function_of (Some s) f ≡ None → IfSome (function_of o f) P → IfSome (function_of (cond b (Some s) o) f) P
callee-static P true s o f none does = subst (λ (g : Option Inlined). IfSome g P) (sym none) tt
callee-static P false s o f none does = does

-- and one that stands for a function
callee-bound : (P : Inlined → Type 0) (b : Bool) (s : Static) (o : Option Static) (f : Inlined) (g : Option Inlined) → P f → IfSome (function_of o g) P → IfSome (function_of (cond b (Some s) o) (cond b (Some f) g)) P
callee-bound P true s o f g does old = callee-of P (Some s) (Some f) does
callee-bound P false s o f g does old = old

-- ---- expressions
-- the fact holds of every operation but an input's
pub record Covers (P : Op → Type 0) : Type 0 where
  pub others : (o : Op) → is_input o ≡ false → P o

no-input : (o : BinOp) → is_input (operator o) ≡ false
no-input binary.Add = refl
no-input o = refl

shift-no-input : (o : Op) → IsShift o → is_input o ≡ false
shift-no-input (op.Left k) shift = refl
shift-no-input (op.Right k) shift = refl
shift-no-input o shift = absurd shift

abbrev pub DoesAdd : (Op → Type 0) → Inlined → Type 0
DoesAdd P f = (args : List Given) (es : Equations) → Adds P es (f args es).equations

-- each function that is visible adds such equations alone
pub record AllAdd (P : Op → Type 0) (v : Visible) : Type 0 where
  pub at : (name : List ℕ) → IfSome (function_of (v.known name) (v.functions name)) (DoesAdd P)

adds-referred : (P : Op → Type 0) (s : Option Static) (at : Option ℕ) (x : Option Standing) (es : Equations) → Adds P es (referred s at x es).equations
adds-referred P (Some s) at x es = adds-nothing P es
adds-referred P None at (Some (Stream g c)) es = adds-nothing P es
adds-referred P None at (Some (Own r)) es = adds-nothing P es
adds-referred P None at None es = adds-nothing P es

adds-earlier : (P : Op → Type 0) → Covers P → (k : ℕ) (x : Option Standing) (es : Equations) → Adds P es (earlier k x es).equations
adds-earlier P all k (Some (Stream g c)) es = adds-delayed P c (all.others (op.Delay c) refl) k g es
adds-earlier P all k (Some (Own r)) es = adds-nothing P es
adds-earlier P all k None es = adds-nothing P es

adds-combined : (P : Op → Type 0) → Covers P → (v : Visible) (env : Streams) (o : BinOp) (shift : Option Op) (a b : ExprPlan) → IfSome shift IsShift → PlanAdds P v env a → PlanAdds P v env b → (es : Equations) → AddsLast P es (combined o shift a b v env es)
adds-combined P all v env o (Some shift) a b is one two es = adds-apply P shift es (all_made (a ∷ []) v env es) (all.others shift (shift-no-input shift is)) (adds-parts P v env (a ∷ []) (one, tt) es)
adds-combined P all v env o None a b is one two es = adds-apply P (operator o) es (all_made (a ∷ b ∷ []) v env es) (all.others (operator o) (no-input o)) (adds-parts P v env (a ∷ b ∷ []) (one, (two, tt)) es)

adds-called : (P : Op → Type 0) (f : Option Inlined) → IfSome f (DoesAdd P) → (es : Equations) (a : AllExpanded) → Adds P es a.equations → Adds P es (called f a).equations
adds-called P None does es a adds = adds
adds-called P (Some f) does es a adds = adds-both P es a.equations (f a.given a.equations).equations adds (does a.given a.equations)

abbrev AddsFact : (Op → Type 0) → Visible → ExprFact
AddsFact P v = λ walk mean plan past. (env : Streams) → PlanAdds P v env plan

abbrev Proved : (Op → Type 0) → Visible → Type 0
Proved P v = ProvedExpr (AddsFact P v)

adds-each : (P : Op → Type 0) (v : Visible) (env : Streams) (es : List (Proved P v)) → AllByRecursion (PlanAdds P v env) (map plan_of (map (λ (p : Proved P v). p.0) es))
adds-each P v env [] = tt
adds-each P v env (e ∷ es) = (e.1 env, adds-each P v env es)

adds-layer : (P : Op → Type 0) → Covers P → (v : Visible) → AllAdd P v → (y : Expr-F (Proved P v)) → ExprLayer (AddsFact P v) y
adds-layer P all v fs (Expr-F.Number n) env es = adds-nothing P es
adds-layer P all v fs (Expr-F.Refer r) env es = adds-referred P (v.known r.name) (place r v.known) (env r.name (place r v.known)) es
adds-layer P all v fs (Expr-F.Delay r k) env es = adds-earlier P all (constant k v.known) (env r.name (place r v.known)) es
adds-layer P all v fs (Expr-F.Slice e high low) env es = let o : Op = op.Slice (constant high v.known) (constant low v.known) in adds-apply P o es (all_made (plan_of e.value.0 ∷ []) v env es) (all.others o refl) (adds-parts P v env (plan_of e.value.0 ∷ []) (e.value.1 env, tt) es)
adds-layer P all v fs (Expr-F.Not e) env es = adds-apply P op.Not es (all_made (plan_of e.value.0 ∷ []) v env es) (all.others op.Not refl) (adds-parts P v env (plan_of e.value.0 ∷ []) (e.value.1 env, tt) es)
adds-layer P all v fs (Expr-F.Binary o a b) env es = let amount = (plan_of b.value.0).amount v.known in adds-combined P all v env o (constant_shift o amount) (plan_of a.value.0) (plan_of b.value.0) (shift-is o amount) (a.value.1 env) (b.value.1 env) es
adds-layer P all v fs (Expr-F.Choose c a b) env es =
    let ps = plan_of c.value.0 ∷ plan_of a.value.0 ∷ plan_of b.value.0 ∷ [] in
    adds-apply P op.Choose es (all_made ps v env es) (all.others op.Choose refl) (adds-parts P v env ps (c.value.1 env, (a.value.1 env, (b.value.1 env, tt))) es)
adds-layer P all v fs (Expr-F.Call name args) env es =
    let ps = map plan_of (map (λ (p : Proved P v). p.0) args.items) in
    adds-called P (function_of (v.known name) (v.functions name)) (fs.at name) es (all_made ps v env es) (adds-parts P v env ps (adds-each P v env args.items) es)
adds-layer P all v fs (Expr-F.Cat parts) env es = adds-concatenated P (all.others op.Cat refl) v env (map plan_of (map (λ (p : Proved P v). p.0) parts.items)) (adds-each P v env parts.items) es
adds-layer P all v fs (Expr-F.Paren e) env es = e.value.1 env es

pub adds-making : (P : Op → Type 0) → Covers P → (v : Visible) → AllAdd P v → (e : Expr) (env : Streams) → PlanAdds P v env (plan_of e)
adds-making P all v fs e = each-expression (AddsFact P v) (adds-layer P all v fs) e

pub adds-assigned : (P : Op → Type 0) → Covers P → (v : Visible) → AllAdd P v → (width : Option ℕ) (e : Expr) (env : Streams) (es : Equations) → Adds P es (assigned width e v env es).equations
adds-assigned P all v fs width e env es =
    let b = (plan_of e).is_operator in
    let m = (plan_of e).making v env es in
    adds-else P (all.others op.Fit refl) b (lawful width) es (declared_at_operator b (lawful width) m) (adds-declared P b (lawful width) es m (adds-making P all v fs e env es))

pub adds-body : (P : Op → Type 0) → Covers P → (v : Visible) → AllAdd P v → (name : List ℕ) (at width : Option ℕ) (e : Expr) (number : ℕ) (s : Progress) → Adds P s.equations (body_made name at width e number v s).equations
adds-body P all v fs name at width e number s =
    let env = with_standing name at (Own number) s.streams in
    adds-declared P (plan_of e).is_operator (lawful width) s.equations ((plan_of e).making v env s.equations) (adds-making P all v fs e env s.equations)

-- ---- statements
abbrev ChangeAdds : (Op → Type 0) → Change → Type 0
ChangeAdds P f = (v : Visible) → AllAdd P v → (s : Progress) → Adds P s.equations (f v s).equations

adds-settled : (P : Op → Type 0) (old : Equations) (counted body : Expanded) → Adds P old counted.equations → Adds P old body.equations → Adds P old (settled counted body).equations
adds-settled P old counted body first second = choice (nat_le (length counted.equations) (length body.equations)) where
  choice : (b : Bool) → Adds P old (cond b body counted).equations
  choice true = second
  choice false = first

adds-rec : (P : Op → Type 0) → Covers P → (target : Ref) (width : Option ℕ) (init : Fixed) (e : Expr) → ChangeAdds P (rec_change target width init e)
adds-rec P all target width init e v fs s =
    let at = place target v.known in
    let number = number_after target.name at width e v s in
    let counted = body_made target.name at width e 0 v s in
    let body = body_made target.name at width e number v s in
    let stands = settled counted body in
    let o : Op = op.Rec (constant init v.known) (length s.equations) in
    adds-both P s.equations stands.equations _ (adds-settled P s.equations counted body (adds-body P all v fs target.name at width e 0 s) (adds-body P all v fs target.name at width e number s)) (adds-with P o (stands.given ∷ []) (lawful width) stands.equations (all.others o refl))

adds-turns : (P : Op → Type 0) (k at : ℕ) (f : ℕ → Progress → Progress) → ((at : ℕ) (s : Progress) → Adds P s.equations (f at s).equations) → (s : Progress) → Adds P s.equations (turns k at f s).equations
adds-turns P zero at f each s = adds-nothing P s.equations
adds-turns P (suc k) at f each s = adds-both P s.equations (f at s).equations (turns k (at + 1) f (f at s)).equations (each at s) (adds-turns P k (at + 1) f each (f at s))

abbrev ChangeFact : (Op → Type 0) → StmtFact
ChangeFact P = λ walk mean make past. ChangeAdds P make

abbrev ProvedChange : (Op → Type 0) → Type 0
ProvedChange P = ProvedStmt (ChangeFact P)

adds-in_turn : (P : Op → Type 0) (ss : List (ProvedChange P)) → ChangeAdds P (in_turn (map change_of (map (λ (s : ProvedChange P). s.0) ss)))
adds-in_turn P [] v fs s = adds-nothing P s.equations
adds-in_turn P (c ∷ cs) v fs s =
    let next = change_of c.0 v s in
    adds-both P s.equations next.equations _ (c.1 v fs s) (adds-in_turn P cs v fs next)

-- a loop's index is no function
pub adds-index : (P : Op → Type 0) (index : List ℕ) (at : ℕ) (v : Visible) → AllAdd P v → AllAdd P (with_index index at v)
adds-index P index at v fs = record { at = λ q. callee-static (DoesAdd P) (bytes_eq index q) (static.Index at) (v.known q) (v.functions q) refl (fs.at q) }

adds-statement-layer : (P : Op → Type 0) → Covers P → (y : Stmt-F (ProvedChange P)) → StmtLayer (ChangeFact P) y
adds-statement-layer P all (Stmt-F.Let target width e) v fs s = adds-assigned P all v fs width e s.streams s.equations
adds-statement-layer P all (Stmt-F.Rec target width init e) v fs s = adds-rec P all target width init e v fs s
adds-statement-layer P all (Stmt-F.For index low high body) v fs s =
    let within = in_turn (map change_of (map (λ (s : ProvedChange P). s.0) body.items)) in
    adds-turns P (constant high v.known - constant low v.known) (constant low v.known) (λ at. within (with_index index at v)) (λ at. adds-in_turn P body.items (with_index index at v) (adds-index P index at v fs)) s

pub adds-change : (P : Op → Type 0) → Covers P → (s : Stmt) → ChangeAdds P (change_of s)
adds-change P all = each-statement (ChangeFact P) (adds-statement-layer P all)

pub adds-changes : (P : Op → Type 0) → Covers P → (ss : List Stmt) → ChangeAdds P (changes_of ss)
adds-changes P all [] v fs s = adds-nothing P s.equations
adds-changes P all (c ∷ cs) v fs s = adds-both P s.equations (change_of c v s).equations _ (adds-change P all c v fs s) (adds-changes P all cs v fs (change_of c v s))

-- ---- functions
pub adds-passed : (P : Op → Type 0) → Covers P → (width : Option ℕ) (g : Given) (es : Equations) → Adds P es (passed width g es).equations
adds-passed P all width g es = by_width (lawful width) where
  by_width : (o : Option ℕ) → Adds P es (fitted_to o g es).equations
  by_width None = adds-nothing P es
  by_width (Some w) = adds-with P op.Fit (g ∷ []) (Some w) es (all.others op.Fit refl)

pub adds-arguments : (P : Op → Type 0) → Covers P → (params : List Param) (gs : List Given) (s : Progress) → Adds P s.equations (with_arguments params gs s).equations
adds-arguments P all [] gs s = adds-nothing P s.equations
adds-arguments P all (p ∷ ps) [] s = adds-nothing P s.equations
adds-arguments P all (p ∷ ps) (g ∷ gs) s =
    let next = named p.name None s.streams (passed p.width g s.equations) in
    adds-both P s.equations next.equations _ (adds-passed P all p.width g s.equations) (adds-arguments P all ps gs next)

pub adds-inlined : (P : Op → Type 0) → Covers P → (params : List Param) (width : Option ℕ) (body : List Stmt) (result : Expr) (v : Visible) → AllAdd P v → DoesAdd P (inlined params width body result v)
adds-inlined P all params width body result v fs args es =
    let begin : Progress = record { streams = no_streams; equations = es } in
    let bound = with_arguments params args begin in
    let s = changes_of body v bound in
    adds-both P es s.equations _ (adds-both P es bound.equations s.equations (adds-arguments P all params args begin) (adds-changes P all body v fs bound)) (adds-assigned P all v fs width result s.streams s.equations)

pub adds-signed : (P : Op → Type 0) → DoesAdd P signed_function
adds-signed P [] es = adds-nothing P es
adds-signed P (g ∷ []) es = adds-nothing P es
adds-signed P (g ∷ h ∷ gs) es = adds-nothing P es

-- ---- items
adds-first : (P : Op → Type 0) (b : Bool) → IfSome (cond b (Some signed_function) None) (DoesAdd P)
adds-first P true = adds-signed P
adds-first P false = tt

pub adds-start : (P : Op → Type 0) → AllAdd P start.visible
adds-start P = record { at = λ q. callee-of (DoesAdd P) (built_in q) (cond (bytes_eq (codes "signed") q) (Some signed_function) None) (adds-first P (bytes_eq (codes "signed") q)) }

-- what is visible after an item adds such equations alone
pub adds-visible : (P : Op → Type 0) → Covers P → (at : ℕ) (i : Item) (w : World) → AllAdd P w.visible → AllAdd P (item_change at i w).visible
adds-visible P all at (item.Input name width) w fs = fs
adds-visible P all at (item.Output name width e) w fs = fs
adds-visible P all at (item.Const name value) w fs = record { at = λ q. callee-static (DoesAdd P) (bytes_eq name q) (static.Constant (constant value w.visible.known)) (w.visible.known q) (w.visible.functions q) refl (fs.at q) }
adds-visible P all at (item.Table name values) w fs = record { at = λ q. callee-static (DoesAdd P) (bytes_eq name q) (static.Table (map (λ f. constant f w.visible.known) values.items)) (w.visible.known q) (w.visible.functions q) refl (fs.at q) }
adds-visible P all at (item.Function name params width body result) w fs = record { at = λ q. callee-bound (DoesAdd P) (bytes_eq name q) (function_at at params.items) (w.visible.known q) (inlined params.items width body.items result w.visible) (w.visible.functions q) (adds-inlined P all params.items width body.items result w.visible fs) (fs.at q) }
adds-visible P all at (item.Step stmt) w fs = fs
