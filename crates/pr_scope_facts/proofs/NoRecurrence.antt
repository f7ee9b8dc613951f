-- Where no recurrence is made: the body of a recurrence, and what a function makes that does not look back. There each
-- step of making is also the same whatever number the recurrence has.
use Rattle.std.proofs.Common.{◌≡◌, ◌∙◌, ◌⊎◌, inl, inr, ℕ, zero, suc, ◌+◌, ◌-◌, Bool, true, false, cond, ◌||◌, nat_le, bytes_eq, List, [], ◌∷◌, map, length, Option, Some, None, is_none, option_map, ◌&&◌, Ok, refl, sym, ap, subst, arith}
use Rattle.std.specs.Option.{IfSome}
use Rattle.std.specs.List.{AllByRecursion}
use Rattle.std.proofs.lemmas.List.{length-map}
use Rattle.std.proofs.lemmas.Bool.{or_parts, false≢true, cond-true, le-leb}
use Rattle.pr_lang.specs.declared.trees.BinOp.{BinOp}
use Rattle.pr_lang.specs.declared.trees.BinOp.TheVariants as binary
use Rattle.pr_lang.specs.declared.trees.Param.{Param}
use Rattle.pr_lang.specs.declared.trees.Expr.{Expr}
use Rattle.pr_lang.specs.declared.trees.Expr.TheOpen.{Expr-F}
use Rattle.pr_lang.specs.declared.trees.Stmt.{Stmt}
use Rattle.pr_lang.specs.declared.trees.Stmt.TheOpen.{Stmt-F}
use Rattle.pr_scope_names.specs.declared.counts.Count.{Count}
use Rattle.pr_scope_names.specs.declared.names.Callee.{Callee}
use Rattle.pr_scope_names.specs.declared.names.Static.{Static}
use Rattle.pr_scope_names.specs.declared.names.Static.TheVariants as static
use Rattle.pr_scope.specs.declared.expressions.Scene.{Scene}
use Rattle.pr_scope_names.specs.Names.{Known, Streaming}
use Rattle.pr_scope_names.specs.Amounts.{Amount, amount_of}
use Rattle.pr_scope.specs.Expressions.{walk_of, past_of, pasts_of, is_past}
use Rattle.pr_flat.specs.declared.equations.Operand.{Operand}
use Rattle.pr_flat.specs.declared.equations.Op.{Op}
use Rattle.pr_flat.specs.declared.equations.Op.TheVariants as op
use Rattle.pr_flat.specs.Facts.{is_rec}
use Rattle.pr_lang_meaning.specs.Expressions.{constant_shift, operator}
use Rattle.pr_expand_spec.specs.declared.givens.Given.{Given}
use Rattle.pr_expand_spec.specs.declared.givens.Standing.{Standing}
use Rattle.pr_expand_spec.specs.declared.givens.Standing.TheVariants.{Stream, Own}
use Rattle.pr_expand_spec.specs.Making.{Equations, Expanded, made, lawful, constant}
use Rattle.pr_expand_spec.specs.Expressions.{Streams, Inlined, Visible, ExprPlan, place, referred, earlier, AllExpanded, all_made, apply, combined, concatenated, function_of, called, plan_of, declared_at_operator, declared_else, assigned}
use Rattle.pr_scope.specs.Statements as scope
use Rattle.pr_scope.specs.Statements.{stmt_past_of, stmt_past_step, stmts_past_of}
use Rattle.pr_scope_names.specs.Names.{bind, same_place}
use Rattle.pr_expand_spec.specs.Statements.{Progress, with_standing, named, body_made, number_after, settled, with_index, turns, change_of, changes_of}
use Rattle.pr_expand_spec.specs.Programs.{no_streams, fitted_to, passed, with_arguments, inlined, signed_function}
use Rattle.pr_scope_facts.proofs.Statics.{SameKnown, same-amount, same-index, constant-made}
use Rattle.pr_scope_facts.proofs.InvertedStatements.{AllChange, AllTurns, let-inverted, for-inverted}
use Rattle.pr_scope_facts.proofs.InvertedItems.{CalleeWalk}
use Rattle.pr_scope_facts.proofs.Pasts.{turn-past}
use Rattle.pr_scope_facts.proofs.InvertedExpressions.{ShiftWalk, PairWalk, slice-inverted, binary-inverted, choose-inverted, AllWalk, parts-inverted, call-inverted}
use Rattle.pr_scope_facts.proofs.Inductions.{ExprFact, ProvedExpr, ExprLayer, OfExpr, StmtFact, ProvedStmt, StmtLayer, OfStmt, each-expression, each-statement, plan_amount}
use Rattle.pr_scope_facts.proofs.FlatStates.{is_delay}
use Rattle.pr_scope_facts.proofs.Adding.{Adds, AddsIf, PlanAdds, IsShift, adds-any, adds-apply, adds-both, adds-concatenated, adds-declared, adds-delayed, adds-else, adds-nothing, adds-weaker, adds-with, callee-known, each-more, shift-is}
use Rattle.pr_scope_facts.proofs.Numbering.{blank_equation, blank_given, blanked, blank_made, blank_all, blank_standing, blank_streams, blank-with, blank-declared, blank-else, blank-apply, blank-concatenated, IsStill, blank-delayed, blank-own}

-- ---- operations that are no recurrences
pub not-rec : (o : BinOp) → is_rec (operator o) ≡ false
not-rec binary.Add = refl
not-rec o = refl

no-delay : (o : BinOp) → is_delay (operator o) ≡ false
no-delay binary.Add = refl
no-delay o = refl

shift-no-delay : (o : Op) → IsShift o → is_delay o ≡ false
shift-no-delay (op.Left k) shift = refl
shift-no-delay (op.Right k) shift = refl
shift-no-delay o shift = absurd shift

shift-not-rec : (o : Op) → IsShift o → is_rec o ≡ false
shift-not-rec (op.Left k) shift = refl
shift-not-rec (op.Right k) shift = refl
shift-not-rec o shift = absurd shift

-- ---- equations more, none of them a recurrence, nor a delay where none may be made
abbrev pub IsCalmOp : Bool → Op → Type 0
IsCalmOp delays o = (is_rec o ≡ false) × (delays ≡ false → is_delay o ≡ false)

abbrev pub NoRec : Bool → Equations → Equations → Type 0
NoRec delays old new = Adds (IsCalmOp delays) old new

-- ---- two runs: the second one over blank equations
-- the second is the first, but for the recurrence's number; and the first makes no recurrence
pub record Quiet (delays : Bool) (es : Equations) (m n : Expanded) : Type 0 where
  pub same : blank_made m ≡ n
  pub calm : NoRec delays es m.equations

record QuietIf (delays : Bool) (operates : Bool) (es : Equations) (m n : Expanded) : Type 0 where
  same : blank_made m ≡ n
  calm : AddsIf (IsCalmOp delays) operates es m

record QuietAll (delays : Bool) (es : Equations) (a b : AllExpanded) : Type 0 where
  same : blank_all a ≡ b
  calm : NoRec delays es a.equations

-- a function that does not look back
pub record IsCalm (f : Inlined) : Type 0 where
  pub at : (args : List Given) (es : Equations) → Quiet false es (f args es) (f (map blank_given args) (blanked es))

-- the functions that do not look back, as the walk knows them
pub record Calm (known : Known) (v : Visible) : Type 0 where
  pub same : SameKnown known v.known
  pub at : (name : List ℕ) → is_past (known name) ≡ false → IfSome (function_of (v.known name) (v.functions name)) IsCalm

abbrev pub StandsStill : Standing → Type 0
StandsStill (Stream g c) = IsStill g.operand
StandsStill (Own r) = Unit {0}

-- no name stands for a past
abbrev pub AreStill : Streams → Type 0
AreStill env = (name : List ℕ) (at : Option ℕ) → IfSome (env name at) StandsStill

-- a text that does not look back, or the body of a recurrence
abbrev pub Permits : Bool → Bool → Scene → Streams → Type 0
Permits delays past scene env = (past ≡ false) ⊎ ((delays ≡ true) × (is_none scene.own ≡ false) × AreStill env)

permits-left : (delays : Bool) (a b : Bool) (scene : Scene) (env : Streams) → Permits delays (a || b) scene env → Permits delays a scene env
permits-left delays a b scene env (inl none) = inl (or_parts a b none).0
permits-left delays a b scene env (inr body) = inr body

permits-right : (delays : Bool) (a b : Bool) (scene : Scene) (env : Streams) → Permits delays (a || b) scene env → Permits delays b scene env
permits-right delays a b scene env (inl none) = inl (or_parts a b none).1
permits-right delays a b scene env (inr body) = inr body

abbrev PlanQuiet : Bool → Visible → Streams → ExprPlan → Type 0
PlanQuiet delays v env p = (es : Equations) → QuietIf delays p.is_operator es (p.making v env es) (p.making v (blank_streams env) (blanked es))

quiet-parts : (delays : Bool) (v : Visible) (env : Streams) (ps : List ExprPlan) → AllByRecursion (PlanQuiet delays v env) ps → (es : Equations) → QuietAll delays es (all_made ps v env es) (all_made ps v (blank_streams env) (blanked es))
quiet-parts delays v env [] all es = record { same = refl; calm = adds-nothing (IsCalmOp delays) es }
quiet-parts delays v env (p ∷ ps) all es =
    let first = p.making v env es in
    let one = all.0 es in
    let rest = quiet-parts delays v env ps all.1 first.equations in
    let again : Expanded → AllExpanded = λ m. all_made ps v (blank_streams env) m.equations in
    let joined : Expanded → AllExpanded = λ m. record { equations = (again m).equations; given = m.given ∷ (again m).given } in
    record {
      same = ap (λ (a : AllExpanded). record { equations = a.equations; given = blank_given first.given ∷ a.given }) rest.same ∙ ap joined one.same;
      calm = adds-both (IsCalmOp delays) es first.equations (all_made ps v env first.equations).equations (adds-any (IsCalmOp delays) p.is_operator es first one.calm) rest.calm;
    }

quiet-apply : (delays : Bool) (o : Op) (es : Equations) (a b : AllExpanded) → IsCalmOp delays o → QuietAll delays es a b → QuietIf delays true es (apply o a) (apply o b)
quiet-apply delays o es a b plain quiet = record { same = blank-apply o a ∙ ap (apply o) quiet.same; calm = adds-apply (IsCalmOp delays) o es a plain quiet.calm }

quiet-combined : (delays : Bool) (v : Visible) (env : Streams) (o : BinOp) (shift : Option Op) (a b : ExprPlan) → IfSome shift IsShift → PlanQuiet delays v env a → (shift ≡ None → PlanQuiet delays v env b) → (es : Equations) → QuietIf delays true es (combined o shift a b v env es) (combined o shift a b v (blank_streams env) (blanked es))
quiet-combined delays v env o (Some shift) a b is one two es = quiet-apply delays shift es (all_made (a ∷ []) v env es) (all_made (a ∷ []) v (blank_streams env) (blanked es)) (shift-not-rec shift is, λ no. shift-no-delay shift is) (quiet-parts delays v env (a ∷ []) (one, tt) es)
quiet-combined delays v env o None a b is one two es = quiet-apply delays (operator o) es (all_made (a ∷ b ∷ []) v env es) (all_made (a ∷ b ∷ []) v (blank_streams env) (blanked es)) (not-rec o, λ no. no-delay o) (quiet-parts delays v env (a ∷ b ∷ []) (one, (two refl, tt)) es)

-- ---- names
quiet-referred : (delays : Bool) (s : Option Static) (at : Option ℕ) (standing : Option Standing) (es : Equations) → QuietIf delays false es (referred s at standing es) (referred s at (option_map blank_standing standing) (blanked es))
quiet-referred delays (Some s) at standing es = record { same = refl; calm = adds-nothing (IsCalmOp delays) es }
quiet-referred delays None at (Some (Stream g c)) es = record { same = refl; calm = adds-nothing (IsCalmOp delays) es }
quiet-referred delays None at (Some (Own r)) es = record { same = refl; calm = adds-nothing (IsCalmOp delays) es }
quiet-referred delays None at None es = record { same = refl; calm = adds-nothing (IsCalmOp delays) es }

quiet-earlier : (delays : Bool) → delays ≡ true → (k : ℕ) (standing : Option Standing) (es : Equations) → IfSome standing StandsStill → QuietIf delays false es (earlier k standing es) (earlier k (option_map blank_standing standing) (blanked es))
quiet-earlier delays may k (Some (Stream g c)) es still = record { same = blank-delayed k g c es still; calm = adds-delayed (IsCalmOp delays) c (refl, λ is. absurd (false≢true (sym is ∙ may))) k g es }
quiet-earlier delays may k (Some (Own r)) es still = record { same = ap (λ (q : Operand). made (blanked es) q false) (blank-own r k); calm = adds-nothing (IsCalmOp delays) es }
quiet-earlier delays may k None es still = record { same = refl; calm = adds-nothing (IsCalmOp delays) es }

-- ---- parts beside one another
parts-calm : (delays : Bool) (v : Visible) (env : Streams) (p : ExprPlan) → PlanQuiet delays v env p → PlanAdds (IsCalmOp delays) v env p
parts-calm delays v env p quiet es = (quiet es).calm

quiet-concatenated : (delays : Bool) (v : Visible) (env : Streams) (ps : List ExprPlan) → AllByRecursion (PlanQuiet delays v env) ps → (es : Equations) → QuietIf delays (nat_le 2 (length ps)) es (concatenated (all_made ps v env es).given (all_made ps v env es).equations) (concatenated (all_made ps v (blank_streams env) (blanked es)).given (all_made ps v (blank_streams env) (blanked es)).equations)
quiet-concatenated delays v env ps all es =
    let a = all_made ps v env es in
    record { same = blank-concatenated a.given a.equations ∙ ap (λ (b : AllExpanded). concatenated b.given b.equations) (quiet-parts delays v env ps all es).same; calm = adds-concatenated (IsCalmOp delays) (refl, λ is. refl) v env ps (each-more (PlanQuiet delays v env) (PlanAdds (IsCalmOp delays) v env) (parts-calm delays v env) ps all) es }

-- ---- calls
quiet-called : (delays : Bool) (f : Option Inlined) → IfSome f IsCalm → (es : Equations) (a b : AllExpanded) → QuietAll delays es a b → QuietIf delays false es (called f a) (called f b)
quiet-called delays None calm es a b quiet = record { same = ap (λ (x : AllExpanded). made x.equations (Operand.Const 0) false) quiet.same; calm = quiet.calm }
quiet-called delays (Some f) calm es a b quiet =
    let does = calm.at a.given a.equations in
    record { same = does.same ∙ ap (λ (x : AllExpanded). f x.given x.equations) quiet.same; calm = adds-both (IsCalmOp delays) es a.equations (f a.given a.equations).equations quiet.calm (adds-weaker (IsCalmOp false) (IsCalmOp delays) (λ o plain. (plain.0, λ is. plain.1 refl)) a.equations (f a.given a.equations).equations does.calm) }

-- ---- expressions
-- an operator on two streams has walked over both
pub second-walk : (known seen : Known) → SameKnown known seen → (o : BinOp) (b : Expr) (streams : Streaming) (scene : Scene) (c d : Count) → ShiftWalk o b known ⊎ PairWalk o b known streams scene c d → constant_shift o ((plan_of b).amount seen) ≡ None → walk_of b known streams scene c ≡ Ok d
second-walk known seen same o b streams scene c d (inr pair) none = pair.part
second-walk known seen same o b streams scene c d (inl shift) none =
    let is : constant_shift o (amount_of b known) ≡ None = ap (constant_shift o) (sym (same-amount known seen same b) ∙ ap (λ (f : Amount). f seen) (sym (plan_amount b))) ∙ none in
    absurd (let both : Some shift.shift ≡ None = sym shift.shift_is ∙ is in cc)

abbrev QuietFact : Bool → Known → Visible → ExprFact
QuietFact delays known v = λ walk mean plan past. (env : Streams) (streams : Streaming) (scene : Scene) (c d : Count) → walk.walk known streams scene c ≡ Ok d → Permits delays (past known) scene env → PlanQuiet delays v env plan

abbrev Proved : Bool → Known → Visible → Type 0
Proved delays known v = ProvedExpr (QuietFact delays known v)

quiet-each : (delays : Bool) (known : Known) (v : Visible) (es : List (Proved delays known v)) (env : Streams) (streams : Streaming) (scene : Scene) (c d : Count) → AllWalk (map (λ (p : Proved delays known v). p.0) es) known streams scene c d → Permits delays (pasts_of (map past_of (map (λ (p : Proved delays known v). p.0) es)) known) scene env → AllByRecursion (PlanQuiet delays v env) (map plan_of (map (λ (p : Proved delays known v). p.0) es))
quiet-each delays known v [] env streams scene c d walk permits = tt
quiet-each delays known v (e ∷ es) env streams scene c d walk permits =
    let past = past_of e.0 known in
    let pasts = pasts_of (map past_of (map (λ (p : Proved delays known v). p.0) es)) known in
    (e.1 env streams scene c walk.0 walk.1 (permits-left delays past pasts scene env permits), quiet-each delays known v es env streams scene walk.0 d walk.2 (permits-right delays past pasts scene env permits))

still-of : (delays : Bool) (scene : Scene) (env : Streams) → Permits delays true scene env → (delays ≡ true) × AreStill env
still-of delays scene env (inl none) = absurd (false≢true (sym none))
still-of delays scene env (inr body) = (body.0, body.2)

calm-of : (delays : Bool) (scene : Scene) (env : Streams) (f : Callee) (rest : Bool) → Permits delays (f.past || rest) scene env → (is_none scene.own ≡ false → f.past ≡ false) → f.past ≡ false
calm-of delays scene env f rest (inl none) may = (or_parts f.past rest none).0
calm-of delays scene env f rest (inr body) may = may body.1

quiet-layer : (delays : Bool) (known : Known) (v : Visible) → Calm known v → (y : Expr-F (Proved delays known v)) → ExprLayer (QuietFact delays known v) y
quiet-layer delays known v calm (Expr-F.Number n) env streams scene c d walk permits es = record { same = refl; calm = adds-nothing (IsCalmOp delays) es }
quiet-layer delays known v calm (Expr-F.Refer r) env streams scene c d walk permits es = quiet-referred delays (v.known r.name) (place r v.known) (env r.name (place r v.known)) es
quiet-layer delays known v calm (Expr-F.Delay r k) env streams scene c d walk permits es = let may = still-of delays scene env permits in quiet-earlier delays may.0 (constant k v.known) (env r.name (place r v.known)) es (may.1 r.name (place r v.known))
quiet-layer delays known v calm (Expr-F.Slice e high low) env streams scene c d walk permits es =
    let w = slice-inverted e.value.0 high low known streams scene c d walk in
    let one = e.value.1 env streams scene c d w.part permits in
    quiet-apply delays (op.Slice (constant high v.known) (constant low v.known)) es (all_made (plan_of e.value.0 ∷ []) v env es) _ (refl, λ no. refl) (quiet-parts delays v env (plan_of e.value.0 ∷ []) (one, tt) es)
quiet-layer delays known v calm (Expr-F.Not e) env streams scene c d walk permits es =
    let one = e.value.1 env streams scene c d walk permits in
    quiet-apply delays op.Not es (all_made (plan_of e.value.0 ∷ []) v env es) _ (refl, λ no. refl) (quiet-parts delays v env (plan_of e.value.0 ∷ []) (one, tt) es)
quiet-layer delays known v calm (Expr-F.Binary o a b) env streams scene c d walk permits es =
    let w = binary-inverted o a.value.0 b.value.0 known streams scene c d walk in
    let left = past_of a.value.0 known in
    let right = past_of b.value.0 known in
    let shift = constant_shift o ((plan_of b.value.0).amount v.known) in
    quiet-combined delays v env o shift (plan_of a.value.0) (plan_of b.value.0) (shift-is o ((plan_of b.value.0).amount v.known)) (a.value.1 env streams scene c w.between w.first (permits-left delays left right scene env permits)) (λ none. b.value.1 env streams scene w.between d (second-walk known v.known calm.same o b.value.0 streams scene w.between d w.rest none) (permits-right delays left right scene env permits)) es
quiet-layer delays known v calm (Expr-F.Choose e a b) env streams scene c d walk permits es =
    let w = choose-inverted e.value.0 a.value.0 b.value.0 known streams scene c d walk in
    let test = past_of e.value.0 known in
    let left = past_of a.value.0 known in
    let right = past_of b.value.0 known in
    let both = permits-left delays (test || left) right scene env permits in
    let one = e.value.1 env streams scene c w.after_test w.test (permits-left delays test left scene env both) in
    let two = a.value.1 env streams scene w.after_test w.after_first w.first (permits-right delays test left scene env both) in
    let three = b.value.1 env streams scene w.after_first d w.other (permits-right delays (test || left) right scene env permits) in
    quiet-apply delays op.Choose es (all_made (plan_of e.value.0 ∷ plan_of a.value.0 ∷ plan_of b.value.0 ∷ []) v env es) _ (refl, λ no. refl) (quiet-parts delays v env (plan_of e.value.0 ∷ plan_of a.value.0 ∷ plan_of b.value.0 ∷ []) (one, (two, (three, tt))) es)
quiet-layer delays known v calm (Expr-F.Call name args) env streams scene c d walk permits es =
    let exprs = map (λ (p : Proved delays known v). p.0) args.items in
    let w = call-inverted name exprs known streams scene c d walk in
    let pasts = pasts_of (map past_of exprs) known in
    let callee : is_past (known name) ≡ w.callee.past = ap is_past w.is in
    let known_past : Permits delays (w.callee.past || pasts) scene env = subst (λ b. Permits delays (b || pasts) scene env) callee permits in
    let none : is_past (known name) ≡ false = callee ∙ calm-of delays scene env w.callee pasts known_past w.may.calm in
    quiet-called delays (function_of (v.known name) (v.functions name)) (calm.at name none) es (all_made (map plan_of exprs) v env es) _ (quiet-parts delays v env (map plan_of exprs) (quiet-each delays known v args.items env streams scene c w.between w.parts (permits-right delays (is_past (known name)) pasts scene env permits)) es)
quiet-layer delays known v calm (Expr-F.Cat parts) env streams scene c d walk permits es =
    let exprs = map (λ (p : Proved delays known v). p.0) parts.items in
    quiet-concatenated delays v env (map plan_of exprs) (quiet-each delays known v parts.items env streams scene c d (parts-inverted exprs known streams scene c d walk) permits) es
quiet-layer delays known v calm (Expr-F.Paren e) env streams scene c d walk permits es = e.value.1 env streams scene c d walk permits es

quiet-if : (delays : Bool) (known : Known) (v : Visible) → Calm known v → (e : Expr) → OfExpr (QuietFact delays known v) e
quiet-if delays known v calm = each-expression (QuietFact delays known v) (quiet-layer delays known v calm)

-- where an expression does not look back, or is the body of a recurrence, it makes no recurrence, and the number of the
-- recurrence changes nothing else
pub quiet-making : (delays : Bool) (known : Known) (v : Visible) → Calm known v → (e : Expr) (env : Streams) (streams : Streaming) (scene : Scene) (c d : Count) → walk_of e known streams scene c ≡ Ok d → Permits delays (past_of e known) scene env → (es : Equations) → Quiet delays es ((plan_of e).making v env es) ((plan_of e).making v (blank_streams env) (blanked es))
quiet-making delays known v calm e env streams scene c d walk permits es =
    let q = quiet-if delays known v calm e env streams scene c d walk permits es in
    record { same = q.same; calm = adds-any (IsCalmOp delays) (plan_of e).is_operator es ((plan_of e).making v env es) q.calm }

-- ---- what is assigned
pub quiet-assigned : (delays : Bool) (known : Known) (v : Visible) → Calm known v → (width : Option ℕ) (e : Expr) (env : Streams) (streams : Streaming) (scene : Scene) (c d : Count) → walk_of e known streams scene c ≡ Ok d → Permits delays (past_of e known) scene env → (es : Equations) → Quiet delays es (assigned width e v env es) (assigned width e v (blank_streams env) (blanked es))
quiet-assigned delays known v calm width e env streams scene c d walk permits es =
    let q = quiet-if delays known v calm e env streams scene c d walk permits es in
    let b = (plan_of e).is_operator in
    let m = (plan_of e).making v env es in
    let w = lawful width in
    record {
      same = blank-else b w (declared_at_operator b w m) ∙ ap (declared_else b w) (blank-declared b w m ∙ ap (declared_at_operator b w) q.same);
      calm = adds-else (IsCalmOp delays) (refl, λ is. refl) b w es (declared_at_operator b w m) (adds-declared (IsCalmOp delays) b w es m q.calm);
    }

blank-standing : (name : List ℕ) (at : Option ℕ) (s : Standing) (env : Streams) → blank_streams (with_standing name at s env) ≡ with_standing name at (blank_standing s) (blank_streams env)
blank-standing name at s env i q r = choice (bytes_eq name q && same_place at r) (env q r) i where
  choice : (b : Bool) (o : Option Standing) → option_map blank_standing (cond b (Some s) o) ≡ cond b (Some (blank_standing s)) (option_map blank_standing o)
  choice true o = refl
  choice false o = refl

-- the body of a recurrence makes no recurrence, and the recurrence's number changes nothing else in it
pub record QuietBody (name : List ℕ) (at width : Option ℕ) (e : Expr) (v : Visible) (s : Progress) : Type 0 where
  pub calm : (number : ℕ) → NoRec true s.equations (body_made name at width e number v s).equations
  pub number : (number : ℕ) → length (body_made name at width e number v s).equations ≡ number_after name at width e v s

-- so the body stands that is made under the recurrence's number
pub settled-is : (counted body : Expanded) → length body.equations ≡ length counted.equations → settled counted body ≡ body
settled-is counted body same = cond-true (nat_le (length counted.equations) (length body.equations)) body counted (le-leb (length counted.equations) (length body.equations) (omega (arith, same)))

-- what holds of all that names stand for, and of one standing more
pub each-standing : (P : Standing → Type 0) (name : List ℕ) (at : Option ℕ) (x : Standing) (env : Streams) → P x → ((q : List ℕ) (r : Option ℕ) → IfSome (env q r) P) → (q : List ℕ) (r : Option ℕ) → IfSome (with_standing name at x env q r) P
each-standing P name at x env new old q r = choice (bytes_eq name q && same_place at r) (env q r) (old q r) where
  choice : (b : Bool) (o : Option Standing) → IfSome o P → IfSome (cond b (Some x) o) P
  choice true o is = new
  choice false o is = is

pub quiet-body : (known : Known) (v : Visible) → Calm known v → (name : List ℕ) (at width : Option ℕ) (e : Expr) (s : Progress) (streams : Streaming) (scene : Scene) (c d : Count) → walk_of e known streams scene c ≡ Ok d → is_none scene.own ≡ false → AreStill s.streams → QuietBody name at width e v s
quiet-body known v calm name at width e s streams scene c d walk own still =
    let b = (plan_of e).is_operator in
    let w = lawful width in
    let env : ℕ → Streams = λ number. with_standing name at (Own number) s.streams in
    let q : (number : ℕ) → QuietIf true b s.equations ((plan_of e).making v (env number) s.equations) ((plan_of e).making v (blank_streams (env number)) (blanked s.equations)) = λ number. quiet-if true known v calm e (env number) streams scene c d walk (inr (refl, own, each-standing StandsStill name at (Own number) s.streams tt still)) s.equations in
    let blank_body : Expanded = declared_at_operator b w ((plan_of e).making v (with_standing name at (Own 0) (blank_streams s.streams)) (blanked s.equations)) in
    let same : (number : ℕ) → blank_made (body_made name at width e number v s) ≡ blank_body = λ number. blank-declared b w ((plan_of e).making v (env number) s.equations) ∙ ap (declared_at_operator b w) ((q number).same ∙ ap (λ (x : Streams). (plan_of e).making v x (blanked s.equations)) (blank-standing name at (Own number) s.streams)) in
    let size : (number : ℕ) → length (body_made name at width e number v s).equations ≡ length blank_body.equations = λ number. sym (length-map (body_made name at width e number v s).equations blank_equation) ∙ ap (λ (m : Expanded). length m.equations) (same number) in
    record { calm = λ number. adds-declared (IsCalmOp true) b w s.equations ((plan_of e).making v (env number) s.equations) (q number).calm; number = λ number. size number ∙ sym (size 0) }

-- ---- statements
abbrev pub blank_progress : Progress → Progress
blank_progress s = record { streams = blank_streams s.streams; equations = blanked s.equations }

-- the second is the first, but for the recurrence's number; and the first makes no recurrence
record QuietChange (s t u : Progress) : Type 0 where
  same : blank_progress t ≡ u
  calm : NoRec false s.equations t.equations

quiet-named : (name : List ℕ) (at : Option ℕ) (env : Streams) (es : Equations) (m n : Expanded) → Quiet false es m n → QuietChange (record { streams = env; equations = es }) (named name at env m) (named name at (blank_streams env) n)
quiet-named name at env es m n q = record {
  same = (λ i. record { streams = blank-standing name at (Stream m.given 0) env i; equations = blanked m.equations }) ∙ ap (named name at (blank_streams env)) q.same;
  calm = q.calm;
}

quiet-both : (s t : Progress) (f g : Progress → Progress) (u : Progress) → QuietChange s t u → QuietChange t (f t) (g (blank_progress t)) → QuietChange s (f t) (g u)
quiet-both s t f g u one two = record { same = two.same ∙ ap g one.same; calm = adds-both (IsCalmOp false) s.equations t.equations (f t).equations one.calm two.calm }

calm-index : (known : Known) (v : Visible) (index : List ℕ) (at : ℕ) → Calm known v → Calm (bind index (static.Index at) known) (with_index index at v)
calm-index known v index at calm = record {
  same = same-index known v.known calm.same index at;
  at = λ q. choice (bytes_eq index q) (known q) (v.known q) (v.functions q) (calm.at q);
} where
  choice : (b : Bool) (o p : Option Static) (f : Option Inlined) → (is_past o ≡ false → IfSome (function_of p f) IsCalm) → is_past (cond b (Some (static.Index at)) o) ≡ false → IfSome (function_of (cond b (Some (static.Index at)) p) f) IsCalm
  choice true o p f old none = tt
  choice false o p f old none = old none

abbrev QuietStatement : StmtFact
QuietStatement = λ walk mean make past. (known : Known) (v : Visible) → Calm known v → (inside : Bool) (a b : scope.Progress) → walk known inside a ≡ Ok b → past known ≡ false → (s : Progress) → QuietChange s (make v s) (make v (blank_progress s))

abbrev QuietChanges : List Stmt → Type 0
QuietChanges xs = (known : Known) (v : Visible) → Calm known v → (inside : Bool) (a b : scope.Progress) → AllChange xs known inside a b → stmts_past_of xs known ≡ false → (s : Progress) → QuietChange s (changes_of xs v s) (changes_of xs v (blank_progress s))

abbrev ProvedStatement : Type 0
ProvedStatement = ProvedStmt QuietStatement

quiet-in_turn : (xs : List ProvedStatement) → QuietChanges (map (λ (x : ProvedStatement). x.0) xs)
quiet-in_turn [] known v calm inside a b walk past s = record { same = refl; calm = adds-nothing (IsCalmOp false) s.equations }
quiet-in_turn (x ∷ xs) known v calm inside a b walk past s =
    let rest = map (λ (y : ProvedStatement). y.0) xs in
    let parts = or_parts (stmt_past_of x.0 known) (stmts_past_of rest known) past in
    let t = change_of x.0 v s in
    quiet-both s t (changes_of rest v) (changes_of rest v) (change_of x.0 v (blank_progress s)) (x.1 known v calm inside a walk.0 walk.1 parts.0 s) (quiet-in_turn xs known v calm inside walk.0 b walk.2 parts.1 t)

quiet-turns : (xs : List ProvedStatement) (index : List ℕ) (known : Known) (v : Visible) → Calm known v → ((at : ℕ) → stmts_past_of (map (λ (x : ProvedStatement). x.0) xs) (bind index (static.Index at) known) ≡ false) → (k at : ℕ) (inside : Bool) (a b : scope.Progress) → AllTurns k at index (map (λ (x : ProvedStatement). x.0) xs) known inside a b → (s : Progress) → QuietChange s (turns k at (λ n. changes_of (map (λ (x : ProvedStatement). x.0) xs) (with_index index n v)) s) (turns k at (λ n. changes_of (map (λ (x : ProvedStatement). x.0) xs) (with_index index n v)) (blank_progress s))
quiet-turns xs index known v calm past zero at inside a b walk s = record { same = refl; calm = adds-nothing (IsCalmOp false) s.equations }
quiet-turns xs index known v calm past (suc k) at inside a b walk s =
    let f : ℕ → Progress → Progress = λ n. changes_of (map (λ (x : ProvedStatement). x.0) xs) (with_index index n v) in
    quiet-both s (f at s) (turns k (at + 1) f) (turns k (at + 1) f) (f at (blank_progress s)) (quiet-in_turn xs (bind index (static.Index at) known) (with_index index at v) (calm-index known v index at calm) inside (record { streams = a.streams; count = walk.0 }) walk.1 walk.2 (past at) s) (quiet-turns xs index known v calm past k (at + 1) inside walk.1 b walk.3 (f at s))

quiet-statement-layer : (y : Stmt-F ProvedStatement) → StmtLayer QuietStatement y
quiet-statement-layer (Stmt-F.Let target width e) known v calm inside a b walk past s =
    let w = let-inverted target width e known inside a b walk in
    quiet-named target.name (place target v.known) s.streams s.equations (assigned width e v s.streams s.equations) (assigned width e v (blank_streams s.streams) (blanked s.equations)) (quiet-assigned false known v calm width e s.streams a.streams (record { own = None; inside = inside }) w.begin b.count w.walk (inl past) s.equations)
quiet-statement-layer (Stmt-F.Rec target width init e) known v calm inside a b walk past s = absurd (false≢true (sym past))
quiet-statement-layer (Stmt-F.For index low high body) known v calm inside a b walk past s =
    let stmts = map (λ (x : ProvedStatement). x.0) body.items in
    let w = for-inverted index low high stmts known inside a b walk in
    let from : constant low v.known ≡ w.from = constant-made known v.known calm.same low w.from w.low_is in
    let to : constant high v.known ≡ w.to = constant-made known v.known calm.same high w.to w.high_is in
    let f : ℕ → Progress → Progress = λ n. changes_of stmts (with_index index n v) in
    let goal : QuietChange s (turns (w.to - w.from) w.from f s) (turns (w.to - w.from) w.from f (blank_progress s)) = quiet-turns body.items index known v calm (λ at. turn-past stmts known index at w.unknown ∙ past) (w.to - w.from) w.from inside (record { streams = a.streams; count = w.begin }) b w.turns s in
    subst (λ (n : ℕ). QuietChange s (turns (constant high v.known - n) n f s) (turns (constant high v.known - n) n f (blank_progress s))) (sym from) (subst (λ (n : ℕ). QuietChange s (turns (n - w.from) w.from f s) (turns (n - w.from) w.from f (blank_progress s))) (sym to) goal)

quiet-statement : (x : Stmt) → OfStmt QuietStatement x
quiet-statement = each-statement QuietStatement quiet-statement-layer

-- statements that do not look back
quiet-changes : (xs : List Stmt) → QuietChanges xs
quiet-changes [] known v calm inside a b walk past s = record { same = refl; calm = adds-nothing (IsCalmOp false) s.equations }
quiet-changes (x ∷ xs) known v calm inside a b walk past s =
    let parts = or_parts (stmt_past_of x known) (stmts_past_of xs known) past in
    quiet-both s (change_of x v s) (changes_of xs v) (changes_of xs v) (change_of x v (blank_progress s)) (quiet-statement x known v calm inside a walk.0 walk.1 parts.0 s) (quiet-changes xs known v calm inside walk.0 b walk.2 parts.1 (change_of x v s))

-- ---- functions
quiet-passed : (width : Option ℕ) (g : Given) (es : Equations) → Quiet false es (passed width g es) (passed width (blank_given g) (blanked es))
quiet-passed width g es = by_width (lawful width) where
  by_width : (o : Option ℕ) → Quiet false es (fitted_to o g es) (fitted_to o (blank_given g) (blanked es))
  by_width None = record { same = refl; calm = adds-nothing (IsCalmOp false) es }
  by_width (Some w) = record { same = blank-with op.Fit (g ∷ []) (Some w) es; calm = adds-with (IsCalmOp false) op.Fit (g ∷ []) (Some w) es (refl, λ is. refl) }

quiet-arguments : (params : List Param) (gs : List Given) (s : Progress) → QuietChange s (with_arguments params gs s) (with_arguments params (map blank_given gs) (blank_progress s))
quiet-arguments [] gs s = record { same = refl; calm = adds-nothing (IsCalmOp false) s.equations }
quiet-arguments (p ∷ ps) [] s = record { same = refl; calm = adds-nothing (IsCalmOp false) s.equations }
quiet-arguments (p ∷ ps) (g ∷ gs) s =
    let t = named p.name None s.streams (passed p.width g s.equations) in
    quiet-both s t (with_arguments ps gs) (with_arguments ps (map blank_given gs)) (named p.name None (blank_streams s.streams) (passed p.width (blank_given g) (blanked s.equations))) (quiet-named p.name None s.streams s.equations (passed p.width g s.equations) (passed p.width (blank_given g) (blanked s.equations)) (quiet-passed p.width g s.equations)) (quiet-arguments ps gs t)

-- a function whose text does not look back
pub calm-function : (known : Known) (v : Visible) → Calm known v → (at : ℕ) (params : List Param) (width : Option ℕ) (body : List Stmt) (result : Expr) (f : Callee) → CalleeWalk at params width body result known f → f.past ≡ false → IsCalm (inlined params width body result v)
calm-function known v calm at params width body result f walk past =
    let parts = or_parts (stmts_past_of body known) (past_of result known) (sym walk.past ∙ past) in
    let run : List Given → Progress → Progress = λ args s. changes_of body v (with_arguments params args s) in
    let give : Progress → Expanded = λ s. assigned width result v s.streams s.equations in
    record {
      at = λ args es.
          let s : Progress = record { streams = no_streams; equations = es } in
          let q : QuietChange s (run args s) (run (map blank_given args) (blank_progress s)) = quiet-both s (with_arguments params args s) (changes_of body v) (changes_of body v) (with_arguments params (map blank_given args) (blank_progress s)) (quiet-arguments params args s) (quiet-changes body known v calm true (record { streams = walk.locals; count = walk.begin }) walk.between walk.changes parts.0 (with_arguments params args s)) in
          let last : Quiet false (run args s).equations (give (run args s)) (give (blank_progress (run args s))) = quiet-assigned false known v calm width result (run args s).streams walk.between.streams (record { own = None; inside = true }) walk.between.count walk.last walk.walk (inl parts.1) (run args s).equations in
          record { same = last.same ∙ ap give q.same; calm = adds-both (IsCalmOp false) es (run args s).equations (give (run args s)).equations q.calm last.calm };
    }

pub calm-signed : IsCalm signed_function
calm-signed = record { at = gives } where
  gives : (args : List Given) (es : Equations) → Quiet false es (signed_function args es) (signed_function (map blank_given args) (blanked es))
  gives [] es = record { same = refl; calm = adds-nothing (IsCalmOp false) es }
  gives (g ∷ []) es = record { same = refl; calm = adds-nothing (IsCalmOp false) es }
  gives (g ∷ h ∷ gs) es = record { same = refl; calm = adds-nothing (IsCalmOp false) es }

-- ---- what is visible
-- the walk's names, where each function that does not look back is calm
pub calm-visible : (known : Known) (v : Visible) → SameKnown known v.known → ((name : List ℕ) (f : Callee) → known name ≡ Some (static.Function f) → f.past ≡ false → IfSome (v.functions name) IsCalm) → Calm known v
calm-visible known v same each = record { same = same; at = λ q none. callee-known IsCalm (known q) (v.known q) (v.functions q) (same.at q) (λ c is. each q c is (sym (ap is_past is) ∙ none)) }
