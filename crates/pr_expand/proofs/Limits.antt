-- What stops the making of a part stops the making of the whole, since making only appends.
use Rattle.std.proofs.Common.{◌≡◌, ◌∙◌, ◌<◌, ◌≤◌, ℕ, zero, suc, ◌+◌, ◌-◌, Bool, true, false, List, [], ◌∷◌, ◌++◌, length, drop, get_or, map, Option, Some, None, Result, IfErr, IsErrAnd, Vec, Global, refl, sym, ap, subst, arith}
use Rattle.std.specs.Option.{IfSome}
use Rattle.std.proofs.lemmas.List.{at_drop_more}
use Rattle.std.proofs.lemmas.Result.{err_from_is_err_and}
use Rattle.pr_lang.specs.declared.trees.Param.{Param}
use Rattle.pr_lang.specs.declared.trees.Stmt.{Stmt}
use Rattle.pr_lang.specs.declared.trees.Item.{Item}
use Rattle.pr_lang.specs.declared.trees.Item.TheVariants as item
use Rattle.pr_lang.specs.declared.trees.Expr.{Expr}
use Rattle.pr_lang.specs.declared.trees.Expr.TheVariants.{Call, Cat}
use Rattle.pr_flat.specs.declared.equations.Op.TheVariants as op
use Rattle.pr_flat.specs.declared.equations.Operand.{Operand}
use Rattle.pr_expand_spec.specs.declared.givens.Given.{Given}
use Rattle.pr_expand_spec.specs.Making.{Equations, Expanded, declare_last, delayed, delayed_once, lawful, made, with_equation}
use Rattle.pr_expand_spec.specs.Expressions.{AllExpanded, Inlined, Streams, Visible, all_made, assigned, beside, called, concatenated, declared_at_operator, declared_else, function_of, plan_of}
use Rattle.pr_expand_spec.specs.Statements.{Progress, change_of, changes_of, named, turns, with_index}
use Rattle.pr_expand_spec.specs.Programs.{World, item_change, items_change, no_streams, passed, with_arguments}
use Rattle.pr_scope_facts.proofs.Appending.{AllAppend, Appends, DoesAppend, append-index, appends-both, appends-length, appends-nothing, appends-with, arguments-append, assigned-appends, changes-append, delayed-appends, items-append, making-appends, visible-appends}
use Rattle.pr_expand.specs.declared.stops.Stop.{Stop}
use Rattle.pr_expand.specs.declared.stops.Stop.TheVariants.{Limit, Memory}
use Rattle.pr_expand.specs.Code.{IsPast}
use Rattle.pr_expand.specs.Scopes.{defined}
use Rattle.pr_expand.proofs.Between.{items_step}
use Rattle.pr_expand.specs.Descents.{making}
use Rattle.pr_expand.proofs.Layers.{call_is, cat_is, parts_step, stmts_step, turns_step, with_given}

pub past_more : (s : Stop) (a b : Equations) → length a ≤ length b → IsPast s a → IsPast s b
past_more Limit a b grown past = omega (arith, grown, past)
past_more (Memory e) a b grown past = tt

-- at the exit of a `?`
pub passed_on : {T : Type 0} (r : Result T Stop) (s : Stop) (a b : Equations) → IsErrAnd r (λ t. t ≡ s) → length a ≤ length b → IsPast s a → IfErr r (λ t. IsPast t b)
passed_on r s a b from grown past =
    let p = err_from_is_err_and r from in
    subst (λ x. IfErr x (λ t. IsPast t b)) (sym p.1) (past_more p.0 a b grown (subst (λ t. IsPast t a) (sym p.2) past))

-- a whole that appends to a part
pub longer : (a : Equations) (m w : Expanded) → w ≡ m → Appends a m.equations → length a ≤ length w.equations
longer a m w is grown = subst (λ (x : Expanded). length a ≤ length x.equations) (sym is) (appends-length a m.equations grown)

pub longer_progress : (a : Equations) (p w : Progress) → p ≡ w → Appends a p.equations → length a ≤ length w.equations
longer_progress a p w is grown = subst (λ (x : Progress). length a ≤ length x.equations) is (appends-length a p.equations grown)

-- ---- expressions
parts_append : (v : Visible) → AllAppend v → (exprs : List Expr) (env : Streams) (es : Equations) → Appends es (all_made (map plan_of exprs) v env es).equations
parts_append v fs [] env es = appends-nothing es
parts_append v fs (e ∷ exprs) env es = appends-both es (making e v env es).equations _ (making-appends v fs e env es) (parts_append v fs exprs env (making e v env es).equations)

called_appends : (f : Option Inlined) (a : AllExpanded) → IfSome f DoesAppend → Appends a.equations (called f a).equations
called_appends None a does = appends-nothing a.equations
called_appends (Some f) a does = does a.given a.equations

pub args_within : (v : Visible) → AllAppend v → (env : Streams) (es : Equations) (e : Expr) (name : List ℕ) (args : Vec Expr Global) (lent : List Expr) → e ≡ Call name args → lent ≡ args.items → length (all_made (map plan_of lent) v env es).equations ≤ length (making e v env es).equations
args_within v fs env es e name args lent is all =
    let a = all_made (map plan_of lent) v env es in
    longer a.equations (called (function_of (v.known name) (v.functions name)) a) (making e v env es) (sym (call_is v v env es e name args lent a is all refl refl)) (called_appends (function_of (v.known name) (v.functions name)) a (fs.at name))

beside_appends : (above : Expanded) (gs : List Given) → Appends above.equations (beside above gs).equations
beside_appends above [] = appends-nothing above.equations
beside_appends above (g ∷ gs) =
    let next = with_equation op.Cat (above.given ∷ g ∷ []) None above.equations in
    appends-both above.equations next.equations _ (appends-with op.Cat (above.given ∷ g ∷ []) None above.equations) (beside_appends next gs)

concatenated_appends : (gs : List Given) (es : Equations) → Appends es (concatenated gs es).equations
concatenated_appends [] es = appends-nothing es
concatenated_appends (g ∷ gs) es = beside_appends (made es g.operand false) gs

pub parts_within : (v : Visible) (env : Streams) (es : Equations) (e : Expr) (parts : Vec Expr Global) (lent : List Expr) → e ≡ Cat parts → lent ≡ parts.items → length (all_made (map plan_of lent) v env es).equations ≤ length (making e v env es).equations
parts_within v env es e parts lent is all =
    let a = all_made (map plan_of lent) v env es in
    longer a.equations (concatenated a.given a.equations) (making e v env es) (sym (cat_is v env es e parts lent a is all refl)) (concatenated_appends a.given a.equations)

-- one of several parts
pub part_within : (v u : Visible) → AllAppend v → (env : Streams) (es : Equations) (done : List Given) (exprs : List Expr) (i : ℕ) (e : Expr) (w : AllExpanded) → i < length exprs → e ≡ get_or exprs i e → u ≡ v → with_given done (all_made (map plan_of (drop i exprs)) v env es) ≡ w → length (making e u env es).equations ≤ length w.equations
part_within v u fs env es done exprs i e w h is same rest =
    let x = making e u env es in
    let step = parts_step v u env es done (done ++ x.given ∷ []) exprs i e x w h is same refl refl rest in
    subst (λ (a : AllExpanded). length x.equations ≤ length a.equations) step (appends-length _ _ (parts_append v fs (drop (i + 1) exprs) env x.equations))

pub beside_within : (above : Expanded) (parts : List Given) (i : ℕ) (d : Given) (w : Expanded) → i < length parts → beside above (drop i parts) ≡ w → length (with_equation op.Cat (above.given ∷ get_or parts i d ∷ []) None above.equations).equations ≤ length w.equations
beside_within above parts i d w h rest =
    let next = with_equation op.Cat (above.given ∷ get_or parts i d ∷ []) None above.equations in
    longer next.equations _ w (sym (sym (at_drop_more (beside above) parts i d h) ∙ rest)) (beside_appends next (drop (i + 1) parts))

-- ---- declared widths
declared_length : (w : ℕ) (es : Equations) → length (declare_last w es) ≡ length es
declared_length w [] = refl
declared_length w (e ∷ []) = refl
declared_length w (e ∷ f ∷ rest) = ap suc (declared_length w (f ∷ rest))

pub operator_within : (b : Bool) (width : Option ℕ) (m : Expanded) → length m.equations ≤ length (declared_at_operator b width m).equations
operator_within true (Some w) m = let same = declared_length w m.equations in omega (arith, same)
operator_within true None m = omega arith
operator_within false width m = omega arith

else_within : (b : Bool) (width : Option ℕ) (m : Expanded) → length m.equations ≤ length (declared_else b width m).equations
else_within false (Some w) m = appends-length _ _ (appends-with op.Fit (m.given ∷ []) (Some w) m.equations)
else_within false None m = omega arith
else_within true width m = omega arith

pub assigned_within : (width : Option ℕ) (e : Expr) (v : Visible) (env : Streams) (es : Equations) → length (making e v env es).equations ≤ length (assigned width e v env es).equations
assigned_within width e v env es =
    let b = (plan_of e).is_operator in
    let m = making e v env es in
    let one = operator_within b (lawful width) m in
    let two = else_within b (lawful width) (declared_at_operator b (lawful width) m) in
    omega (arith, one, two)

-- ---- statements
pub stmt_within : (v u : Visible) → AllAppend v → (s w : Progress) (stmts : List Stmt) (i : ℕ) (st : Stmt) → i < length stmts → st ≡ get_or stmts i st → u ≡ v → changes_of (drop i stmts) v s ≡ w → length (change_of st u s).equations ≤ length w.equations
stmt_within v u fs s w stmts i st h is same rest =
    let t = change_of st u s in
    longer_progress t.equations _ w (stmts_step v u s t w stmts i st h is same refl rest) (changes-append (drop (i + 1) stmts) v fs t)

turns_append : (k at : ℕ) (f : ℕ → Progress → Progress) → ((n : ℕ) (s : Progress) → Appends s.equations (f n s).equations) → (s : Progress) → Appends s.equations (turns k at f s).equations
turns_append zero at f each s = appends-nothing s.equations
turns_append (suc k) at f each s = appends-both s.equations (f at s).equations _ (each at s) (turns_append k (at + 1) f each (f at s))

pub turn_within : (v u : Visible) → AllAppend v → (index : List ℕ) (body : List Stmt) (end at : ℕ) (s w : Progress) → at < end → u ≡ v → turns (end - at) at (λ n. changes_of body (with_index index n v)) s ≡ w → length (changes_of body (with_index index at u) s).equations ≤ length w.equations
turn_within v u fs index body end at s w h same rest =
    let f : ℕ → Progress → Progress = λ n. changes_of body (with_index index n v) in
    let t = changes_of body (with_index index at u) s in
    let step : t ≡ f at s = λ i. changes_of body (with_index index at (same i)) s in
    longer_progress t.equations _ w (turns_step f end at s t w h step rest) (turns_append (end - (at + 1)) (at + 1) f (λ n p. changes-append body (with_index index n v) (append-index index n v fs) p) t)

pub same_long : (p w : Progress) → p ≡ w → length p.equations ≤ length w.equations
same_long p w is = longer_progress p.equations p w is (appends-nothing p.equations)

-- ---- delays, arguments and items
pub delay_within : (n k c : ℕ) (q : Operand) (signed : Bool) (es : Equations) (w : Expanded) → k < n → delayed (n - k) (record { operand = q; signed = signed }) c es ≡ w → length (delayed_once q c es).equations ≤ length w.equations
delay_within n k c q signed es w h rest =
    let more : n - k ≡ suc (n - (k + 1)) = omega (arith, h) in
    let once = delayed_once q c es in
    let whole : delayed (suc (n - (k + 1))) (record { operand = q; signed = signed }) c es ≡ w = ap (λ (j : ℕ). delayed j (record { operand = q; signed = signed }) c es) (sym more) ∙ rest in
    longer once.equations _ w (sym whole) (delayed-appends (n - (k + 1)) (record { operand = once.given.operand; signed = signed }) c once.equations)

pub argument_within : (i : ℕ) (ps : List Param) (gs : List Given) (s w : Progress) (p d : Param) (g f : Given) → i < length ps → i < length gs → p ≡ get_or ps i d → g ≡ get_or gs i f → with_arguments (drop i ps) (drop i gs) s ≡ w → length (passed p.width g s.equations).equations ≤ length w.equations
argument_within i [] gs s w p d g f h k is given rest = absurd (omega (arith, h))
argument_within i (q ∷ ps) [] s w p d g f h k is given rest = absurd (omega (arith, k))
argument_within zero (q ∷ ps) (x ∷ gs) s w p d g f h k is given rest =
    let next = named q.name None s.streams (passed q.width x s.equations) in
    subst (λ (y : Param). length (passed y.width g s.equations).equations ≤ length w.equations) (sym is)
    (subst (λ (y : Given). length (passed q.width y s.equations).equations ≤ length w.equations) (sym given)
    (longer_progress next.equations _ w rest (arguments-append ps gs next)))
argument_within (suc i) (q ∷ ps) (x ∷ gs) s w p d g f h k is given rest = argument_within i ps gs s w p d g f (omega (arith, h)) (omega (arith, k)) is given rest

-- the arguments of a call, before the body
pub begun_within : (o : Option Item) (it : Item) (name : List ℕ) (params : Vec Param Global) (width : Option ℕ) (body : Vec Stmt Global) (result : Expr) (lent : List Param) (v : Visible) → AllAppend v → (gs : List Given) (es : Equations) → o ≡ Some it → it ≡ item.Function name params width body result → lent ≡ params.items → length (with_arguments lent gs (record { streams = no_streams; equations = es })).equations ≤ length (defined o v gs es).equations
begun_within o it name params width body result lent v fs gs es some is all =
    let begun : Progress = with_arguments params.items gs (record { streams = no_streams; equations = es }) in
    let ended = changes_of body.items v begun in
    let whole : defined o v gs es ≡ assigned width result v ended.streams ended.equations = ap (λ (x : Option Item). defined x v gs es) (some ∙ ap Some is) in
    subst (λ (ps : List Param). length (with_arguments ps gs (record { streams = no_streams; equations = es })).equations ≤ length (defined o v gs es).equations) (sym all)
    (longer begun.equations _ (defined o v gs es) whole (appends-both begun.equations ended.equations _ (changes-append body.items v fs begun) (assigned-appends v fs width result ended.streams ended.equations)))

pub item_within : (items : List Item) (i n : ℕ) (it : Item) (w e : World) → AllAppend w.visible → i < length items → it ≡ get_or items i it → items_change n (drop i items) w ≡ e → length (item_change n it w).progress.equations ≤ length e.progress.equations
item_within items i n it w e fs h is rest =
    let next = item_change n it w in
    subst (λ (x : World). length next.progress.equations ≤ length x.progress.equations) (items_step items i n it w next e h is refl rest) (appends-length _ _ (items-append (n + 1) (drop (i + 1) items) next (visible-appends n it w fs)))
