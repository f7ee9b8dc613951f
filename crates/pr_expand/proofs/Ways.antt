-- Down the first operands and back: what is made so is what the whole expression makes.
use Rattle.std.proofs.Common.{◌≡◌, ◌∙◌, ◌≤◌, ℕ, List, [], ◌∷◌, ◌++◌, map, length, Option, Some, None, Result, refl, sym, ap, subst, arith}
use Rattle.std.specs.Global.{Box}
use Rattle.std.specs.List.{All}
use Rattle.std.proofs.lemmas.List.{map-append}
use Rattle.std.proofs.lemmas.List.Elements.{All-cons, All-nil}
use Rattle.pr_lang.specs.declared.trees.BinOp.{BinOp}
use Rattle.pr_lang.specs.declared.trees.Expr.{Expr, map-Expr, out-Expr, out-roll-Expr}
use Rattle.pr_lang.specs.declared.trees.Expr.TheVariants.{Binary, Choose, rolls-Binary, rolls-Choose}
use Rattle.pr_lang.specs.declared.trees.Expr.TheOpen.{Expr-F}
use Rattle.pr_lang.specs.declared.trees.Expr.TheFolds.{fold_out-Expr}
use Rattle.pr_scope_names.specs.declared.rules.Offence.{Offence}
use Rattle.pr_scope_names.specs.Amounts.{Amount, amount_of}
use Rattle.pr_scope_names.proofs.Folds.{amount_kept}
use Rattle.pr_flat.specs.declared.equations.Op.{Op}
use Rattle.pr_flat.specs.declared.equations.Op.TheVariants as op
use Rattle.pr_lang_meaning.specs.Expressions.{constant_shift, operator}
use Rattle.pr_expand_spec.specs.Making.{Equations, Expanded, constant}
use Rattle.pr_expand_spec.specs.Expressions.{ExprPlan, Streams, Visible, combined, making_step, plan_of, plan_step}
use Rattle.pr_scope_facts.proofs.Appending.{AllAppend, Appends, appends-both, appends-length, appends-nothing, appends-with, making-appends}
use Rattle.pr_expand.specs.Descents.{IsWay, chosen, first_in, first_step, making, on_one, on_three, on_two, operated, rest_of, rest_step}
use Rattle.pr_expand.specs.Descents.IsWay.{down, here}
use Rattle.pr_expand.proofs.Weights.{first_lighter, weight}

plan_amount : (e : Expr) → (plan_of e).amount ≡ amount_of e
plan_amount = amount_kept ExprPlan plan_step (λ p. p.amount) (λ x. refl)

-- ---- an expression, by its first operand
operated_is : (o : BinOp) (k : Option Op) (a b : Expr) (v : Visible) (env : Streams) (es : Equations) → combined o k (plan_of a) (plan_of b) v env es ≡ operated o k b v env (making a v env es)
operated_is o None a b v env es = refl
operated_is o (Some shift) a b v env es = refl

layer_is : (y : Expr-F Expr) (x : Expr) (v : Visible) (env : Streams) (es : Equations) → first_step y ≡ Some x → making_step (map-Expr Expr ExprPlan plan_of y) v env es ≡ rest_step y v env (making x v env es)
layer_is (Expr-F.Slice e h l) x v env es is =
    let same : e.value ≡ x = cc in
    ap (λ (z : Expr). on_one (op.Slice (constant h v.known) (constant l v.known)) (making z v env es)) same
layer_is (Expr-F.Not e) x v env es is =
    let same : e.value ≡ x = cc in
    ap (λ (z : Expr). on_one op.Not (making z v env es)) same
layer_is (Expr-F.Binary o a b) x v env es is =
    let same : a.value ≡ x = cc in
    let k = constant_shift o (amount_of b.value v.known) in
    ap (λ (f : Amount). combined o (constant_shift o (f v.known)) (plan_of a.value) (plan_of b.value) v env es) (plan_amount b.value) ∙
    (operated_is o k a.value b.value v env es ∙ ap (λ (z : Expr). operated o k b.value v env (making z v env es)) same)
layer_is (Expr-F.Choose c a b) x v env es is =
    let same : c.value ≡ x = cc in
    ap (λ (z : Expr). chosen a.value b.value v env (making z v env es)) same
layer_is (Expr-F.Paren e) x v env es is =
    let same : e.value ≡ x = cc in
    ap (λ (z : Expr). making z v env es) same
layer_is _ x v env es is = cc

pub whole_is : (e x : Expr) (v : Visible) (env : Streams) (es : Equations) → first_in e ≡ Some x → making e v env es ≡ rest_of e v env (making x v env es)
whole_is e x v env es is = ap (λ (p : ExprPlan). p.making v env es) (fold_out-Expr ExprPlan plan_step e) ∙ layer_is (out-Expr e) x v env es is

operated_appends : (o : BinOp) (k : Option Op) (b : Expr) (v : Visible) → AllAppend v → (env : Streams) (x : Expanded) → Appends x.equations (operated o k b v env x).equations
operated_appends o (Some shift) b v fs env x = appends-with shift (x.given ∷ []) None x.equations
operated_appends o None b v fs env x =
    let y = making b v env x.equations in
    appends-both x.equations y.equations _ (making-appends v fs b env x.equations) (appends-with (operator o) (x.given ∷ y.given ∷ []) None y.equations)

chosen_appends : (a b : Expr) (v : Visible) → AllAppend v → (env : Streams) (x : Expanded) → Appends x.equations (chosen a b v env x).equations
chosen_appends a b v fs env x =
    let y = making a v env x.equations in
    let z = making b v env y.equations in
    appends-both x.equations y.equations _ (making-appends v fs a env x.equations) (appends-both y.equations z.equations _ (making-appends v fs b env y.equations) (appends-with op.Choose (x.given ∷ y.given ∷ z.given ∷ []) None z.equations))

step_appends : (y : Expr-F Expr) (v : Visible) → AllAppend v → (env : Streams) (x : Expanded) → Appends x.equations (rest_step y v env x).equations
step_appends (Expr-F.Slice e h l) v fs env x = appends-with (op.Slice (constant h v.known) (constant l v.known)) (x.given ∷ []) None x.equations
step_appends (Expr-F.Not e) v fs env x = appends-with op.Not (x.given ∷ []) None x.equations
step_appends (Expr-F.Binary o a b) v fs env x = operated_appends o (constant_shift o (amount_of b.value v.known)) b.value v fs env x
step_appends (Expr-F.Choose c a b) v fs env x = chosen_appends a.value b.value v fs env x
step_appends (Expr-F.Number n) v fs env x = appends-nothing x.equations
step_appends (Expr-F.Refer r) v fs env x = appends-nothing x.equations
step_appends (Expr-F.Delay r k) v fs env x = appends-nothing x.equations
step_appends (Expr-F.Call name args) v fs env x = appends-nothing x.equations
step_appends (Expr-F.Cat parts) v fs env x = appends-nothing x.equations
step_appends (Expr-F.Paren e) v fs env x = appends-nothing x.equations

-- ---- what waits on a way
abbrev pub rests_of : List Expr → Visible → Streams → Expanded → Expanded
rests_of [] v env x = x
rests_of (e ∷ es) v env x = rest_of e v env (rests_of es v env x)

rests_last : (es : List Expr) (e : Expr) (v : Visible) (env : Streams) (x : Expanded) → rests_of (es ++ e ∷ []) v env x ≡ rests_of es v env (rest_of e v env x)
rests_last [] e v env x = refl
rests_last (d ∷ es) e v env x = ap (rest_of d v env) (rests_last es e v env x)

rests_append : (es : List Expr) (v : Visible) → AllAppend v → (env : Streams) (x : Expanded) → Appends x.equations (rests_of es v env x).equations
rests_append [] v fs env x = appends-nothing x.equations
rests_append (e ∷ es) v fs env x = appends-both x.equations (rests_of es v env x).equations _ (rests_append es v fs env x) (step_appends (out-Expr e) v fs env (rests_of es v env x))

pub way_on : (e : Expr) (es : List Expr) (inner x : Expr) → IsWay e es inner → first_in inner ≡ Some x → IsWay e (es ++ inner ∷ []) x
way_on e [] inner x (here d) is = down d x [] x is (here x)
way_on e es inner x (down d y rest last first way) is = down d y (rest ++ last ∷ []) x first (way_on y rest last x way is)

pub way_made : (e : Expr) (es : List Expr) (inner : Expr) (v : Visible) (env : Streams) (eqs : Equations) → IsWay e es inner → rests_of es v env (making inner v env eqs) ≡ making e v env eqs
way_made e [] inner v env eqs (here d) = refl
way_made e es inner v env eqs (down d y rest last first way) = ap (rest_of d v env) (way_made y rest last v env eqs way) ∙ sym (whole_is d y v env eqs first)

abbrev pub IsLight : ℕ → Expr → Type 0
IsLight n e = weight e ≤ n

pub way_light : (n : ℕ) (e : Expr) (es : List Expr) (inner : Expr) → weight e ≤ n → IsWay e es inner → All (IsLight n) es
way_light n e [] inner less (here d) = All-nil (IsLight n)
way_light n e es inner less (down d y rest last first way) =
    let lighter = first_lighter d y first in
    All-cons (IsLight n) d rest less (way_light n y rest last (omega (arith, less, lighter)) way)

pub way_lighter : (e : Expr) (es : List Expr) (inner : Expr) → IsWay e es inner → weight inner ≤ weight e
way_lighter e [] inner (here d) = omega arith
way_lighter e es inner (down d y rest last first way) =
    let lighter = first_lighter d y first in
    let less = way_lighter y rest last way in
    omega (arith, lighter, less)

pub popped : {X Y : Type 0} (f : X → Y) (old now : List X) (x : X) → old ≡ now ++ x ∷ [] → map f old ≡ map f now ++ f x ∷ []
popped f old now x is = ap (map f) is ∙ map-append f now (x ∷ [])

-- the innermost that waits is made next, among the same names
pub rests_step : (es now : List Expr) (e : Expr) (v u : Visible) (env : Streams) (x y w : Expanded) → es ≡ now ++ e ∷ [] → u ≡ v → y ≡ rest_of e u env x → rests_of es v env x ≡ w → rests_of now v env y ≡ w
rests_step es now e v u env x y w popped same step rest =
    ap (rests_of now v env) (step ∙ ap (λ (z : Visible). rest_of e z env x) same) ∙
    (sym (rests_last now e v env x) ∙ (ap (λ (ds : List Expr). rests_of ds v env x) (sym popped) ∙ rest))

pub rest_within : (es now : List Expr) (e : Expr) (v u : Visible) → AllAppend v → (env : Streams) (x w : Expanded) → es ≡ now ++ e ∷ [] → u ≡ v → rests_of es v env x ≡ w → length (rest_of e u env x).equations ≤ length w.equations
rest_within es now e v u fs env x w popped same rest =
    let y = rest_of e u env x in
    let whole = rests_step es now e v u env x y w popped same refl rest in
    subst (λ (m : Expanded). length y.equations ≤ length m.equations) whole (appends-length y.equations _ (rests_append now v fs env y))

pub way_within : (e : Expr) (es : List Expr) (inner : Expr) (v : Visible) → AllAppend v → (env : Streams) (eqs : Equations) → IsWay e es inner → length (making inner v env eqs).equations ≤ length (making e v env eqs).equations
way_within e es inner v fs env eqs way =
    let x = making inner v env eqs in
    subst (λ (m : Expanded). length x.equations ≤ length m.equations) (way_made e es inner v env eqs way) (appends-length x.equations _ (rests_append es v fs env x))

-- ---- an operator, where its first operand is made
binary_rest : (e : Expr) (o : BinOp) (l r : Box Expr) (v : Visible) (env : Streams) (x : Expanded) → e ≡ Binary o l r → rest_of e v env x ≡ operated o (constant_shift o (amount_of r.value v.known)) r.value v env x
binary_rest e o l r v env x is = ap (λ (y : Expr-F Expr). rest_step y v env x) (ap out-Expr is ∙ (ap out-Expr (sym (rolls-Binary o l r)) ∙ out-roll-Expr (Expr-F.Binary o l r)))

choose_rest : (e : Expr) (c l r : Box Expr) (v : Visible) (env : Streams) (x : Expanded) → e ≡ Choose c l r → rest_of e v env x ≡ chosen l.value r.value v env x
choose_rest e c l r v env x is = ap (λ (y : Expr-F Expr). rest_step y v env x) (ap out-Expr is ∙ (ap out-Expr (sym (rolls-Choose c l r)) ∙ out-roll-Expr (Expr-F.Choose c l r)))

shift_at : (v : Visible) (by : Expr) (o : BinOp) (r : Box Expr) (k : Option Op) (amount : Option (Result ℕ Offence)) → by ≡ r.value → amount ≡ amount_of by v.known → k ≡ constant_shift o amount → constant_shift o (amount_of r.value v.known) ≡ k
shift_at v by o r k amount again known is = sym (is ∙ ap (constant_shift o) (known ∙ ap (λ (y : Expr). amount_of y v.known) again))

-- a shift by a constant
pub shift_is : (v : Visible) (env : Streams) (e by : Expr) (o : BinOp) (l r : Box Expr) (x : Expanded) (p : Op) (amount : Option (Result ℕ Offence)) → e ≡ Binary o l r → by ≡ r.value → amount ≡ amount_of by v.known → Some p ≡ constant_shift o amount → on_one p x ≡ rest_of e v env x
shift_is v env e by o l r x p amount is again known shift =
    sym (binary_rest e o l r v env x is ∙ ap (λ (k : Option Op). operated o k r.value v env x) (shift_at v by o r (Some p) amount again known shift))

-- an operator on two streams
pub two_is : (v : Visible) (env : Streams) (e by b : Expr) (o : BinOp) (l r : Box Expr) (x y : Expanded) (p : Op) (amount : Option (Result ℕ Offence)) → e ≡ Binary o l r → by ≡ r.value → b ≡ r.value → amount ≡ amount_of by v.known → None ≡ constant_shift o amount → p ≡ operator o → y ≡ making b v env x.equations → on_two p x y ≡ rest_of e v env x
two_is v env e by b o l r x y p amount is again right known none sign second =
    (λ i. on_two (sign i) x ((second ∙ ap (λ (z : Expr). making z v env x.equations) right) i)) ∙
    sym (binary_rest e o l r v env x is ∙ ap (λ (k : Option Op). operated o k r.value v env x) (shift_at v by o r None amount again known none))

-- a choice; its last operand is made among the same names
pub three_is : (v u : Visible) (env : Streams) (e a b : Expr) (c l r : Box Expr) (x y z : Expanded) → e ≡ Choose c l r → a ≡ l.value → b ≡ r.value → u ≡ v → y ≡ making a v env x.equations → z ≡ making b u env y.equations → on_three x y z ≡ rest_of e v env x
three_is v u env e a b c l r x y z is left right same second third =
    let two : y ≡ making l.value v env x.equations = second ∙ ap (λ (q : Expr). making q v env x.equations) left in
    let three : z ≡ making r.value v env (making l.value v env x.equations).equations = third ∙ (λ i. making (right i) (same i) env (two i).equations) in
    (λ i. on_three x (two i) (three i)) ∙ sym (choose_rest e c l r v env x is)

-- ---- what stops the making of a further operand
pub chosen_within : (v : Visible) → AllAppend v → (env : Streams) (e a : Expr) (c l r : Box Expr) (x : Expanded) → e ≡ Choose c l r → a ≡ l.value → length (making a v env x.equations).equations ≤ length (rest_of e v env x).equations
chosen_within v fs env e a c l r x is left =
    let y = making a v env x.equations in
    let z = making r.value v env y.equations in
    subst (λ (m : Expanded). length y.equations ≤ length m.equations) (three_is v v env e a r.value c l r x y z is left refl refl refl refl)
    (appends-length y.equations _ (appends-both y.equations z.equations _ (making-appends v fs r.value env y.equations) (appends-with op.Choose (x.given ∷ y.given ∷ z.given ∷ []) None z.equations)))

pub other_within : (v u : Visible) (env : Streams) (e a b : Expr) (c l r : Box Expr) (x y : Expanded) → e ≡ Choose c l r → a ≡ l.value → b ≡ r.value → u ≡ v → y ≡ making a v env x.equations → length (making b u env y.equations).equations ≤ length (rest_of e v env x).equations
other_within v u env e a b c l r x y is left right same second =
    let z = making b u env y.equations in
    subst (λ (m : Expanded). length z.equations ≤ length m.equations) (three_is v u env e a b c l r x y z is left right same second refl) (appends-length z.equations _ (appends-with op.Choose (x.given ∷ y.given ∷ z.given ∷ []) None z.equations))
