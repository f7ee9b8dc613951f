-- How much a recursion has before it: the text at hand, and the functions that it can still call.
use Rattle.std.proofs.Common.{◌≡◌, ◌∙◌, ◌<◌, ◌≤◌, ℕ, zero, suc, ◌+◌, List, [], ◌∷◌, map, length, get_or, Option, Some, None, Vec, Global, sym, ap, subst, arith, slice_get, ⊎_elim}
use Rattle.std.proofs.Math.Nat.{eq-or-lt_of_le}
use Rattle.std.specs.Global.{Box}
use Rattle.pr_lang.specs.declared.trees.BinOp.{BinOp}
use Rattle.pr_lang.specs.declared.trees.Fixed.{Fixed}
use Rattle.pr_lang.specs.declared.trees.Ref.{Ref}
use Rattle.pr_lang.specs.declared.trees.Expr as expressions
use Rattle.pr_lang.specs.declared.trees.Expr.{Expr, map-Expr, out-Expr}
use Rattle.pr_lang.specs.declared.trees.Expr.TheVariants.{Binary, Choose, Call, Cat}
use Rattle.pr_lang.specs.declared.trees.Expr.TheOpen.{Expr-F}
use Rattle.pr_lang.specs.declared.trees.Expr.TheFolds.{fold-Expr, fold-roll-Expr, fold_out-Expr}
use Rattle.pr_lang.specs.declared.trees.Stmt as statements
use Rattle.pr_lang.specs.declared.trees.Stmt.{Stmt}
use Rattle.pr_lang.specs.declared.trees.Stmt.TheVariants.{Let, Rec, For}
use Rattle.pr_lang.specs.declared.trees.Stmt.TheOpen.{Stmt-F}
use Rattle.pr_lang.specs.declared.trees.Stmt.TheFolds.{fold-Stmt, fold-roll-Stmt}
use Rattle.pr_lang.specs.declared.trees.Param.{Param}
use Rattle.pr_lang.specs.declared.trees.Item.{Item}
use Rattle.pr_lang.specs.declared.trees.Item.TheVariants as item
use Rattle.pr_scope_names.specs.declared.names.Statics.{Statics}
use Rattle.pr_scope_names.specs.declared.names.Callee.{Callee}
use Rattle.pr_scope_names.specs.declared.names.Static.TheVariants.{Function}
use Rattle.pr_scope_names.specs.Names.{KeepsNames, horizon_in, known_in}
use Rattle.pr_expand.specs.Descents.{first_in, first_step}
use Rattle.pr_expand.specs.Scopes.{IsEarlier, IsScene}

abbrev pub total : List ℕ → ℕ
total [] = 0
total (n ∷ ns) = n + total ns

abbrev weight_step : Expr-F ℕ → ℕ
weight_step (Expr-F.Slice e high low) = suc e.value
weight_step (Expr-F.Not e) = suc e.value
weight_step (Expr-F.Binary o a b) = suc (a.value + b.value)
weight_step (Expr-F.Choose c a b) = suc (c.value + a.value + b.value)
weight_step (Expr-F.Call name args) = suc (total args.items)
weight_step (Expr-F.Cat parts) = suc (total parts.items)
weight_step (Expr-F.Paren e) = suc e.value
weight_step _ = 1

unfoldable pub weight : Expr → ℕ
weight = fold-Expr ℕ weight_step

abbrev pub weights : List Expr → ℕ
weights es = total (map weight es)

abbrev stmt_weight_step : Stmt-F ℕ → ℕ
stmt_weight_step (Stmt-F.Let target width e) = suc (weight e)
stmt_weight_step (Stmt-F.Rec target width init e) = suc (weight e)
stmt_weight_step (Stmt-F.For index low high body) = suc (total body.items)

unfoldable pub stmt_weight : Stmt → ℕ
stmt_weight = fold-Stmt ℕ stmt_weight_step

abbrev pub stmts_weight : List Stmt → ℕ
stmts_weight stmts = total (map stmt_weight stmts)

-- a part is lighter than the whole
binary_law : (o : BinOp) (l r : Box Expr) → weight (Binary o l r) ≡ suc (weight l.value + weight r.value)
unfolding weight expressions.roll-Expr denote.Hole.Carrier.roll
binary_law o l r = fold-roll-Expr ℕ weight_step (Expr-F.Binary o l r)

choose_law : (c l r : Box Expr) → weight (Choose c l r) ≡ suc (weight c.value + weight l.value + weight r.value)
unfolding weight expressions.roll-Expr denote.Hole.Carrier.roll
choose_law c l r = fold-roll-Expr ℕ weight_step (Expr-F.Choose c l r)

call_law : (name : List ℕ) (args : Vec Expr Global) → weight (Call name args) ≡ suc (weights args.items)
unfolding weight expressions.roll-Expr denote.Hole.Carrier.roll
call_law name args = fold-roll-Expr ℕ weight_step (Expr-F.Call name args)

cat_law : (parts : Vec Expr Global) → weight (Cat parts) ≡ suc (weights parts.items)
unfolding weight expressions.roll-Expr denote.Hole.Carrier.roll
cat_law parts = fold-roll-Expr ℕ weight_step (Expr-F.Cat parts)

let_law : (target : Ref) (width : Option ℕ) (e : Expr) → stmt_weight (Let target width e) ≡ suc (weight e)
unfolding stmt_weight statements.roll-Stmt denote.Hole.Carrier.roll
let_law target width e = fold-roll-Stmt ℕ stmt_weight_step (Stmt-F.Let target width e)

rec_law : (target : Ref) (width : Option ℕ) (init : Fixed) (e : Expr) → stmt_weight (Rec target width init e) ≡ suc (weight e)
unfolding stmt_weight statements.roll-Stmt denote.Hole.Carrier.roll
rec_law target width init e = fold-roll-Stmt ℕ stmt_weight_step (Stmt-F.Rec target width init e)

for_law : (index : List ℕ) (low high : Fixed) (body : Vec Stmt Global) → stmt_weight (For index low high body) ≡ suc (stmts_weight body.items)
unfolding stmt_weight statements.roll-Stmt denote.Hole.Carrier.roll
for_law index low high body = fold-roll-Stmt ℕ stmt_weight_step (Stmt-F.For index low high body)

first_less : (y : Expr-F Expr) (x : Expr) → first_step y ≡ Some x → weight x < weight_step (map-Expr Expr ℕ weight y)
first_less (Expr-F.Slice e h l) x is = let same : e.value ≡ x = cc in let w = ap weight same in omega (arith, w)
first_less (Expr-F.Not e) x is = let same : e.value ≡ x = cc in let w = ap weight same in omega (arith, w)
first_less (Expr-F.Binary o a b) x is = let same : a.value ≡ x = cc in let w = ap weight same in omega (arith, w)
first_less (Expr-F.Choose c a b) x is = let same : c.value ≡ x = cc in let w = ap weight same in omega (arith, w)
first_less (Expr-F.Paren e) x is = let same : e.value ≡ x = cc in let w = ap weight same in omega (arith, w)
first_less _ x is = cc

pub first_lighter : (e x : Expr) → first_in e ≡ Some x → weight x < weight e
unfolding weight
first_lighter e x is =
    let whole : weight e ≡ weight_step (map-Expr Expr ℕ weight (out-Expr e)) = fold_out-Expr ℕ weight_step e in
    let less = first_less (out-Expr e) x is in
    omega (arith, whole, less)

pub second_lighter : (e x : Expr) (o : BinOp) (l r : Box Expr) → e ≡ Binary o l r → x ≡ r.value → weight x < weight e
second_lighter e x o l r is part = let w : weight e ≡ suc (weight l.value + weight x) = ap weight is ∙ (binary_law o l r ∙ ap (λ (y : Expr). suc (weight l.value + weight y)) (sym part)) in omega (arith, w)

choice_is : (e : Expr) (c l r : Box Expr) → e ≡ Choose c l r → weight e ≡ suc (weight c.value + weight l.value + weight r.value)
choice_is e c l r is = ap weight is ∙ choose_law c l r

pub chosen_lighter : (e x : Expr) (c l r : Box Expr) → e ≡ Choose c l r → x ≡ l.value → weight x < weight e
chosen_lighter e x c l r is part = let w = choice_is e c l r is in let same : weight x ≡ weight l.value = ap weight part in omega (arith, w, same)

pub other_lighter : (e x : Expr) (c l r : Box Expr) → e ≡ Choose c l r → x ≡ r.value → weight x < weight e
other_lighter e x c l r is part = let w = choice_is e c l r is in let same : weight x ≡ weight r.value = ap weight part in omega (arith, w, same)

pub args_lighter : (e : Expr) (name : List ℕ) (args : Vec Expr Global) (lent : List Expr) → e ≡ Call name args → lent ≡ args.items → weights lent < weight e
args_lighter e name args lent is all = let w : weight e ≡ suc (weights lent) = ap weight is ∙ (call_law name args ∙ ap (λ (y : List Expr). suc (weights y)) (sym all)) in omega (arith, w)

pub call_heavy : (e : Expr) (name : List ℕ) (args : Vec Expr Global) → e ≡ Call name args → 0 < weight e
call_heavy e name args is = let w : weight e ≡ suc (weights args.items) = ap weight is ∙ call_law name args in omega (arith, w)

pub parts_lighter : (e : Expr) (parts : Vec Expr Global) (lent : List Expr) → e ≡ Cat parts → lent ≡ parts.items → weights lent < weight e
parts_lighter e parts lent is all = let w : weight e ≡ suc (weights lent) = ap weight is ∙ (cat_law parts ∙ ap (λ (y : List Expr). suc (weights y)) (sym all)) in omega (arith, w)

pub let_lighter : (s : Stmt) (target : Ref) (width : Option ℕ) (e : Expr) → s ≡ Let target width e → weight e < stmt_weight s
let_lighter s target width e is = let w : stmt_weight s ≡ suc (weight e) = ap stmt_weight is ∙ let_law target width e in omega (arith, w)

pub rec_lighter : (s : Stmt) (target : Ref) (width : Option ℕ) (init : Fixed) (e : Expr) → s ≡ Rec target width init e → weight e < stmt_weight s
rec_lighter s target width init e is = let w : stmt_weight s ≡ suc (weight e) = ap stmt_weight is ∙ rec_law target width init e in omega (arith, w)

pub body_lighter : (s : Stmt) (index : List ℕ) (low high : Fixed) (body : Vec Stmt Global) (lent : List Stmt) → s ≡ For index low high body → lent ≡ body.items → stmts_weight lent < stmt_weight s
body_lighter s index low high body lent is all = let w : stmt_weight s ≡ suc (stmts_weight lent) = ap stmt_weight is ∙ (for_law index low high body ∙ ap (λ (y : List Stmt). suc (stmts_weight y)) (sym all)) in omega (arith, w)

-- one of several
pub one_of : (es : List Expr) (i : ℕ) (e : Expr) → i < length es → e ≡ get_or es i e → weight e ≤ weights es
one_of [] i e h is = absurd (omega (arith, h))
one_of (x ∷ es) zero e h is = let w : weight e ≡ weight x = ap weight is in omega (arith, w)
one_of (x ∷ es) (suc i) e h is = let w = one_of es i e (omega (arith, h)) is in omega (arith, w)

pub stmt_of : (ss : List Stmt) (i : ℕ) (s : Stmt) → i < length ss → s ≡ get_or ss i s → stmt_weight s ≤ stmts_weight ss
stmt_of [] i s h is = absurd (omega (arith, h))
stmt_of (x ∷ ss) zero s h is = let w : stmt_weight s ≡ stmt_weight x = ap stmt_weight is in omega (arith, w)
stmt_of (x ∷ ss) (suc i) s h is = let w = stmt_of ss i s (omega (arith, h)) is in omega (arith, w)

-- ---- the functions that can still be called
abbrev pub item_weight : Option Item → ℕ
item_weight (Some (item.Function name params width body result)) = stmts_weight body.items + weight result
item_weight o = 0

unfoldable pub weight_before : List Item → ℕ → ℕ
weight_before items zero = 0
weight_before items (suc n) = weight_before items n + item_weight (slice_get items n)

abbrev pub weight_up_to : List Item → Option ℕ → ℕ
weight_up_to items None = 0
weight_up_to items (Some h) = weight_before items h

abbrev pub weight_in : List Item → Statics → ℕ
weight_in items s = weight_up_to items (horizon_in s)

pub weight_kept : (items : List Item) (s t : Statics) → KeepsNames s t → weight_in items t ≡ weight_in items s
weight_kept items s t k = ap (weight_up_to items) k.horizon

before_less : (items : List Item) (k h : ℕ) → k < h → weight_before items k + item_weight (slice_get items k) ≤ weight_before items h
unfolding weight_before
before_less items k zero less = absurd (omega (arith, less))
before_less items k (suc h) less =
    let next : k ≤ h = omega (arith, less) in
    ⊎_elim
    (λ e. let w : weight_before items k + item_weight (slice_get items k) ≡ weight_before items h + item_weight (slice_get items h) = ap (λ (n : ℕ). weight_before items n + item_weight (slice_get items n)) e in omega (arith, w))
    (λ l. let w = before_less items k h l in omega (arith, w))
    (eq-or-lt_of_le next)

-- into the body of a function
pub weight_entered : (items : List Item) (s t : Statics) (name : List ℕ) (f : Callee) (k : ℕ) (o : Option Item) → IsScene items s → known_in s name ≡ Some (Function f) → f.item ≡ Some k → horizon_in t ≡ Some k → o ≡ slice_get items k → weight_in items t + item_weight o ≤ weight_in items s
weight_entered items s t name f k o scene is item_is horizon there =
    let less : k < scene.item = subst (IsEarlier scene.item) item_is (scene.at.calls name f is).earlier in
    let below = before_less items k scene.item less in
    let inside : weight_in items t ≡ weight_before items k = ap (weight_up_to items) horizon in
    let outside : weight_in items s ≡ weight_before items scene.item = ap (weight_up_to items) scene.at.here in
    let found : item_weight o ≡ item_weight (slice_get items k) = ap item_weight there in
    omega (arith, below, inside, outside, found)

pub function_weight : (o : Option Item) (it : Item) (name : List ℕ) (params : Vec Param Global) (width : Option ℕ) (body : Vec Stmt Global) (result : Expr) (lent : List Stmt) → o ≡ Some it → it ≡ item.Function name params width body result → lent ≡ body.items → item_weight o ≡ stmts_weight lent + weight result
function_weight o it name params width body result lent some is all =
    ap item_weight some ∙ (ap (λ (x : Item). item_weight (Some x)) is ∙ ap (λ (ss : List Stmt). stmts_weight ss + weight result) (sym all))
