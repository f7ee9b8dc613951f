-- An expression has as many points as are listed of it.
use Rattle.std.proofs.Common.{◌≡◌, ◌∙◌, ◌+◌, ◌∷◌, [], ℕ, List, Option, Some, None, length, map, sym, ap, subst, arith}
use Rattle.std.proofs.lemmas.List.{length_push}
use Rattle.pr_lang.specs.declared.trees.Fixed.{Fixed, map-Fixed}
use Rattle.pr_lang.specs.declared.trees.Fixed.TheOpen.{Fixed-F}
use Rattle.pr_lang.specs.declared.trees.Fixed.TheFolds.{fold-roll-Fixed, ind-Fixed}
use Rattle.pr_lang.specs.declared.trees.Ref.{Ref}
use Rattle.pr_lang.specs.declared.trees.Expr.{Expr, map-Expr}
use Rattle.pr_lang.specs.declared.trees.Expr.TheOpen.{Expr-F}
use Rattle.pr_lang.specs.declared.trees.Expr.TheFolds.{fold-roll-Expr, ind-Expr}
use Rattle.pr_lens_items.specs.Tokens.{later}
use Rattle.pr_lens_items.specs.Walks.{Walk, fixed_walk, index_walk, refer_walk, expr_walk, parts_points, parts_end}
use Rattle.pr_lens_items.specs.Walks as walks
use Rattle.pr_lens_items.specs.Cuts.{Part, points, fixed_layer, fixed_part, index_points, expr_layer, expr_part, all_points}

abbrev Lists : Walk → Part → Type 0
Lists w p = (at : ℕ) (seen : List ℕ) → length (w.points at seen) ≡ length seen + points p

-- ---- constant expressions
abbrev IsListedFixed : Fixed → Type 0
IsListedFixed f = Lists (fixed_walk f) (fixed_part f)

abbrev ListedFixed : Type 0
ListedFixed = (f : Fixed) × IsListedFixed f

abbrev fixeds : Fixed-F ListedFixed → Fixed-F Fixed
fixeds y = map-Fixed ListedFixed Fixed (λ p. p.0) y

lists-fixed_layer : (y : Fixed-F ListedFixed) → Lists (walks.fixed_layer (map-Fixed Fixed Walk fixed_walk (fixeds y))) (fixed_layer (map-Fixed Fixed Part fixed_part (fixeds y)))
lists-fixed_layer (Fixed-F.Number n) at seen = omega (arith, length_push seen at)
lists-fixed_layer (Fixed-F.Refer x None) at seen = omega (arith, length_push seen at)
lists-fixed_layer (Fixed-F.Refer x (Some i)) at seen =
    omega (arith, length_push ((fixed_walk i.value.0).points (later at 2) seen) at, i.value.1 (later at 2) seen)
lists-fixed_layer (Fixed-F.Binary op a b) at seen =
    let sign = (fixed_walk a.value.0).end at in
    let one = (fixed_walk a.value.0).points at seen in
    omega (arith, length_push ((fixed_walk b.value.0).points (later sign 1) one) sign, b.value.1 (later sign 1) one, a.value.1 at seen)
lists-fixed_layer (Fixed-F.Paren a) at seen = omega (arith, a.value.1 (later at 1) seen)

pub lists-fixed : (f : Fixed) → IsListedFixed f
lists-fixed = ind-Fixed IsListedFixed (λ x y is at seen.
    let layer = subst (λ z. length ((walks.fixed_layer (map-Fixed Fixed Walk fixed_walk z)).points at seen) ≡ length seen + points (fixed_layer (map-Fixed Fixed Part fixed_part z))) is (lists-fixed_layer y at seen) in
    ap (λ (w : Walk). length (w.points at seen)) (fold-roll-Fixed Walk walks.fixed_layer x) ∙ (layer ∙ ap (λ (p : Part). length seen + points p) (sym (fold-roll-Fixed Part fixed_layer x))))

-- ---- names with an index
lists-index : (o : Option Fixed) (at : ℕ) (seen : List ℕ) → length ((index_walk o).points at seen) ≡ length seen + index_points o
lists-index None at seen = omega arith
lists-index (Some i) at seen = lists-fixed i (later at 2) seen

lists-refer : (r : Ref) (at : ℕ) (seen : List ℕ) → length ((refer_walk r).points at seen) ≡ length seen + index_points r.index + 1
lists-refer r at seen = omega (arith, length_push ((index_walk r.index).points at seen) at, lists-index r.index at seen)

-- ---- expressions
abbrev IsListedExpr : Expr → Type 0
IsListedExpr e = Lists (expr_walk e) (expr_part e)

abbrev ListedExpr : Type 0
ListedExpr = (e : Expr) × IsListedExpr e

abbrev exprs : Expr-F ListedExpr → Expr-F Expr
exprs y = map-Expr ListedExpr Expr (λ p. p.0) y

lists-parts : (es : List ListedExpr) (at : ℕ) (seen : List ℕ) → length (parts_points (map expr_walk (map (λ (p : ListedExpr). p.0) es)) at seen) ≡ length seen + all_points (map expr_part (map (λ (p : ListedExpr). p.0) es))
lists-parts [] at seen = omega arith
lists-parts (e ∷ es) at seen =
    let next = (expr_walk e.0).end (later at 1) in
    let one = (expr_walk e.0).points (later at 1) seen in
    omega (arith, lists-parts es next one, e.1 (later at 1) seen)

lists-expr_layer : (y : Expr-F ListedExpr) → Lists (walks.expr_layer (map-Expr Expr Walk expr_walk (exprs y))) (expr_layer (map-Expr Expr Part expr_part (exprs y)))
lists-expr_layer (Expr-F.Number n) at seen = omega (arith, length_push seen at)
lists-expr_layer (Expr-F.Refer r) at seen = omega (arith, lists-refer r at seen)
lists-expr_layer (Expr-F.Delay r k) at seen =
    let sign = (refer_walk r).end at in
    let one = (refer_walk r).points at seen in
    omega (arith, length_push ((fixed_walk k).points (later sign 1) one) sign, lists-fixed k (later sign 1) one, lists-refer r at seen)
lists-expr_layer (Expr-F.Slice e h l) at seen =
    let open_at = (expr_walk e.value.0).end at in
    let one = (expr_walk e.value.0).points at seen in
    let high = (fixed_walk h).points (later open_at 1) one in
    let dots = (fixed_walk h).end (later open_at 1) in
    omega (arith, length_push ((fixed_walk l).points (later dots 1) high) open_at, lists-fixed l (later dots 1) high, lists-fixed h (later open_at 1) one, e.value.1 at seen)
lists-expr_layer (Expr-F.Not e) at seen =
    omega (arith, length_push ((expr_walk e.value.0).points (later at 1) seen) at, e.value.1 (later at 1) seen)
lists-expr_layer (Expr-F.Binary op a b) at seen =
    let sign = (expr_walk a.value.0).end at in
    let one = (expr_walk a.value.0).points at seen in
    omega (arith, length_push ((expr_walk b.value.0).points (later sign 1) one) sign, b.value.1 (later sign 1) one, a.value.1 at seen)
lists-expr_layer (Expr-F.Choose c a b) at seen =
    let sign = (expr_walk c.value.0).end at in
    let condition = (expr_walk c.value.0).points at seen in
    let one = (expr_walk a.value.0).points (later sign 1) condition in
    let colon = (expr_walk a.value.0).end (later sign 1) in
    omega (arith, length_push ((expr_walk b.value.0).points (later colon 1) one) sign, b.value.1 (later colon 1) one, a.value.1 (later sign 1) condition, c.value.1 at seen)
lists-expr_layer (Expr-F.Call x es) at seen =
    omega (arith, length_push (parts_points (map expr_walk (map (λ (p : ListedExpr). p.0) es.items)) (later at 1) seen) at, lists-parts es.items (later at 1) seen)
lists-expr_layer (Expr-F.Cat es) at seen =
    omega (arith, length_push (parts_points (map expr_walk (map (λ (p : ListedExpr). p.0) es.items)) (later at 1) seen) at, lists-parts es.items (later at 1) seen)
lists-expr_layer (Expr-F.Paren e) at seen = omega (arith, e.value.1 (later at 1) seen)

pub lists-expr : (e : Expr) → IsListedExpr e
lists-expr = ind-Expr IsListedExpr (λ x y is at seen.
    let layer = subst (λ z. length ((walks.expr_layer (map-Expr Expr Walk expr_walk z)).points at seen) ≡ length seen + points (expr_layer (map-Expr Expr Part expr_part z))) is (lists-expr_layer y at seen) in
    ap (λ (w : Walk). length (w.points at seen)) (fold-roll-Expr Walk walks.expr_layer x) ∙ (layer ∙ ap (λ (p : Part). length seen + points p) (sym (fold-roll-Expr Part expr_layer x))))
