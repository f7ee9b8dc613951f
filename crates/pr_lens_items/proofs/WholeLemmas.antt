-- Expressions of which all points are kept.
use Rattle.std.proofs.Common.{◌≡◌, ◌∙◌, ◌+◌, ◌-◌, ◌<◌, ◌∷◌, [], ℕ, false, List, Option, Some, None, map, refl, sym, ap, ap₂, subst, arith}
use Rattle.std.proofs.lemmas.Bool.{le-ltb, cond-false}
use Rattle.pr_lang.specs.declared.trees.Fixed.{Fixed, map-Fixed}
use Rattle.pr_lang.specs.declared.trees.Fixed.TheOpen.{Fixed-F}
use Rattle.pr_lang.specs.declared.trees.Fixed.TheFolds.{fold-roll-Fixed, ind-Fixed}
use Rattle.pr_lang.specs.declared.trees.Ref.{Ref}
use Rattle.pr_lang.specs.declared.trees.Expr.{Expr, map-Expr}
use Rattle.pr_lang.specs.declared.trees.Expr.TheOpen.{Expr-F}
use Rattle.pr_lang.specs.declared.trees.Expr.TheFolds.{fold-roll-Expr, ind-Expr}
use Rattle.pr_lang.specs.Is.{name_tree, number_tree}
use Rattle.pr_lang.specs.Tree.{Tree}
use Rattle.pr_lang.specs.Tree as tree
use Rattle.pr_lang.specs.Shape.{fixed_shape, index_shape, ref_shape, expr_shape, sign_of, fixed_sign_of, comma_listed}
use Rattle.pr_lang.specs.Shape as shape
use Rattle.pr_lens_items.specs.Cuts.{Part, points, cut_off, is_out, fixed_layer, fixed_part, index_points, index_left, target_left, expr_layer, expr_part, all_points, parts_left}

-- ---- points that are kept
kept : (before from : ℕ) → before + 1 < from → is_out (from - before) ≡ false
kept before from more = le-ltb (from - before) 2 (omega (arith, more))

opened : (p : Part) (from : ℕ) → points p < from → cut_off p from ≡ p.left from
opened p from more = cond-false (is_out from) (number_tree 0) (p.left from) (le-ltb from 2 (omega (arith, more)))

whole-left : (p : Part) (t : Tree) → ((from : ℕ) → points p < from → cut_off p from ≡ t) → (from : ℕ) → points p < from → p.left from ≡ t
whole-left p t whole from more = sym (opened p from more) ∙ whole from more

-- ---- constant expressions
abbrev IsWholeFixed : Fixed → Type 0
IsWholeFixed f = (from : ℕ) → points (fixed_part f) < from → cut_off (fixed_part f) from ≡ fixed_shape f

abbrev WholeFixed : Type 0
WholeFixed = (f : Fixed) × IsWholeFixed f

abbrev fixeds : Fixed-F WholeFixed → Fixed-F Fixed
fixeds y = map-Fixed WholeFixed Fixed (λ p. p.0) y

whole-fixed_layer : (y : Fixed-F WholeFixed) (from : ℕ) → points (fixed_layer (map-Fixed Fixed Part fixed_part (fixeds y))) < from
    → cut_off (fixed_layer (map-Fixed Fixed Part fixed_part (fixeds y))) from ≡ shape.fixed_layer (map-Fixed Fixed Tree fixed_shape (fixeds y))
whole-fixed_layer (Fixed-F.Number n) from more = opened (fixed_layer (Fixed-F.Number n)) from more
whole-fixed_layer (Fixed-F.Refer x None) from more = opened (fixed_layer (Fixed-F.Refer x None)) from more
whole-fixed_layer (Fixed-F.Refer x (Some i)) from more =
    let p = points (fixed_part i.value.0) in
    let start : is_out from ≡ false = le-ltb from 2 (omega (arith, more)) in
    let own : is_out (from - p) ≡ false = kept p from more in
    rw (start, own, whole-left (fixed_part i.value.0) (fixed_shape i.value.0) i.value.1 from (omega (arith, more)))
whole-fixed_layer (Fixed-F.Binary op a b) from more =
    let p = points (fixed_part a.value.0) in
    let q = points (fixed_part b.value.0) in
    let start : is_out from ≡ false = le-ltb from 2 (omega (arith, more)) in
    let second : is_out (from - p) ≡ false = le-ltb (from - p) 2 (omega (arith, more)) in
    let own : is_out (from - p - q) ≡ false = le-ltb (from - p - q) 2 (omega (arith, more)) in
    rw (start, second, own, whole-left (fixed_part a.value.0) (fixed_shape a.value.0) a.value.1 from (omega (arith, more)), whole-left (fixed_part b.value.0) (fixed_shape b.value.0) b.value.1 (from - p) (omega (arith, more)))
whole-fixed_layer (Fixed-F.Paren a) from more =
    let start : is_out from ≡ false = le-ltb from 2 (omega (arith, more)) in
    rw (start, whole-left (fixed_part a.value.0) (fixed_shape a.value.0) a.value.1 from (omega (arith, more)))

pub whole-fixed : (f : Fixed) → IsWholeFixed f
whole-fixed = ind-Fixed IsWholeFixed (λ x y is from more.
    let layer : points (fixed_layer (map-Fixed Fixed Part fixed_part x)) < from → cut_off (fixed_layer (map-Fixed Fixed Part fixed_part x)) from ≡ shape.fixed_layer (map-Fixed Fixed Tree fixed_shape x) =
    subst (λ z. points (fixed_layer (map-Fixed Fixed Part fixed_part z)) < from → cut_off (fixed_layer (map-Fixed Fixed Part fixed_part z)) from ≡ shape.fixed_layer (map-Fixed Fixed Tree fixed_shape z)) is (whole-fixed_layer y from) in
    let opened_up = fold-roll-Fixed Part fixed_layer x in
    ap (λ (p : Part). cut_off p from) opened_up ∙ (layer (subst (λ (p : Part). points p < from) opened_up more) ∙ sym (fold-roll-Fixed Tree shape.fixed_layer x)))

-- ---- names with an index
whole-index : (o : Option Fixed) (from : ℕ) → index_points o < from → index_left o from ≡ index_shape o
whole-index None from more = refl
whole-index (Some i) from more = ap (λ (t : Tree). tree.index t) (whole-fixed i from more)

whole-target : (r : Ref) (from : ℕ) → index_points r.index < from → target_left r from ≡ ref_shape r
whole-target r from more = ap (λ (t : Tree). tree.refer (name_tree r.name) t) (whole-index r.index from more)

-- ---- expressions
abbrev IsWholeExpr : Expr → Type 0
IsWholeExpr e = (from : ℕ) → points (expr_part e) < from → cut_off (expr_part e) from ≡ expr_shape e

abbrev WholeExpr : Type 0
WholeExpr = (e : Expr) × IsWholeExpr e

abbrev exprs : Expr-F WholeExpr → Expr-F Expr
exprs y = map-Expr WholeExpr Expr (λ p. p.0) y

whole-parts : (es : List WholeExpr) (from : ℕ) → all_points (map expr_part (map (λ (p : WholeExpr). p.0) es)) + 1 < from
    → parts_left (map expr_part (map (λ (p : WholeExpr). p.0) es)) from ≡ map expr_shape (map (λ (p : WholeExpr). p.0) es)
whole-parts [] from more = refl
whole-parts (e ∷ es) from more =
    let p = points (expr_part e.0) in
    let start : is_out from ≡ false = le-ltb from 2 (omega (arith, more)) in
    rw (start, whole-left (expr_part e.0) (expr_shape e.0) e.1 from (omega (arith, more)), whole-parts es (from - p) (omega (arith, more)))

whole-expr_layer : (y : Expr-F WholeExpr) (from : ℕ) → points (expr_layer (map-Expr Expr Part expr_part (exprs y))) < from
    → cut_off (expr_layer (map-Expr Expr Part expr_part (exprs y))) from ≡ shape.expr_layer (map-Expr Expr Tree expr_shape (exprs y))
whole-expr_layer (Expr-F.Number n) from more = opened (expr_layer (Expr-F.Number n)) from more
whole-expr_layer (Expr-F.Refer r) from more =
    let start : is_out from ≡ false = le-ltb from 2 (omega (arith, more)) in
    let own : is_out (from - index_points r.index) ≡ false = kept (index_points r.index) from more in
    rw (start, own) (whole-target r from (omega (arith, more)))
whole-expr_layer (Expr-F.Delay r k) from more =
    let i = index_points r.index in
    let p = points (fixed_part k) in
    let start : is_out from ≡ false = le-ltb from 2 (omega (arith, more)) in
    let name : is_out (from - i) ≡ false = le-ltb (from - i) 2 (omega (arith, more)) in
    let amount : is_out (from - i - 1) ≡ false = le-ltb (from - i - 1) 2 (omega (arith, more)) in
    let own : is_out (from - i - 1 - p) ≡ false = le-ltb (from - i - 1 - p) 2 (omega (arith, more)) in
    rw (start, name, amount, own) (ap₂ (λ (t u : Tree). tree.delay t u) (whole-target r from (omega (arith, more))) (whole-left (fixed_part k) (fixed_shape k) (whole-fixed k) (from - i - 1) (omega (arith, more))))
whole-expr_layer (Expr-F.Slice e h l) from more =
    let p = points (expr_part e.value.0) in
    let q = points (fixed_part h) in
    let r = points (fixed_part l) in
    let start : is_out from ≡ false = le-ltb from 2 (omega (arith, more)) in
    let high : is_out (from - p) ≡ false = le-ltb (from - p) 2 (omega (arith, more)) in
    let low : is_out (from - p - q) ≡ false = le-ltb (from - p - q) 2 (omega (arith, more)) in
    let own : is_out (from - p - q - r) ≡ false = le-ltb (from - p - q - r) 2 (omega (arith, more)) in
    rw (start, high, low, own, whole-left (expr_part e.value.0) (expr_shape e.value.0) e.value.1 from (omega (arith, more)), whole-left (fixed_part h) (fixed_shape h) (whole-fixed h) (from - p) (omega (arith, more)), whole-left (fixed_part l) (fixed_shape l) (whole-fixed l) (from - p - q) (omega (arith, more)))
whole-expr_layer (Expr-F.Not e) from more =
    let p = points (expr_part e.value.0) in
    let start : is_out from ≡ false = le-ltb from 2 (omega (arith, more)) in
    let own : is_out (from - p) ≡ false = kept p from more in
    rw (start, own, whole-left (expr_part e.value.0) (expr_shape e.value.0) e.value.1 from (omega (arith, more)))
whole-expr_layer (Expr-F.Binary op a b) from more =
    let p = points (expr_part a.value.0) in
    let q = points (expr_part b.value.0) in
    let start : is_out from ≡ false = le-ltb from 2 (omega (arith, more)) in
    let second : is_out (from - p) ≡ false = le-ltb (from - p) 2 (omega (arith, more)) in
    let own : is_out (from - p - q) ≡ false = le-ltb (from - p - q) 2 (omega (arith, more)) in
    rw (start, second, own, whole-left (expr_part a.value.0) (expr_shape a.value.0) a.value.1 from (omega (arith, more)), whole-left (expr_part b.value.0) (expr_shape b.value.0) b.value.1 (from - p) (omega (arith, more)))
whole-expr_layer (Expr-F.Choose c a b) from more =
    let p = points (expr_part c.value.0) in
    let q = points (expr_part a.value.0) in
    let r = points (expr_part b.value.0) in
    let start : is_out from ≡ false = le-ltb from 2 (omega (arith, more)) in
    let second : is_out (from - p) ≡ false = le-ltb (from - p) 2 (omega (arith, more)) in
    let own : is_out (from - p - q - r) ≡ false = le-ltb (from - p - q - r) 2 (omega (arith, more)) in
    rw (start, second, own, whole-left (expr_part c.value.0) (expr_shape c.value.0) c.value.1 from (omega (arith, more)), whole-left (expr_part a.value.0) (expr_shape a.value.0) a.value.1 (from - p) (omega (arith, more)), b.value.1 (from - p - q) (omega (arith, more)))
whole-expr_layer (Expr-F.Call x es) from more =
    let p = all_points (map expr_part (map (λ (e : WholeExpr). e.0) es.items)) in
    let start : is_out from ≡ false = le-ltb from 2 (omega (arith, more)) in
    let own : is_out (from - p) ≡ false = kept p from more in
    rw (start, own) (ap (λ (ts : List Tree). tree.call (name_tree x) (comma_listed ts)) (whole-parts es.items from more))
whole-expr_layer (Expr-F.Cat es) from more =
    let p = all_points (map expr_part (map (λ (e : WholeExpr). e.0) es.items)) in
    let start : is_out from ≡ false = le-ltb from 2 (omega (arith, more)) in
    let own : is_out (from - p) ≡ false = kept p from more in
    rw (start, own) (ap (λ (ts : List Tree). tree.cat (comma_listed ts)) (whole-parts es.items from more))
whole-expr_layer (Expr-F.Paren e) from more =
    let start : is_out from ≡ false = le-ltb from 2 (omega (arith, more)) in
    rw (start, whole-left (expr_part e.value.0) (expr_shape e.value.0) e.value.1 from (omega (arith, more)))

pub whole-expr : (e : Expr) → IsWholeExpr e
whole-expr = ind-Expr IsWholeExpr (λ x y is from more.
    let layer : points (expr_layer (map-Expr Expr Part expr_part x)) < from → cut_off (expr_layer (map-Expr Expr Part expr_part x)) from ≡ shape.expr_layer (map-Expr Expr Tree expr_shape x) =
    subst (λ z. points (expr_layer (map-Expr Expr Part expr_part z)) < from → cut_off (expr_layer (map-Expr Expr Part expr_part z)) from ≡ shape.expr_layer (map-Expr Expr Tree expr_shape z)) is (whole-expr_layer y from) in
    let opened_up = fold-roll-Expr Part expr_layer x in
    ap (λ (p : Part). cut_off p from) opened_up ∙ (layer (subst (λ (p : Part). points p < from) opened_up more) ∙ sym (fold-roll-Expr Tree shape.expr_layer x)))
