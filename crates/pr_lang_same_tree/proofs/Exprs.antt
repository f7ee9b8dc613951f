-- Expressions with one tree: what a fold makes of them is the same, if its layers read only what the tree has.
use Rattle.std.proofs.Common.{◌≡◌, ◌∙◌, ℕ, List, map, refl, sym, ap, subst}
use Rattle.std.specs.Global.{Box, Vec}
use Rattle.pr_lang.specs.declared.trees.BinOp.{BinOp}
use Rattle.pr_lang.specs.declared.trees.Fixed.{Fixed}
use Rattle.pr_lang.specs.declared.trees.Ref.{Ref}
use Rattle.pr_lang.specs.declared.trees.Expr.{Expr, map-Expr, out-Expr}
use Rattle.pr_lang.specs.declared.trees.Expr.TheOpen.{Expr-F}
use Rattle.pr_lang.specs.declared.trees.Expr.TheFolds.{fold-Expr, fold-roll-Expr, fold_out-Expr, ind-Expr}
use Rattle.pr_lang.specs.Is.{name_tree, number_tree, sign_tree}
use Rattle.pr_lang.specs.Tree.{Tree}
use Rattle.pr_lang.specs.Tree as tree
use Rattle.pr_lang.specs.Shape.{sign_of, comma_listed, fixed_shape, ref_shape, expr_layer, expr_shape}
use Rattle.pr_lang_same_tree.proofs.Lists.{one-comma_listed, each-proved}
use Rattle.pr_lang_same_tree.proofs.Refs.{LikeRef, like-refs, one-op}

-- layers of one form, with one name, number and operator, and with the same in their parts' places
pub data LikeExpr (X : Type 0) : Expr-F X → Expr-F X → Type 0 where
  number : (n : ℕ) → LikeExpr X (Expr-F.Number n) (Expr-F.Number n)
  refer : (r s : Ref) → LikeRef r s → LikeExpr X (Expr-F.Refer r) (Expr-F.Refer s)
  delay : (r s : Ref) (j k : Fixed) → LikeRef r s → fixed_shape j ≡ fixed_shape k → LikeExpr X (Expr-F.Delay r j) (Expr-F.Delay s k)
  slice : (a b : Box X) (g h k l : Fixed) → a.value ≡ b.value → fixed_shape g ≡ fixed_shape h → fixed_shape k ≡ fixed_shape l → LikeExpr X (Expr-F.Slice a g k) (Expr-F.Slice b h l)
  not : (a b : Box X) → a.value ≡ b.value → LikeExpr X (Expr-F.Not a) (Expr-F.Not b)
  binary : (o : BinOp) (a b c d : Box X) → a.value ≡ c.value → b.value ≡ d.value → LikeExpr X (Expr-F.Binary o a b) (Expr-F.Binary o c d)
  choose : (a b c d e f : Box X) → a.value ≡ d.value → b.value ≡ e.value → c.value ≡ f.value → LikeExpr X (Expr-F.Choose a b c) (Expr-F.Choose d e f)
  call : (x : List ℕ) (es ds : Vec X) → es.items ≡ ds.items → LikeExpr X (Expr-F.Call x es) (Expr-F.Call x ds)
  cat : (es ds : Vec X) → es.items ≡ ds.items → LikeExpr X (Expr-F.Cat es) (Expr-F.Cat ds)
  paren : (a b : Box X) → a.value ≡ b.value → LikeExpr X (Expr-F.Paren a) (Expr-F.Paren b)

-- what a layer is by its tree
data Seen : Tree → Expr-F Expr → Type 0 where
  number : (n : ℕ) → Seen (number_tree n) (Expr-F.Number n)
  refer : (x i : Tree) (r : Ref) → tree.refer x i ≡ ref_shape r → Seen (tree.refer x i) (Expr-F.Refer r)
  delay : (t u : Tree) (r : Ref) (k : Fixed) → t ≡ ref_shape r → u ≡ fixed_shape k → Seen (tree.delay t u) (Expr-F.Delay r k)
  slice : (t u v : Tree) (e : Box Expr) (h l : Fixed) → t ≡ expr_shape e.value → u ≡ fixed_shape h → v ≡ fixed_shape l → Seen (tree.slice t u v) (Expr-F.Slice e h l)
  not : (t : Tree) (e : Box Expr) → t ≡ expr_shape e.value → Seen (tree.not t) (Expr-F.Not e)
  binary : (s t u : Tree) (o : BinOp) (a b : Box Expr) → s ≡ sign_tree (sign_of o) → t ≡ expr_shape a.value → u ≡ expr_shape b.value → Seen (tree.binary s t u) (Expr-F.Binary o a b)
  choose : (t u v : Tree) (a b c : Box Expr) → t ≡ expr_shape a.value → u ≡ expr_shape b.value → v ≡ expr_shape c.value → Seen (tree.choose t u v) (Expr-F.Choose a b c)
  call : (x : List ℕ) (t : Tree) (es : Vec Expr) → t ≡ comma_listed (map expr_shape es.items) → Seen (tree.call (name_tree x) t) (Expr-F.Call x es)
  cat : (t : Tree) (es : Vec Expr) → t ≡ comma_listed (map expr_shape es.items) → Seen (tree.cat t) (Expr-F.Cat es)
  paren : (t : Tree) (e : Box Expr) → t ≡ expr_shape e.value → Seen (tree.paren t) (Expr-F.Paren e)

abbrev layer_tree : Expr-F Expr → Tree
layer_tree y = expr_layer (map-Expr Expr Tree expr_shape y)

seen : (y : Expr-F Expr) → Seen (layer_tree y) y
seen (Expr-F.Number n) = number n
seen (Expr-F.Refer r) = refer _ _ r refl
seen (Expr-F.Delay r k) = delay _ _ r k refl refl
seen (Expr-F.Slice e h l) = slice _ _ _ e h l refl refl refl
seen (Expr-F.Not e) = not _ e refl
seen (Expr-F.Binary o a b) = binary _ _ _ o a b refl refl refl
seen (Expr-F.Choose a b c) = choose _ _ _ a b c refl refl refl
seen (Expr-F.Call x es) = call x _ es refl
seen (Expr-F.Cat es) = cat _ es refl
seen (Expr-F.Paren e) = paren _ e refl

module _ (X : Type 0) (step : Expr-F X → X) where
  abbrev fold : Expr → X
  fold = fold-Expr X step

  abbrev HasOneValue : Expr → Type 0
  HasOneValue e = (d : Expr) → expr_shape e ≡ expr_shape d → fold e ≡ fold d

  abbrev Proved : Type 0
  Proved = (e : Expr) × HasOneValue e

  abbrev plain : Expr-F Proved → Expr-F Expr
  plain z = map-Expr Proved Expr (λ p. p.0) z

  like : (z : Expr-F Proved) (y : Expr-F Expr) → Seen (layer_tree (plain z)) y → LikeExpr X (map-Expr Expr X fold (plain z)) (map-Expr Expr X fold y)
  like (Expr-F.Number n) y (number m) = number n
  like (Expr-F.Refer r) y (refer x i s is) = refer r s (like-refs r s is)
  like (Expr-F.Delay r j) y (delay t u s k is by) = delay r s j k (like-refs r s is) by
  like (Expr-F.Slice a g k) y (slice t u v b h l is high low) = slice _ _ g h k l (a.value.1 b.value is) high low
  like (Expr-F.Not a) y (not t b is) = not _ _ (a.value.1 b.value is)
  like (Expr-F.Binary o a b) y (binary s t u p c d sign left right) = rw (one-op o p sign) (binary p _ _ _ _ (a.value.1 c.value left) (b.value.1 d.value right))
  like (Expr-F.Choose a b c) y (choose t u v d e f first second third) = choose _ _ _ _ _ _ (a.value.1 d.value first) (b.value.1 e.value second) (c.value.1 f.value third)
  like (Expr-F.Call x es) y (call x' t ds are) = call x _ _ (each-proved expr_shape fold es.items ds.items (one-comma_listed _ _ are))
  like (Expr-F.Cat es) y (cat t ds are) = cat _ _ (each-proved expr_shape fold es.items ds.items (one-comma_listed _ _ are))
  like (Expr-F.Paren a) y (paren t b is) = paren _ _ (a.value.1 b.value is)

  -- a fold whose layers are alike makes the same of expressions with one tree
  pub same-fold : ((x y : Expr-F X) → LikeExpr X x y → step x ≡ step y) → (e d : Expr) → expr_shape e ≡ expr_shape d → fold e ≡ fold d
  same-fold even = ind-Expr HasOneValue (λ x z is d same.
      let tree_of : layer_tree (out-Expr d) ≡ layer_tree x = sym (fold_out-Expr Tree expr_layer d) ∙ (sym same ∙ fold-roll-Expr Tree expr_layer x) in
      let view : Seen (layer_tree (plain z)) (out-Expr d) = subst (λ t. Seen t (out-Expr d)) (tree_of ∙ ap layer_tree (sym is)) (seen (out-Expr d)) in
      fold-roll-Expr X step x ∙ (ap (λ l. step (map-Expr Expr X fold l)) (sym is) ∙ (even (map-Expr Expr X fold (plain z)) (map-Expr Expr X fold (out-Expr d)) (like z (out-Expr d) view) ∙ sym (fold_out-Expr X step d))))
