-- Statements with one tree: what a fold makes of them is the same, if its layers read only what the tree has.
use Rattle.std.proofs.Common.{◌≡◌, ◌∙◌, ℕ, List, map, Option, refl, sym, ap, subst}
use Rattle.std.specs.Global.{Vec}
use Rattle.pr_lang.specs.declared.trees.Fixed.{Fixed}
use Rattle.pr_lang.specs.declared.trees.Ref.{Ref}
use Rattle.pr_lang.specs.declared.trees.Expr.{Expr}
use Rattle.pr_lang.specs.declared.trees.Stmt.{Stmt, map-Stmt, out-Stmt}
use Rattle.pr_lang.specs.declared.trees.Stmt.TheOpen.{Stmt-F}
use Rattle.pr_lang.specs.declared.trees.Stmt.TheFolds.{fold-Stmt, fold-roll-Stmt, fold_out-Stmt, ind-Stmt}
use Rattle.pr_lang.specs.Is.{name_tree}
use Rattle.pr_lang.specs.Tree.{Tree}
use Rattle.pr_lang.specs.Tree as tree
use Rattle.pr_lang.specs.Shape.{listed, width_tree, fixed_shape, ref_shape, expr_shape, stmt_layer, stmt_shape}
use Rattle.pr_lang_same_tree.proofs.Lists.{one-listed, each-proved}
use Rattle.pr_lang_same_tree.proofs.Refs.{LikeRef, like-refs, one-width}

-- layers of one form, with one name and width, with expressions that have one tree, and with the same in their parts' places
pub data LikeStmt (X : Type 0) : Stmt-F X → Stmt-F X → Type 0 where
  let_stmt : (r s : Ref) (w : Option ℕ) (e d : Expr) → LikeRef r s → expr_shape e ≡ expr_shape d → LikeStmt X (Stmt-F.Let r w e) (Stmt-F.Let s w d)
  rec_stmt : (r s : Ref) (w : Option ℕ) (c k : Fixed) (e d : Expr) → LikeRef r s → fixed_shape c ≡ fixed_shape k → expr_shape e ≡ expr_shape d → LikeStmt X (Stmt-F.Rec r w c e) (Stmt-F.Rec s w k d)
  for_stmt : (x : List ℕ) (g h k l : Fixed) (body other : Vec X) → fixed_shape g ≡ fixed_shape h → fixed_shape k ≡ fixed_shape l → body.items ≡ other.items → LikeStmt X (Stmt-F.For x g k body) (Stmt-F.For x h l other)

-- what a layer is by its tree
data Seen : Tree → Stmt-F Stmt → Type 0 where
  let_stmt : (t u v : Tree) (r : Ref) (w : Option ℕ) (e : Expr) → t ≡ ref_shape r → u ≡ width_tree w → v ≡ expr_shape e → Seen (tree.let_stmt t u v) (Stmt-F.Let r w e)
  rec_stmt : (t u i v : Tree) (r : Ref) (w : Option ℕ) (c : Fixed) (e : Expr) → t ≡ ref_shape r → u ≡ width_tree w → i ≡ fixed_shape c → v ≡ expr_shape e → Seen (tree.rec_stmt t u i v) (Stmt-F.Rec r w c e)
  for_stmt : (x : List ℕ) (t u v : Tree) (g h : Fixed) (body : Vec Stmt) → t ≡ fixed_shape g → u ≡ fixed_shape h → v ≡ listed (map stmt_shape body.items) → Seen (tree.for_stmt (name_tree x) t u v) (Stmt-F.For x g h body)

abbrev layer_tree : Stmt-F Stmt → Tree
layer_tree y = stmt_layer (map-Stmt Stmt Tree stmt_shape y)

seen : (y : Stmt-F Stmt) → Seen (layer_tree y) y
seen (Stmt-F.Let r w e) = let_stmt _ _ _ r w e refl refl refl
seen (Stmt-F.Rec r w c e) = rec_stmt _ _ _ _ r w c e refl refl refl refl
seen (Stmt-F.For x g h body) = for_stmt x _ _ _ g h body refl refl refl

module _ (X : Type 0) (step : Stmt-F X → X) where
  abbrev fold : Stmt → X
  fold = fold-Stmt X step

  abbrev HasOneValue : Stmt → Type 0
  HasOneValue s = (t : Stmt) → stmt_shape s ≡ stmt_shape t → fold s ≡ fold t

  abbrev Proved : Type 0
  Proved = (s : Stmt) × HasOneValue s

  abbrev plain : Stmt-F Proved → Stmt-F Stmt
  plain z = map-Stmt Proved Stmt (λ p. p.0) z

  like : (z : Stmt-F Proved) (y : Stmt-F Stmt) → Seen (layer_tree (plain z)) y → LikeStmt X (map-Stmt Stmt X fold (plain z)) (map-Stmt Stmt X fold y)
  like (Stmt-F.Let r w e) y (let_stmt t u v s w' d target width value) = rw (one-width w w' width) (let_stmt r s w' e d (like-refs r s target) value)
  like (Stmt-F.Rec r w c e) y (rec_stmt t u i v s w' k d target width init value) = rw (one-width w w' width) (rec_stmt r s w' c k e d (like-refs r s target) init value)
  like (Stmt-F.For x g k body) y (for_stmt x' t u v h l other low high are) = for_stmt x g h k l _ _ low high (each-proved stmt_shape fold body.items other.items (one-listed _ _ are))

  -- a fold whose layers are alike makes the same of statements with one tree
  pub same-fold : ((x y : Stmt-F X) → LikeStmt X x y → step x ≡ step y) → (s t : Stmt) → stmt_shape s ≡ stmt_shape t → fold s ≡ fold t
  same-fold even = ind-Stmt HasOneValue (λ x z is d same.
      let tree_of : layer_tree (out-Stmt d) ≡ layer_tree x = sym (fold_out-Stmt Tree stmt_layer d) ∙ (sym same ∙ fold-roll-Stmt Tree stmt_layer x) in
      let view : Seen (layer_tree (plain z)) (out-Stmt d) = subst (λ t. Seen t (out-Stmt d)) (tree_of ∙ ap layer_tree (sym is)) (seen (out-Stmt d)) in
      fold-roll-Stmt X step x ∙ (ap (λ l. step (map-Stmt Stmt X fold l)) (sym is) ∙ (even (map-Stmt Stmt X fold (plain z)) (map-Stmt Stmt X fold (out-Stmt d)) (like z (out-Stmt d) view) ∙ sym (fold_out-Stmt X step d))))
