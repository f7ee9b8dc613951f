-- Items with one tree.
use Rattle.std.proofs.Common.{◌≡◌, ◌∙◌, ℕ, Bool, true, false, List, map, Option, Some, None, refl, sym, ap}
use Rattle.std.specs.Global.{Vec}
use Rattle.pr_lang.specs.declared.trees.Fixed.{Fixed, map-Fixed, out-Fixed}
use Rattle.pr_lang.specs.declared.trees.Fixed.TheOpen.{Fixed-F}
use Rattle.pr_lang.specs.declared.trees.Fixed.TheFolds.{fold_out-Fixed}
use Rattle.pr_lang.specs.declared.trees.Expr.{Expr}
use Rattle.pr_lang.specs.declared.trees.Stmt.{Stmt, map-Stmt, out-Stmt}
use Rattle.pr_lang.specs.declared.trees.Stmt.TheOpen.{Stmt-F}
use Rattle.pr_lang.specs.declared.trees.Stmt.TheFolds.{fold_out-Stmt}
use Rattle.pr_lang.specs.declared.trees.Param.{Param}
use Rattle.pr_lang.specs.declared.trees.Item.{Item}
use Rattle.pr_lang.specs.declared.trees.Item.TheVariants as item
use Rattle.pr_lang.specs.Tree.{Tree}
use Rattle.pr_lang.specs.Tree as tree
use Rattle.pr_lang.specs.Shape.{listed, comma_listed, width_tree, fixed_layer, fixed_shape, expr_shape, stmt_layer, stmt_shape, param_shape, item_shape}
use Rattle.pr_lang_same_tree.proofs.Lists.{one-listed, one-comma_listed}
use Rattle.pr_lang_same_tree.proofs.Refs.{one-width, one-params}

-- items of one form, with one name, width and list of parameters, and with expressions and statements that have one tree
pub data LikeItem : Item → Item → Type 0 where
  input : (x : List ℕ) (w : ℕ) → LikeItem (item.Input x w) (item.Input x w)
  output : (x : List ℕ) (w : Option ℕ) (e d : Expr) → expr_shape e ≡ expr_shape d → LikeItem (item.Output x w e) (item.Output x w d)
  const : (x : List ℕ) (c k : Fixed) → fixed_shape c ≡ fixed_shape k → LikeItem (item.Const x c) (item.Const x k)
  table : (x : List ℕ) (cs ks : Vec Fixed) → map fixed_shape cs.items ≡ map fixed_shape ks.items → LikeItem (item.Table x cs) (item.Table x ks)
  function : (x : List ℕ) (ps qs : Vec Param) (w : Option ℕ) (body other : Vec Stmt) (e d : Expr) → ps.items ≡ qs.items → map stmt_shape body.items ≡ map stmt_shape other.items → expr_shape e ≡ expr_shape d → LikeItem (item.Function x ps w body e) (item.Function x qs w other d)
  step : (s t : Stmt) → stmt_shape s ≡ stmt_shape t → LikeItem (item.Step s) (item.Step t)

-- ---- forms that differ
abbrev is_table : Tree → Bool
is_table (tree.table l) = true
is_table _ = false

abbrev is_stmt : Tree → Bool
is_stmt (tree.let_stmt r w e) = true
is_stmt (tree.rec_stmt r w c e) = true
is_stmt (tree.for_stmt x c d b) = true
is_stmt _ = false

fixed-is : (c : Fixed) → is_table (fixed_shape c) ≡ false
fixed-is c = ap is_table (fold_out-Fixed Tree fixed_layer c) ∙ layer (out-Fixed c) where
  layer : (y : Fixed-F Fixed) → is_table (fixed_layer (map-Fixed Fixed Tree fixed_shape y)) ≡ false
  layer (Fixed-F.Number n) = refl
  layer (Fixed-F.Refer x None) = refl
  layer (Fixed-F.Refer x (Some i)) = refl
  layer (Fixed-F.Binary o a b) = refl
  layer (Fixed-F.Paren a) = refl

stmt-is : (s : Stmt) → is_stmt (stmt_shape s) ≡ true
stmt-is s = ap is_stmt (fold_out-Stmt Tree stmt_layer s) ∙ layer (out-Stmt s) where
  layer : (y : Stmt-F Stmt) → is_stmt (stmt_layer (map-Stmt Stmt Tree stmt_shape y)) ≡ true
  layer (Stmt-F.Let r w e) = refl
  layer (Stmt-F.Rec r w c e) = refl
  layer (Stmt-F.For x c d b) = refl

no-table : (c : Fixed) (l : Tree) → fixed_shape c ≡ tree.table l → ⊥
no-table c l same = let differ : false ≡ true = sym (fixed-is c) ∙ ap is_table same in absurd cc

-- ---- one form
pub like-items : (i j : Item) → item_shape i ≡ item_shape j → LikeItem i j
like-items (item.Input x v) (item.Input y w) same =
    let names : x ≡ y = cc in
    let widths : v ≡ w = cc in
    rw (names, widths) (input y w)
like-items (item.Output x v e) (item.Output y w d) same =
    let names : x ≡ y = cc in
    let widths : width_tree v ≡ width_tree w = cc in
    rw (names, one-width v w widths) (output y w e d cc)
like-items (item.Const x c) (item.Const y k) same =
    let names : x ≡ y = cc in
    rw names (const y c k cc)
like-items (item.Table x cs) (item.Table y ks) same =
    let names : x ≡ y = cc in
    let lists : comma_listed (map fixed_shape cs.items) ≡ comma_listed (map fixed_shape ks.items) = cc in
    rw names (table y cs ks (one-comma_listed _ _ lists))
like-items (item.Function x ps v body e) (item.Function y qs w other d) same =
    let names : x ≡ y = cc in
    let params : comma_listed (map param_shape ps.items) ≡ comma_listed (map param_shape qs.items) = cc in
    let widths : width_tree v ≡ width_tree w = cc in
    let bodies : listed (map stmt_shape body.items) ≡ listed (map stmt_shape other.items) = cc in
    rw (names, one-width v w widths) (function y ps qs w body other e d (one-params _ _ (one-comma_listed _ _ params)) (one-listed _ _ bodies) cc)
like-items (item.Step s) (item.Step t) same = step s t same
like-items (item.Const x c) (item.Table y ks) same = absurd (no-table c (comma_listed (map fixed_shape ks.items)) cc)
like-items (item.Table x cs) (item.Const y k) same = absurd (no-table k (comma_listed (map fixed_shape cs.items)) cc)
like-items (item.Step s) j same = absurd (let is : is_stmt (item_shape j) ≡ true = ap is_stmt (sym same) ∙ stmt-is s in cc)
like-items i (item.Step t) same = absurd (let is : is_stmt (item_shape i) ≡ true = ap is_stmt same ∙ stmt-is t in cc)
like-items i j same = absurd cc
