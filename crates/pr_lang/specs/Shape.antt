-- The tree of a program.
use Rattle.std.specs.Prelude.{ℕ, Option, Some, None, List, [], ◌∷◌, map}
use Rattle.pr_lang.specs.declared.tokens.Symbol.{Symbol}
use Rattle.pr_lang.specs.declared.tokens.Symbol.TheVariants as symbols
use Rattle.pr_lang.specs.declared.trees.BinOp.{BinOp}
use Rattle.pr_lang.specs.declared.trees.BinOp.TheVariants.{Add, Sub, Mul, And, Or, Xor, Equal, NotEqual, Less, LessEqual, Greater, GreaterEqual, Left, Right}
use Rattle.pr_lang.specs.declared.trees.FixedOp.{FixedOp}
use Rattle.pr_lang.specs.declared.trees.FixedOp.TheVariants as fixed
use Rattle.pr_lang.specs.declared.trees.Fixed.{Fixed}
use Rattle.pr_lang.specs.declared.trees.Fixed.TheOpen.{Fixed-F}
use Rattle.pr_lang.specs.declared.trees.Fixed.TheFolds.{fold-Fixed}
use Rattle.pr_lang.specs.declared.trees.Ref.{Ref}
use Rattle.pr_lang.specs.declared.trees.Expr.{Expr}
use Rattle.pr_lang.specs.declared.trees.Expr.TheOpen.{Expr-F}
use Rattle.pr_lang.specs.declared.trees.Expr.TheFolds.{fold-Expr}
use Rattle.pr_lang.specs.declared.trees.Stmt.{Stmt}
use Rattle.pr_lang.specs.declared.trees.Stmt.TheOpen.{Stmt-F}
use Rattle.pr_lang.specs.declared.trees.Stmt.TheFolds.{fold-Stmt}
use Rattle.pr_lang.specs.declared.trees.Param.{Param}
use Rattle.pr_lang.specs.declared.trees.Item.{Item}
use Rattle.pr_lang.specs.declared.trees.Item.TheVariants as item
use Rattle.pr_lang.specs.declared.trees.Program.{Program}
use Rattle.pr_lang.specs.Is.{name_tree, number_tree, sign_tree}
use Rattle.pr_lang.specs.Tree.{Tree}
use Rattle.pr_lang.specs.Tree as tree

abbrev pub sign_of : BinOp → Symbol
sign_of Add = symbols.Plus
sign_of Sub = symbols.Minus
sign_of Mul = symbols.Star
sign_of And = symbols.Amp
sign_of Or = symbols.Bar
sign_of Xor = symbols.Caret
sign_of Equal = symbols.Equal
sign_of NotEqual = symbols.NotEqual
sign_of Less = symbols.Less
sign_of LessEqual = symbols.LessEqual
sign_of Greater = symbols.Greater
sign_of GreaterEqual = symbols.GreaterEqual
sign_of Left = symbols.ShiftLeft
sign_of Right = symbols.ShiftRight

abbrev pub fixed_sign_of : FixedOp → Symbol
fixed_sign_of fixed.Add = symbols.Plus
fixed_sign_of fixed.Sub = symbols.Minus
fixed_sign_of fixed.Mul = symbols.Star
fixed_sign_of fixed.Div = symbols.Slash
fixed_sign_of fixed.Mod = symbols.Percent

-- more of a list, and more of a list with commas
abbrev pub onto : Tree → List Tree → Tree
onto l [] = l
onto l (t ∷ ts) = onto (tree.more l t) ts

abbrev pub comma_onto : Tree → List Tree → Tree
comma_onto l [] = l
comma_onto l (t ∷ ts) = comma_onto (tree.also l t) ts

abbrev pub listed : List Tree → Tree
listed ts = onto tree.none ts

abbrev pub comma_listed : List Tree → Tree
comma_listed [] = tree.none
comma_listed (t ∷ ts) = comma_onto (tree.more tree.none t) ts

abbrev pub width_tree : Option ℕ → Tree
width_tree None = tree.no_width
width_tree (Some w) = tree.width (number_tree w)

abbrev pub index_tree : Option Tree → Tree
index_tree None = tree.no_index
index_tree (Some t) = tree.index t

abbrev pub fixed_layer : Fixed-F Tree → Tree
fixed_layer (Fixed-F.Number n) = number_tree n
fixed_layer (Fixed-F.Refer x None) = tree.refer (name_tree x) tree.no_index
fixed_layer (Fixed-F.Refer x (Some i)) = tree.refer (name_tree x) (tree.index i.value)
fixed_layer (Fixed-F.Binary op a b) = tree.binary (sign_tree (fixed_sign_of op)) a.value b.value
fixed_layer (Fixed-F.Paren a) = tree.paren a.value

abbrev pub fixed_shape : Fixed → Tree
fixed_shape = fold-Fixed Tree fixed_layer

abbrev pub index_shape : Option Fixed → Tree
index_shape None = tree.no_index
index_shape (Some i) = tree.index (fixed_shape i)

abbrev pub ref_shape : Ref → Tree
ref_shape r = tree.refer (name_tree r.name) (index_shape r.index)

abbrev pub expr_layer : Expr-F Tree → Tree
expr_layer (Expr-F.Number n) = number_tree n
expr_layer (Expr-F.Refer r) = ref_shape r
expr_layer (Expr-F.Delay r k) = tree.delay (ref_shape r) (fixed_shape k)
expr_layer (Expr-F.Slice e h l) = tree.slice e.value (fixed_shape h) (fixed_shape l)
expr_layer (Expr-F.Not e) = tree.not e.value
expr_layer (Expr-F.Binary op a b) = tree.binary (sign_tree (sign_of op)) a.value b.value
expr_layer (Expr-F.Choose c a b) = tree.choose c.value a.value b.value
expr_layer (Expr-F.Call x args) = tree.call (name_tree x) (comma_listed args.items)
expr_layer (Expr-F.Cat parts) = tree.cat (comma_listed parts.items)
expr_layer (Expr-F.Paren e) = tree.paren e.value

abbrev pub expr_shape : Expr → Tree
expr_shape = fold-Expr Tree expr_layer

abbrev pub stmt_layer : Stmt-F Tree → Tree
stmt_layer (Stmt-F.Let r w e) = tree.let_stmt (ref_shape r) (width_tree w) (expr_shape e)
stmt_layer (Stmt-F.Rec r w c e) = tree.rec_stmt (ref_shape r) (width_tree w) (fixed_shape c) (expr_shape e)
stmt_layer (Stmt-F.For x c d body) = tree.for_stmt (name_tree x) (fixed_shape c) (fixed_shape d) (listed body.items)

abbrev pub stmt_shape : Stmt → Tree
stmt_shape = fold-Stmt Tree stmt_layer

abbrev pub param_shape : Param → Tree
param_shape p = tree.param (name_tree p.name) (width_tree p.width)

abbrev pub item_shape : Item → Tree
item_shape (item.Input x w) = tree.input (name_tree x) (number_tree w)
item_shape (item.Output x w e) = tree.output (name_tree x) (width_tree w) (expr_shape e)
item_shape (item.Const x c) = tree.const (name_tree x) (fixed_shape c)
item_shape (item.Table x cs) = tree.const (name_tree x) (tree.table (comma_listed (map fixed_shape cs.items)))
item_shape (item.Function x ps w body e) = tree.function (name_tree x) (comma_listed (map param_shape ps.items)) (width_tree w) (listed (map stmt_shape body.items)) (expr_shape e)
item_shape (item.Step s) = stmt_shape s

abbrev pub program_shape : Program → Tree
program_shape p = listed (map item_shape p.items.items)
