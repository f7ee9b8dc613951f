-- What is left of a tree that is cut off from a point on. Points and frames are counted from 1, and what stands before the
-- point is kept.
use Rattle.std.specs.Prelude.{ℕ, ◌≡◌, ◌+◌, ◌-◌, ◌<◌, ◌==◌, ◌++◌, ◌∷◌, [], Bool, List, Option, Some, None, if◌then◌else◌, nat_lt, map}
use Rattle.pr_lang.specs.declared.tokens.Symbol.TheVariants as symbols
use Rattle.pr_lang.specs.declared.trees.BinOp.{BinOp}
use Rattle.pr_lang.specs.declared.trees.FixedOp.{FixedOp}
use Rattle.pr_lang.specs.declared.trees.Fixed.{Fixed}
use Rattle.pr_lang.specs.declared.trees.Fixed.TheOpen.{Fixed-F}
use Rattle.pr_lang.specs.declared.trees.Fixed.TheFolds.{fold-Fixed}
use Rattle.pr_lang.specs.declared.trees.Ref.{Ref}
use Rattle.pr_lang.specs.declared.trees.Expr.{Expr}
use Rattle.pr_lang.specs.declared.trees.Expr.TheOpen.{Expr-F}
use Rattle.pr_lang.specs.declared.trees.Expr.TheFolds.{fold-Expr}
use Rattle.pr_lang.specs.declared.trees.Stmt.{Stmt}
use Rattle.pr_lang.specs.declared.trees.Stmt.TheOpen.{Stmt-F}
use Rattle.pr_lang.specs.declared.trees.Stmt.TheFolds.{fold-Stmt}
use Rattle.pr_lang.specs.declared.trees.Item.{Item}
use Rattle.pr_lang.specs.declared.trees.Item.TheVariants as item
use Rattle.pr_lang.specs.declared.trees.Program.{Program}
use Rattle.pr_lang.specs.Is.{name_tree, number_tree, sign_tree}
use Rattle.pr_lang.specs.Tree.{Tree}
use Rattle.pr_lang.specs.Tree as tree
use Rattle.pr_lang.specs.Shape.{sign_of, fixed_sign_of, listed, comma_listed, width_tree, param_shape, item_shape}
use Rattle.pr_lens_items.specs.declared.cuts.Cut.{Cut}
use Rattle.pr_lens_items.specs.declared.cuts.Rest.{Rest}

-- nothing is kept of what is cut off from this point of its own on
abbrev pub is_out : ℕ → Bool
is_out from = nat_lt from 2

-- a part of a tree: how many points it has before its own, which is the last, and what is left of it where its first is kept
pub record Part : Type 0 where
  pub inner : ℕ
  pub left : ℕ → Tree

abbrev pub points : Part → ℕ
points p = p.inner + 1

-- what is left of a part that is cut off from a point on: a 0 where none of its points is kept
abbrev pub cut_off : Part → ℕ → Tree
cut_off p from = if is_out from then number_tree 0 else p.left from

abbrev pub one_point : Tree → Part
one_point t = record { inner = 0; left = λ from. t }

-- ---- constant expressions
-- one in which this one is walked, and that is 0
abbrev pub times_zero : Tree → Tree
times_zero t = tree.binary (sign_tree symbols.Star) t (number_tree 0)

-- one in which both are walked, and that is the second
abbrev pub fixed_both : Tree → Tree → Tree
fixed_both t u = tree.binary (sign_tree symbols.Plus) (times_zero t) u

-- a name with an index, or the index alone
abbrev pub entry : List ℕ → Tree → ℕ → Tree
entry x held from = if is_out from then held else tree.refer (name_tree x) (tree.index held)

-- operands with their operator, or without it
abbrev pub fixed_operation : FixedOp → Tree → Tree → ℕ → Tree
fixed_operation op one other from =
    if is_out from then fixed_both one other else tree.binary (sign_tree (fixed_sign_of op)) one other

abbrev pub fixed_binary : FixedOp → Part → Part → ℕ → Tree
fixed_binary op one other from =
    if is_out (from - points one) then cut_off one from else
    fixed_operation op (cut_off one from) (cut_off other (from - points one)) (from - points one - points other)

abbrev pub fixed_layer : Fixed-F Part → Part
fixed_layer (Fixed-F.Number n) = one_point (number_tree n)
fixed_layer (Fixed-F.Refer x None) = one_point (tree.refer (name_tree x) tree.no_index)
fixed_layer (Fixed-F.Refer x (Some i)) = record { inner = points i.value; left = λ from. entry x (cut_off i.value from) (from - points i.value) }
fixed_layer (Fixed-F.Binary op one other) = record { inner = points one.value + points other.value; left = λ from. fixed_binary op one.value other.value from }
fixed_layer (Fixed-F.Paren inner) = record { inner = inner.value.inner; left = λ from. tree.paren (cut_off inner.value from) }

abbrev pub fixed_part : Fixed → Part
fixed_part = fold-Fixed Part fixed_layer

-- ---- names with an index
abbrev pub index_points : Option Fixed → ℕ
index_points None = 0
index_points (Some i) = points (fixed_part i)

abbrev pub index_left : Option Fixed → ℕ → Tree
index_left None from = tree.no_index
index_left (Some i) from = tree.index (cut_off (fixed_part i) from)

abbrev pub target_left : Ref → ℕ → Tree
target_left r from = tree.refer (name_tree r.name) (index_left r.index from)

-- ---- expressions
-- one in which both are walked, one after the other, and that has a width where they have
abbrev pub both : Tree → Tree → Tree
both t u = tree.binary (sign_tree symbols.Equal) t u

abbrev pub all_onto : List Tree → Tree → Tree
all_onto [] t = t
all_onto (u ∷ us) t = both u (all_onto us t)

abbrev pub all_of : List Tree → Tree
all_of ts = all_onto ts (number_tree 0)

abbrev pub low_bit : Tree → Tree
low_bit t = tree.slice t (number_tree 0) (number_tree 0)

-- one in which a constant expression is walked, and nothing else: bit 0 of 0
abbrev pub holding : Tree → Tree
holding t = tree.slice (number_tree 0) (times_zero t) (number_tree 0)

-- one in which an index is walked, where there is one, and nothing else
abbrev pub index_alone : Tree → Tree
index_alone (tree.index t) = holding t
index_alone _ = number_tree 0

abbrev pub refer : Ref → ℕ → Tree
refer r from = if is_out (from - index_points r.index) then index_alone (index_left r.index from) else target_left r from

-- a stream with what is left of its delay: one of 1 where that is not reached, or is not reached whole
abbrev pub delayed : Tree → Part → ℕ → Tree
delayed target back from =
    if is_out from then tree.delay target (number_tree 1) else
    (if is_out (from - points back) then both (tree.delay target (number_tree 1)) (holding (cut_off back from)) else tree.delay target (cut_off back from))

abbrev pub delay : Ref → Part → ℕ → Tree
delay r back from =
    if is_out (from - index_points r.index) then index_alone (index_left r.index from) else
    delayed (target_left r from) back (from - index_points r.index - 1)

-- an operand with its bounds as a slice, or beside each other
abbrev pub ranged : Tree → Tree → Tree → ℕ → Tree
ranged inner high low from = if is_out from then both inner (both (holding high) (holding low)) else tree.slice inner high low

abbrev pub bounded : Tree → Part → Part → ℕ → Tree
bounded inner high low from =
    if is_out from then inner else
    (if is_out (from - points high) then both inner (holding (cut_off high from)) else ranged inner (cut_off high from) (cut_off low (from - points high)) (from - points high - points low))

abbrev pub not_of : Tree → ℕ → Tree
not_of inner from = if is_out from then inner else tree.not inner

abbrev pub operation : BinOp → Tree → Tree → ℕ → Tree
operation op one other from = if is_out from then both one other else tree.binary (sign_tree (sign_of op)) one other

abbrev pub binary : BinOp → Part → Part → ℕ → Tree
binary op one other from =
    if is_out (from - points one) then cut_off one from else
    operation op (cut_off one from) (cut_off other (from - points one)) (from - points one - points other)

abbrev pub chosen : Tree → Tree → Tree → ℕ → Tree
chosen condition one other from = if is_out from then both condition (both one other) else tree.choose condition one other

abbrev pub choice : Part → Part → Part → ℕ → Tree
choice condition one other from =
    if is_out (from - points condition) then cut_off condition from else
    chosen (cut_off condition from) (cut_off one (from - points condition)) (cut_off other (from - points condition - points one)) (from - points condition - points one - points other)

abbrev pub all_points : List Part → ℕ
all_points [] = 0
all_points (p ∷ ps) = points p + all_points ps

-- the parts of which something is kept
abbrev pub parts_left : List Part → ℕ → List Tree
parts_left [] from = []
parts_left (p ∷ ps) from = if is_out from then [] else (cut_off p from ∷ parts_left ps (from - points p))

abbrev pub called : List ℕ → List Tree → ℕ → Tree
called x parts from = if is_out from then all_of parts else tree.call (name_tree x) (comma_listed parts)

abbrev pub joined : List Tree → ℕ → Tree
joined parts from = if is_out from then all_of parts else tree.cat (comma_listed parts)

abbrev pub expr_layer : Expr-F Part → Part
expr_layer (Expr-F.Number n) = one_point (number_tree n)
expr_layer (Expr-F.Refer r) = record { inner = index_points r.index; left = λ from. refer r from }
expr_layer (Expr-F.Delay r back) = record { inner = index_points r.index + 1 + points (fixed_part back); left = λ from. delay r (fixed_part back) from }
expr_layer (Expr-F.Slice inner high low) = record {
  inner = points inner.value + points (fixed_part high) + points (fixed_part low);
  left = λ from. bounded (cut_off inner.value from) (fixed_part high) (fixed_part low) (from - points inner.value);
}
expr_layer (Expr-F.Not inner) = record { inner = points inner.value; left = λ from. not_of (cut_off inner.value from) (from - points inner.value) }
expr_layer (Expr-F.Binary op one other) = record { inner = points one.value + points other.value; left = λ from. binary op one.value other.value from }
expr_layer (Expr-F.Choose condition one other) = record {
  inner = points condition.value + points one.value + points other.value;
  left = λ from. choice condition.value one.value other.value from;
}
expr_layer (Expr-F.Call x parts) = record { inner = all_points parts.items; left = λ from. called x (parts_left parts.items from) (from - all_points parts.items) }
expr_layer (Expr-F.Cat parts) = record { inner = all_points parts.items; left = λ from. joined (parts_left parts.items from) (from - all_points parts.items) }
expr_layer (Expr-F.Paren inner) = record { inner = inner.value.inner; left = λ from. tree.paren (cut_off inner.value from) }

abbrev pub expr_part : Expr → Part
expr_part = fold-Expr Part expr_layer

-- what is left of an expression that is assigned: of one that is not kept whole the lowest bit
abbrev pub assigned : Part → ℕ → Tree
assigned p from =
    if is_out from then number_tree 0 else
    (if (from - points p) == 0 then low_bit (cut_off p from) else cut_off p from)

-- ---- statements
-- from which point of its constant expressions a frame is cut off behind which others are cut off from this one on: the last
-- frame that is kept behind so many of them, another one behind all that 32 bits count
abbrev pub fixeds_from : ℕ → ℕ → ℕ
fixeds_from frames last = if is_out frames then last + 1 else 4294967296

-- a statement: how many frames it has behind its own, how many points its expressions have, and what is left of it where it
-- is cut off from a point of its expressions on, from a frame behind its own on, and behind so many points of the constant
-- expressions of the last frame
pub record Statement : Type 0 where
  pub frames : ℕ
  pub values : ℕ
  pub left : ℕ → ℕ → ℕ → Tree

abbrev pub frames_of : List Statement → ℕ
frames_of [] = 0
frames_of (s ∷ ss) = 1 + s.frames + frames_of ss

abbrev pub values_of : List Statement → ℕ
values_of [] = 0
values_of (s ∷ ss) = s.values + values_of ss

-- the statements whose frames are kept
abbrev pub stmts_left : List Statement → ℕ → ℕ → ℕ → List Tree
stmts_left [] values frames last = []
stmts_left (s ∷ ss) values frames last =
    if is_out frames then [] else (s.left values (frames - 1) last ∷ stmts_left ss (values - s.values) (frames - 1 - s.frames) last)

abbrev pub let_left : Ref → Option ℕ → Part → ℕ → ℕ → Tree
let_left r width value values fixeds = tree.let_stmt (target_left r fixeds) (width_tree width) (assigned value values)

abbrev pub rec_left : Ref → Option ℕ → Part → Part → ℕ → ℕ → Tree
rec_left r width init body values fixeds =
    tree.rec_stmt (target_left r fixeds) (width_tree width) (cut_off init (fixeds - index_points r.index)) (assigned body values)

abbrev pub for_left : List ℕ → Part → Part → List Tree → ℕ → Tree
for_left x low high body fixeds =
    tree.for_stmt (name_tree x) (cut_off low fixeds) (cut_off high (fixeds - points low)) (listed body)

abbrev pub stmt_layer : Stmt-F Statement → Statement
stmt_layer (Stmt-F.Let r width value) = record {
  frames = 0;
  values = points (expr_part value);
  left = λ values frames last. let_left r width (expr_part value) values (fixeds_from frames last);
}
stmt_layer (Stmt-F.Rec r width init body) = record {
  frames = 0;
  values = points (expr_part body);
  left = λ values frames last. rec_left r width (fixed_part init) (expr_part body) values (fixeds_from frames last);
}
stmt_layer (Stmt-F.For x low high body) = record {
  frames = frames_of body.items;
  values = values_of body.items;
  left = λ values frames last. for_left x (fixed_part low) (fixed_part high) (stmts_left body.items values frames last) (fixeds_from frames last);
}

abbrev pub statement : Stmt → Statement
statement = fold-Stmt Statement stmt_layer

-- so many frames and points of expressions are passed; of the points nothing is said where a frame was not kept
pub record Passes (frames values : ℕ) (before after : Rest) : Type 0 where
  pub frames_are : after.frames.from ≡ before.frames.from - frames
  pub values_are : 0 < after.frames.from → after.values.from ≡ before.values.from - values
  pub last_is : after.last ≡ before.last

-- ---- items
-- the entries of a table, all of them
abbrev pub entries_left : List Part → ℕ → List Tree
entries_left [] from = []
entries_left (p ∷ ps) from = cut_off p from ∷ entries_left ps (from - points p)

-- the result of a function, which is not reached where a frame before it is not kept
abbrev pub result_left : List Statement → Part → ℕ → ℕ → Tree
result_left body value values frames =
    if (frames - frames_of body) == 0 then number_tree 0 else assigned value (values - values_of body)

-- what is left of an item; its own frame always is
abbrev pub item_left : Cut → Item → Tree
item_left cut (item.Input x width) = tree.input (name_tree x) (number_tree width)
item_left cut (item.Output x width value) = tree.output (name_tree x) (width_tree width) (assigned (expr_part value) (cut.values + 1))
item_left cut (item.Const x value) = tree.const (name_tree x) (cut_off (fixed_part value) (fixeds_from cut.frames cut.fixeds))
item_left cut (item.Table x values) = tree.const (name_tree x) (tree.table (comma_listed (entries_left (map fixed_part values.items) (fixeds_from cut.frames cut.fixeds))))
item_left cut (item.Function x params width body result) =
    tree.function (name_tree x) (comma_listed (map param_shape params.items)) (width_tree width)
    (listed (stmts_left (map statement body.items) (cut.values + 1) cut.frames cut.fixeds))
    (result_left (map statement body.items) (expr_part result) (cut.values + 1) cut.frames)
item_left cut (item.Step s) = (statement s).left (cut.values + 1) cut.frames cut.fixeds

-- a program that is cut off in an item behind this one: its items, and behind them what is left of that item
pub record IsCutOff (front : Program) (item : Item) (cut : Cut) (program : Program) : Type 0 where
  pub kept : Item
  pub left : item_shape kept ≡ item_left cut item
  pub items : program.items.items ≡ front.items.items ++ kept ∷ []
