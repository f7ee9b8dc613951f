-- What the grammar derives is the tree of a program, whose equations have constants of 64 bits where the numbers of the text have
-- 64 bits.
use Rattle.std.proofs.Common.{◌≡◌, ◌^◌, ◌<◌, ◌≤◌, ℕ, Option, Some, None, List, [], ◌∷◌, ◌++◌, map, length, inl, inr, refl, sym, ap, ap₂, ◌∙◌, arith, length-append}
use Rattle.std.specs.List.{AllByRecursion}
use Rattle.pr_lang.specs.declared.tokens.Keyword.TheVariants.{By, Return}
use Rattle.pr_lang.specs.declared.tokens.Symbol.{Symbol}
use Rattle.pr_lang.specs.declared.tokens.Symbol.TheVariants as symbols
use Rattle.pr_lang.specs.declared.trees.BinOp.{BinOp}
use Rattle.pr_lang.specs.declared.trees.BinOp.TheVariants.{Add, Sub, Mul, And, Or, Xor, Equal, NotEqual, Less, LessEqual, Greater, GreaterEqual, Left, Right}
use Rattle.pr_lang.specs.declared.trees.FixedOp.{FixedOp}
use Rattle.pr_lang.specs.declared.trees.FixedOp.TheVariants as fixed
use Rattle.pr_lang.specs.declared.trees.Fixed.{Fixed, map-Fixed, roll-Fixed}
use Rattle.pr_lang.specs.declared.trees.Fixed.TheOpen.{Fixed-F}
use Rattle.pr_lang.specs.declared.trees.Ref.{Ref}
use Rattle.pr_lang.specs.declared.trees.Expr.{Expr, map-Expr, roll-Expr}
use Rattle.pr_lang.specs.declared.trees.Expr.TheOpen.{Expr-F}
use Rattle.pr_lang.specs.declared.trees.Stmt.{Stmt, map-Stmt, roll-Stmt}
use Rattle.pr_lang.specs.declared.trees.Stmt.TheOpen.{Stmt-F}
use Rattle.pr_lang.specs.declared.trees.Item.TheVariants as item
use Rattle.pr_lang.specs.Word.{Word, numbered, keyword, symbol, ending}
use Rattle.pr_lang.specs.Grammar.{Rule, TheProgram, AnyOf, ListOf, MaybeListOf, TheWidth, TheIndex, TheItem, TheParam, TheStmt, TheTarget, TheExpr, level, TheCompare, ThePrefix, ThePostfix, ThePrimary, TheFixedPrimary}
use Rattle.pr_lang.specs.Grammar.{Block, Items, Stmts, member, Listed, Params, Exprs, Entries, element, Level, Ors, Xors, Ands, Shifts, Sums, Products, FixedSums, FixedProducts, signs, operand}
use Rattle.pr_lang.specs.Is.{Is, IsSign, name_tree, number_tree, sign_tree}
use Rattle.pr_lang.specs.Is as grammar
use Rattle.pr_lang.specs.Tree.{Tree}
use Rattle.pr_lang.specs.Tree as tree
use Rattle.pr_lang.specs.Shape.{sign_of, fixed_sign_of, listed, comma_listed, width_tree, index_shape, fixed_layer, fixed_shape, ref_shape, expr_layer, expr_shape, stmt_layer, stmt_shape, param_shape, item_shape}
use Rattle.pr_parse.proofs.Lists.{listed-more, comma_listed-more}
use Rattle.pr_compile_verdicts.proofs.Shorts.{ShortFixed, ShortExpr, ShortStmt}
use Rattle.pr_compile_verdicts.proofs.ShortPrograms.{ShortItem, input-short, output-short, constant-item-short, table-short, function-item-short, step-item-short}
use Rattle.pr_compile_verdicts.proofs.Layers.{boxed, row_of, ShortFixedLayer, fixed-of, fixed-tree, fixed-number, fixed-name, fixed-binary, fixed-paren, ShortLayer, expr-of, expr-tree, expr-number, expr-refer, expr-delay, expr-slice, expr-not, expr-binary, expr-choose, expr-call, expr-cat, expr-paren, ShortStmtLayer, stmt-of, stmt-tree, stmt-let, stmt-rec, stmt-for}

-- ---- words
abbrev pub ShortWord : Word → Type 0
ShortWord (numbered n) = n < 2 ^ 64
ShortWord w = Unit {0}

-- numbers of 64 bits, and no more words than a list in memory can hold
pub record Words (ws : List Word) : Type 0 where
  pub short : AllByRecursion ShortWord ws
  pub few : length ws < 2 ^ 63

each-front : (xs ys : List Word) → AllByRecursion ShortWord (xs ++ ys) → AllByRecursion ShortWord xs
each-front [] ys all = tt
each-front (x ∷ xs) ys all = (all.0, each-front xs ys all.1)

each-behind : (xs ys : List Word) → AllByRecursion ShortWord (xs ++ ys) → AllByRecursion ShortWord ys
each-behind [] ys all = all
each-behind (x ∷ xs) ys all = each-behind xs ys all.1

front : (xs ys : List Word) → Words (xs ++ ys) → Words xs
front xs ys words = record { short = each-front xs ys words.short; few = (let n = length-append xs ys in let few = words.few in omega (arith, n, few)) }

behind : (xs ys : List Word) → Words (xs ++ ys) → Words ys
behind xs ys words = record { short = each-behind xs ys words.short; few = (let n = length-append xs ys in let few = words.few in omega (arith, n, few)) }

after : {w : Word} {ws : List Word} → Words (w ∷ ws) → Words ws
after words = record { short = words.short.1; few = (let few = words.few in omega (arith, few)) }

-- ---- what a tree of so many words is the tree of
-- one thing, of one word at least
pub record One {X : Type 0} (shape : X → Tree) (Fact : X → Type 0) (n : ℕ) (t : Tree) : Type 0 where
  pub it : X
  pub some : 1 ≤ n
  pub fact : Fact it
  pub is : shape it ≡ t

-- a row of things, no more than there are words
pub record Row {X : Type 0} (made : List Tree → Tree) (shape : X → Tree) (Fact : X → Type 0) (n : ℕ) (t : Tree) : Type 0 where
  pub all : List X
  pub few : length all ≤ n
  pub fact : AllByRecursion Fact all
  pub is : made (map shape all) ≡ t

-- a row that is not empty
pub record SomeRow {X : Type 0} (made : List Tree → Tree) (shape : X → Tree) (Fact : X → Type 0) (n : ℕ) (t : Tree) : Type 0 where
  pub row : Row made shape Fact n t
  pub some : 0 < length row.all

abbrev pub NoFact : {X : Type 0} → X → Type 0
NoFact x = Unit {0}

abbrev pub Realised : Rule → ℕ → Tree → Type 0
Realised TheProgram n t = Row listed item_shape ShortItem n t
Realised (AnyOf Items) n t = Row listed item_shape ShortItem n t
Realised (AnyOf Stmts) n t = Row listed stmt_shape ShortStmt n t
Realised (ListOf Params) n t = SomeRow comma_listed param_shape NoFact n t
Realised (ListOf Exprs) n t = SomeRow comma_listed expr_shape ShortExpr n t
Realised (ListOf Entries) n t = SomeRow comma_listed fixed_shape ShortFixed n t
Realised (MaybeListOf Params) n t = Row comma_listed param_shape NoFact n t
Realised (MaybeListOf Exprs) n t = Row comma_listed expr_shape ShortExpr n t
Realised (MaybeListOf Entries) n t = Row comma_listed fixed_shape ShortFixed n t
Realised TheWidth n t = (w : Option ℕ) × (width_tree w ≡ t)
Realised TheIndex n t = (i : Option Fixed) × (index_shape i ≡ t)
Realised TheItem n t = One item_shape ShortItem n t
Realised TheParam n t = One param_shape NoFact n t
Realised TheStmt n t = One stmt_shape ShortStmt n t
Realised TheTarget n t = One ref_shape NoFact n t
Realised (level FixedSums) n t = One fixed_shape ShortFixed n t
Realised (level FixedProducts) n t = One fixed_shape ShortFixed n t
Realised TheFixedPrimary n t = One fixed_shape ShortFixed n t
Realised (level Ors) n t = One expr_shape ShortExpr n t
Realised (level Xors) n t = One expr_shape ShortExpr n t
Realised (level Ands) n t = One expr_shape ShortExpr n t
Realised (level Shifts) n t = One expr_shape ShortExpr n t
Realised (level Sums) n t = One expr_shape ShortExpr n t
Realised (level Products) n t = One expr_shape ShortExpr n t
Realised TheExpr n t = One expr_shape ShortExpr n t
Realised TheCompare n t = One expr_shape ShortExpr n t
Realised ThePrefix n t = One expr_shape ShortExpr n t
Realised ThePostfix n t = One expr_shape ShortExpr n t
Realised ThePrimary n t = One expr_shape ShortExpr n t

-- ---- rows
each-append : {X : Type 0} (P : X → Type 0) (xs : List X) (x : X) → AllByRecursion P xs → P x → AllByRecursion P (xs ++ x ∷ [])
each-append P [] x all here = (here, tt)
each-append P (y ∷ xs) x all here = (all.0, each-append P xs x all.1 here)

module _ {X : Type 0} (shape : X → Tree) (Fact : X → Type 0) where
  none-yet : (made : List Tree → Tree) → made [] ≡ tree.none → Row made shape Fact 0 tree.none
  none-yet made is = record { all = []; few = omega arith; fact = tt; is = is }

  one-more : (ks ls : List Word) (l t : Tree) → Row listed shape Fact (length ks) l → One shape Fact (length ls) t → Row listed shape Fact (length (ks ++ ls)) (tree.more l t)
  one-more ks ls l t row one = record {
    all = row.all ++ one.it ∷ [];
    few = (let few = row.few in let some = one.some in let n = length-append row.all (one.it ∷ []) in let m = length-append ks ls in omega (arith, few, some, n, m));
    fact = each-append Fact row.all one.it row.fact one.fact;
    is = listed-more shape row.all (row.all ++ one.it ∷ []) one.it refl ∙ ap₂ tree.more row.is one.is;
  }

  only-one : (n : ℕ) (t : Tree) → One shape Fact n t → SomeRow comma_listed shape Fact n (tree.more tree.none t)
  only-one n t one = record {
    row = record { all = one.it ∷ []; few = one.some; fact = (one.fact, tt); is = ap (tree.more tree.none) one.is };
    some = omega arith;
  }

  also-one : (ks ls : List Word) (w : Word) (l t : Tree) → SomeRow comma_listed shape Fact (length ks) l → One shape Fact (length ls) t → SomeRow comma_listed shape Fact (length (ks ++ w ∷ ls)) (tree.also l t)
  also-one ks ls w l t rest one =
      let row = rest.row in
      let n = length-append row.all (one.it ∷ []) in
      record {
        row = record {
          all = row.all ++ one.it ∷ [];
          few = (let few = row.few in let m = length-append ks (w ∷ ls) in omega (arith, few, n, m));
          fact = each-append Fact row.all one.it row.fact one.fact;
          is = comma_listed-more shape row.all (row.all ++ one.it ∷ []) one.it rest.some refl ∙ ap₂ tree.also row.is one.is;
        };
        some = omega (arith, n);
      }

more-of : (b : Block) (ks ls : List Word) (l t : Tree) → Realised (AnyOf b) (length ks) l → Realised (member b) (length ls) t → Realised (AnyOf b) (length (ks ++ ls)) (tree.more l t)
more-of Items ks ls l t row one = one-more item_shape ShortItem ks ls l t row one
more-of Stmts ks ls l t row one = one-more stmt_shape ShortStmt ks ls l t row one

none-of : (b : Block) → Realised (AnyOf b) 0 tree.none
none-of Items = none-yet item_shape ShortItem listed refl
none-of Stmts = none-yet stmt_shape ShortStmt listed refl

only-of : (c : Listed) (n : ℕ) (t : Tree) → Realised (element c) n t → Realised (ListOf c) n (tree.more tree.none t)
only-of Params n t one = only-one param_shape NoFact n t one
only-of Exprs n t one = only-one expr_shape ShortExpr n t one
only-of Entries n t one = only-one fixed_shape ShortFixed n t one

also-of : (c : Listed) (ks ls : List Word) (w : Word) (l t : Tree) → Realised (ListOf c) (length ks) l → Realised (element c) (length ls) t → Realised (ListOf c) (length (ks ++ w ∷ ls)) (tree.also l t)
also-of Params ks ls w l t row one = also-one param_shape NoFact ks ls w l t row one
also-of Exprs ks ls w l t row one = also-one expr_shape ShortExpr ks ls w l t row one
also-of Entries ks ls w l t row one = also-one fixed_shape ShortFixed ks ls w l t row one

no-list : (c : Listed) → Realised (MaybeListOf c) 0 tree.none
no-list Params = none-yet param_shape NoFact comma_listed refl
no-list Exprs = none-yet expr_shape ShortExpr comma_listed refl
no-list Entries = none-yet fixed_shape ShortFixed comma_listed refl

a-list : (c : Listed) (n : ℕ) (t : Tree) → Realised (ListOf c) n t → Realised (MaybeListOf c) n t
a-list Params n t some = some.row
a-list Exprs n t some = some.row
a-list Entries n t some = some.row

-- ---- constant expressions, expressions and statements
fixed-one : (x : Fixed-F Fixed) → ShortFixedLayer x → (n : ℕ) (t : Tree) → 1 ≤ n → fixed_layer (map-Fixed Fixed Tree fixed_shape x) ≡ t → One fixed_shape ShortFixed n t
fixed-one x short n t some is = record { it = roll-Fixed x; some = some; fact = fixed-of x short; is = fixed-tree x t is }

expr-one : (x : Expr-F Expr) → ShortLayer x → (n : ℕ) (t : Tree) → 1 ≤ n → expr_layer (map-Expr Expr Tree expr_shape x) ≡ t → One expr_shape ShortExpr n t
expr-one x short n t some is = record { it = roll-Expr x; some = some; fact = expr-of x short; is = expr-tree x t is }

stmt-one : (x : Stmt-F Stmt) → ShortStmtLayer x → (n : ℕ) (t : Tree) → 1 ≤ n → stmt_layer (map-Stmt Stmt Tree stmt_shape x) ≡ t → One stmt_shape ShortStmt n t
stmt-one x short n t some is = record { it = roll-Stmt x; some = some; fact = stmt-of x short; is = stmt-tree x t is }

-- more words behind one thing, or before it
longer : (ks ls : List Word) → 1 ≤ length ks → 1 ≤ length (ks ++ ls)
longer ks ls some = let n = length-append ks ls in omega (arith, n, some)

-- the operator of a sign
op-of : {Op : Type 0} (sign : Op → Symbol) (ops : List Op) (s : Symbol) → IsSign (map sign ops) s → (o : Op) × (sign o ≡ s)
op-of sign [] s h = absurd h
op-of sign (o ∷ ops) s (inl same) = (o, sym same)
op-of sign (o ∷ ops) s (inr rest) = op-of sign ops s rest

binary-one : (o : BinOp) (s : Symbol) (n m k : ℕ) (t u : Tree) → sign_of o ≡ s → 1 ≤ k → One expr_shape ShortExpr n t → One expr_shape ShortExpr m u → One expr_shape ShortExpr k (tree.binary (sign_tree s) t u)
binary-one o s n m k t u sign some a b = expr-one (Expr-F.Binary o (boxed a.it) (boxed b.it)) (expr-binary o a.it b.it a.fact b.fact) k (tree.binary (sign_tree s) t u) some (let p = a.is in let q = b.is in cc)

fixed-binary-one : (o : FixedOp) (s : Symbol) (n m k : ℕ) (t u : Tree) → fixed_sign_of o ≡ s → 1 ≤ k → One fixed_shape ShortFixed n t → One fixed_shape ShortFixed m u → One fixed_shape ShortFixed k (tree.binary (sign_tree s) t u)
fixed-binary-one o s n m k t u sign some a b = fixed-one (Fixed-F.Binary o (boxed a.it) (boxed b.it)) (fixed-binary o a.it b.it a.fact) k (tree.binary (sign_tree s) t u) some (let p = a.is in let q = b.is in cc)

operand-of : (v : Level) (n : ℕ) (t : Tree) → Realised (operand v) n t → Realised (level v) n t
operand-of Ors n t one = one
operand-of Xors n t one = one
operand-of Ands n t one = one
operand-of Shifts n t one = one
operand-of Sums n t one = one
operand-of Products n t one = one
operand-of FixedSums n t one = one
operand-of FixedProducts n t one = one

operator-of : (v : Level) (s : Symbol) (n m k : ℕ) (t u : Tree) → IsSign (signs v) s → 1 ≤ k → Realised (level v) n t → Realised (operand v) m u → Realised (level v) k (tree.binary (sign_tree s) t u)
operator-of Ors s n m k t u h some a b = let o = op-of sign_of (Or ∷ []) s h in binary-one o.0 s n m k t u o.1 some a b
operator-of Xors s n m k t u h some a b = let o = op-of sign_of (Xor ∷ []) s h in binary-one o.0 s n m k t u o.1 some a b
operator-of Ands s n m k t u h some a b = let o = op-of sign_of (And ∷ []) s h in binary-one o.0 s n m k t u o.1 some a b
operator-of Shifts s n m k t u h some a b = let o = op-of sign_of (Left ∷ Right ∷ []) s h in binary-one o.0 s n m k t u o.1 some a b
operator-of Sums s n m k t u h some a b = let o = op-of sign_of (Add ∷ Sub ∷ []) s h in binary-one o.0 s n m k t u o.1 some a b
operator-of Products s n m k t u h some a b = let o = op-of sign_of (Mul ∷ []) s h in binary-one o.0 s n m k t u o.1 some a b
operator-of FixedSums s n m k t u h some a b = let o = op-of fixed_sign_of (fixed.Add ∷ fixed.Sub ∷ []) s h in fixed-binary-one o.0 s n m k t u o.1 some a b
operator-of FixedProducts s n m k t u h some a b = let o = op-of fixed_sign_of (fixed.Mul ∷ fixed.Div ∷ fixed.Mod ∷ []) s h in fixed-binary-one o.0 s n m k t u o.1 some a b

-- the first of a level may be followed by more of it
level-some : (v : Level) (n : ℕ) (t : Tree) → Realised (level v) n t → 1 ≤ n
level-some Ors n t one = one.some
level-some Xors n t one = one.some
level-some Ands n t one = one.some
level-some Shifts n t one = one.some
level-some Sums n t one = one.some
level-some Products n t one = one.some
level-some FixedSums n t one = one.some
level-some FixedProducts n t one = one.some

fixed-name-one : (x : List ℕ) (i : Option Fixed) (n : ℕ) (t : Tree) → 1 ≤ n → index_shape i ≡ t → One fixed_shape ShortFixed n (tree.refer (name_tree x) t)
fixed-name-one x None n t some is = fixed-one (Fixed-F.Refer x None) (fixed-name x None) n (tree.refer (name_tree x) t) some (ap (tree.refer (name_tree x)) is)
fixed-name-one x (Some i) n t some is = fixed-one (Fixed-F.Refer x (Some (boxed i))) (fixed-name x (Some (boxed i))) n (tree.refer (name_tree x) t) some (ap (tree.refer (name_tree x)) is)

-- ---- the grammar
pub realised : (r : Rule) (ks : List Word) (t : Tree) → Is r ks t → Words ks → Realised r (length ks) t
realised _ _ _ (grammar.no_more {b = b}) words = none-of b
realised _ _ _ (grammar.one_more {b = b} {ks = ks} {ls = ls} {l = l} {t = t} d e) words = more-of b ks ls l t (realised _ _ _ d (front ks ls words)) (realised _ _ _ e (behind ks ls words))
realised _ _ _ (grammar.only_one {c = c} {ks = ks} {t = t} d) words = only-of c (length ks) t (realised _ _ _ d words)
realised _ _ _ (grammar.also_one {c = c} {ks = ks} {ls = ls} {l = l} {t = t} d e) words = also-of c ks ls (symbol symbols.Comma) l t (realised _ _ _ d (front ks (symbol symbols.Comma ∷ ls) words)) (realised _ _ _ e (after (behind ks (symbol symbols.Comma ∷ ls) words)))
realised _ _ _ (grammar.no_list {c = c}) words = no-list c
realised _ _ _ (grammar.a_list {c = c} {ks = ks} {l = l} d) words = a-list c (length ks) l (realised _ _ _ d words)
realised _ _ _ grammar.no_width words = (None, refl)
realised _ _ _ (grammar.a_width {w = w}) words = (Some w, refl)
realised _ _ _ grammar.no_index words = (None, refl)
realised _ _ _ (grammar.an_index {ks = ks} d) words =
    let f = realised _ _ _ d (front ks (symbol symbols.CloseSquare ∷ []) (after words)) in
    (Some f.it, ap tree.index f.is)
realised _ _ _ (grammar.program {ks = ks} d) words =
    let row = realised _ _ _ d (front ks (ending ∷ []) words) in
    record { all = row.all; few = (let few = row.few in let n = length-append ks (ending ∷ []) in omega (arith, few, n)); fact = row.fact; is = row.is }
realised _ _ _ (grammar.input {x = x} {w = w}) words = record { it = item.Input x w; some = omega arith; fact = input-short x w; is = refl }
realised _ _ _ (grammar.output {x = x} {ws = ws} {es = es} d e) words =
    let rest = after (after words) in
    let values = es ++ symbol symbols.Semi ∷ [] in
    let width = realised _ _ _ d (front ws (symbol symbols.Assign ∷ values) rest) in
    let value = realised _ _ _ e (front es (symbol symbols.Semi ∷ []) (after (behind ws (symbol symbols.Assign ∷ values) rest))) in
    record { it = item.Output x width.0 value.it; some = omega arith; fact = output-short x width.0 value.it value.fact; is = ap₂ (tree.output (name_tree x)) width.1 value.is }
realised _ _ _ (grammar.const {x = x} {cs = cs} d) words =
    let value = realised _ _ _ d (front cs (symbol symbols.Semi ∷ []) (after (after (after words)))) in
    record { it = item.Const x value.it; some = omega arith; fact = constant-item-short x value.it value.fact; is = ap (tree.const (name_tree x)) value.is }
realised _ _ _ (grammar.table {x = x} {cs = cs} d) words =
    let inside = front cs (symbol symbols.CloseSquare ∷ symbol symbols.Semi ∷ []) (after (after (after (after words)))) in
    let row = (realised _ _ _ d inside).row in
    let values = row_of row.all (let few = row.few in let most = inside.few in omega (arith, few, most)) in
    record { it = item.Table x values; some = omega arith; fact = table-short x values row.fact; is = ap (λ (l : Tree). tree.const (name_tree x) (tree.table l)) row.is }
realised _ _ _ (grammar.function {x = x} {ps = ps} {ws = ws} {bs = bs} {es = es} p w b e) words =
    let values = es ++ symbol symbols.Semi ∷ symbol symbols.CloseCurly ∷ [] in
    let bodies = bs ++ keyword Return ∷ values in
    let widths = ws ++ symbol symbols.OpenCurly ∷ bodies in
    let rest = after (after (after words)) in
    let before = front ps (symbol symbols.CloseRound ∷ widths) rest in
    let later = after (behind ps (symbol symbols.CloseRound ∷ widths) rest) in
    let within = after (behind ws (symbol symbols.OpenCurly ∷ bodies) later) in
    let inside = front bs (keyword Return ∷ values) within in
    let params = realised _ _ _ p before in
    let width = realised _ _ _ w (front ws (symbol symbols.OpenCurly ∷ bodies) later) in
    let body = realised _ _ _ b inside in
    let value = realised _ _ _ e (front es (symbol symbols.Semi ∷ symbol symbols.CloseCurly ∷ []) (after (behind bs (keyword Return ∷ values) within))) in
    let all_params = row_of params.all (let few = params.few in let most = before.few in omega (arith, few, most)) in
    let all_stmts = row_of body.all (let few = body.few in let most = inside.few in omega (arith, few, most)) in
    record {
      it = item.Function x all_params width.0 all_stmts value.it;
      some = omega arith;
      fact = function-item-short x all_params width.0 all_stmts value.it body.fact value.fact;
      is = (let p = params.is in let q = width.1 in let r = body.is in let s = value.is in cc);
    }
realised _ _ _ (grammar.step d) words =
    let s = realised _ _ _ d words in
    record { it = item.Step s.it; some = s.some; fact = step-item-short s.it s.fact; is = s.is }
realised _ _ _ (grammar.param {x = x} d) words =
    let width = realised _ _ _ d (after words) in
    record { it = record { name = x; width = width.0 }; some = omega arith; fact = tt; is = ap (tree.param (name_tree x)) width.1 }
realised _ _ _ (grammar.let_stmt {rs = rs} {ws = ws} {es = es} {r = r} {w = w} {e = e} a b c) words =
    let values = es ++ symbol symbols.Semi ∷ [] in
    let widths = ws ++ symbol symbols.Assign ∷ values in
    let rest = after words in
    let later = behind rs widths rest in
    let target = realised _ _ _ a (front rs widths rest) in
    let width = realised _ _ _ b (front ws (symbol symbols.Assign ∷ values) later) in
    let value = realised _ _ _ c (front es (symbol symbols.Semi ∷ []) (after (behind ws (symbol symbols.Assign ∷ values) later))) in
    stmt-one (Stmt-F.Let target.it width.0 value.it) (stmt-let target.it width.0 value.it value.fact) _ (tree.let_stmt r w e) (omega arith) (let p = target.is in let q = width.1 in let s = value.is in cc)
realised _ _ _ (grammar.rec_stmt {rs = rs} {ws = ws} {cs = cs} {es = es} {r = r} {w = w} {c = c} {e = e} a b i d) words =
    let values = es ++ symbol symbols.Semi ∷ [] in
    let begins = cs ++ keyword By ∷ values in
    let widths = ws ++ symbol symbols.Assign ∷ begins in
    let rest = after words in
    let later = behind rs widths rest in
    let within = after (behind ws (symbol symbols.Assign ∷ begins) later) in
    let target = realised _ _ _ a (front rs widths rest) in
    let width = realised _ _ _ b (front ws (symbol symbols.Assign ∷ begins) later) in
    let initial = realised _ _ _ i (front cs (keyword By ∷ values) within) in
    let value = realised _ _ _ d (front es (symbol symbols.Semi ∷ []) (after (behind cs (keyword By ∷ values) within))) in
    stmt-one (Stmt-F.Rec target.it width.0 initial.it value.it) (stmt-rec target.it width.0 initial.it value.it value.fact) _ (tree.rec_stmt r w c e) (omega arith) (let p = target.is in let q = width.1 in let s = initial.is in let u = value.is in cc)
realised _ _ _ (grammar.for_stmt {x = x} {cs = cs} {ds = ds} {bs = bs} {c = c} {d = d} {b = b} low high body) words =
    let bodies = bs ++ symbol symbols.CloseCurly ∷ [] in
    let ends = ds ++ symbol symbols.OpenCurly ∷ bodies in
    let rest = after (after (after words)) in
    let later = after (behind cs (symbol symbols.Dots ∷ ends) rest) in
    let inside = front bs (symbol symbols.CloseCurly ∷ []) (after (behind ds (symbol symbols.OpenCurly ∷ bodies) later)) in
    let from = realised _ _ _ low (front cs (symbol symbols.Dots ∷ ends) rest) in
    let to = realised _ _ _ high (front ds (symbol symbols.OpenCurly ∷ bodies) later) in
    let stmts = realised _ _ _ body inside in
    let all = row_of stmts.all (let few = stmts.few in let most = inside.few in omega (arith, few, most)) in
    stmt-one (Stmt-F.For x from.it to.it all) (stmt-for x from.it to.it all from.fact to.fact stmts.fact) _ (tree.for_stmt (name_tree x) c d b) (omega arith) (let p = from.is in let q = to.is in let r = stmts.is in cc)
realised _ _ _ (grammar.target {x = x} d) words =
    let index = realised _ _ _ d (after words) in
    record { it = record { name = x; index = index.0 }; some = omega arith; fact = tt; is = ap (tree.refer (name_tree x)) index.1 }
realised _ _ _ (grammar.no_choice d) words = realised _ _ _ d words
realised _ _ _ (grammar.choice {cs = cs} {ys = ys} {bs = bs} {c = c} {a = a} {b = b} d e f) words =
    let others = ys ++ symbol symbols.Colon ∷ bs in
    let later = after (behind cs (symbol symbols.Ask ∷ others) words) in
    let test = realised _ _ _ d (front cs (symbol symbols.Ask ∷ others) words) in
    let one = realised _ _ _ e (front ys (symbol symbols.Colon ∷ bs) later) in
    let other = realised _ _ _ f (after (behind ys (symbol symbols.Colon ∷ bs) later)) in
    expr-one (Expr-F.Choose (boxed test.it) (boxed one.it) (boxed other.it)) (expr-choose test.it one.it other.it test.fact one.fact other.fact) _ (tree.choose c a b) (longer cs (symbol symbols.Ask ∷ others) test.some) (let p = test.is in let q = one.is in let r = other.is in cc)
realised _ _ _ (grammar.one_operand {v = v} {ks = ks} {t = t} d) words = operand-of v (length ks) t (realised _ _ _ d words)
realised _ _ _ (grammar.one_operator {v = v} {s = s} {ys = ys} {bs = bs} {a = a} {b = b} d h e) words =
    let one = realised _ _ _ d (front ys (symbol s ∷ bs) words) in
    let other = realised _ _ _ e (after (behind ys (symbol s ∷ bs) words)) in
    operator-of v s (length ys) (length bs) (length (ys ++ symbol s ∷ bs)) a b h (longer ys (symbol s ∷ bs) (level-some v (length ys) a one)) one other
realised _ _ _ (grammar.no_comparison d) words = realised _ _ _ d words
realised _ _ _ (grammar.comparison {s = s} {ys = ys} {bs = bs} {a = a} {b = b} d h e) words =
    let one = realised _ _ _ d (front ys (symbol s ∷ bs) words) in
    let other = realised _ _ _ e (after (behind ys (symbol s ∷ bs) words)) in
    let o = op-of sign_of (Equal ∷ NotEqual ∷ Less ∷ LessEqual ∷ Greater ∷ GreaterEqual ∷ []) s h in
    binary-one o.0 s (length ys) (length bs) _ a b o.1 (longer ys (symbol s ∷ bs) one.some) one other
realised _ _ _ (grammar.tilde {t = t} d) words =
    let one = realised _ _ _ d (after words) in
    expr-one (Expr-F.Not (boxed one.it)) (expr-not one.it one.fact) _ (tree.not t) (omega arith) (ap tree.not one.is)
realised _ _ _ (grammar.no_prefix d) words = realised _ _ _ d words
realised _ _ _ (grammar.no_postfix d) words = realised _ _ _ d words
realised _ _ _ (grammar.sliced {ks = ks} {hs = hs} {ls = ls} {t = t} {h = h} {l = l} d e f) words =
    let lows = ls ++ symbol symbols.CloseCurly ∷ [] in
    let highs = hs ++ symbol symbols.Dots ∷ lows in
    let later = after (behind ks (symbol symbols.OpenCurly ∷ highs) words) in
    let one = realised _ _ _ d (front ks (symbol symbols.OpenCurly ∷ highs) words) in
    let high = realised _ _ _ e (front hs (symbol symbols.Dots ∷ lows) later) in
    let low = realised _ _ _ f (front ls (symbol symbols.CloseCurly ∷ []) (after (behind hs (symbol symbols.Dots ∷ lows) later))) in
    expr-one (Expr-F.Slice (boxed one.it) high.it low.it) (expr-slice one.it high.it low.it one.fact) _ (tree.slice t h l) (longer ks (symbol symbols.OpenCurly ∷ highs) one.some) (let p = one.is in let q = high.is in let r = low.is in cc)
realised _ _ _ (grammar.number {n = n}) words = expr-one (Expr-F.Number n) (expr-number n words.short.0) _ (number_tree n) (omega arith) refl
realised _ _ _ (grammar.paren {ks = ks} {t = t} d) words =
    let one = realised _ _ _ d (front ks (symbol symbols.CloseRound ∷ []) (after words)) in
    expr-one (Expr-F.Paren (boxed one.it)) (expr-paren one.it one.fact) _ (tree.paren t) (omega arith) (ap tree.paren one.is)
realised _ _ _ (grammar.cat {ks = ks} {l = l} d) words =
    let inside = front ks (symbol symbols.CloseRound ∷ []) (after (after words)) in
    let row = (realised _ _ _ d inside).row in
    let parts = row_of row.all (let few = row.few in let most = inside.few in omega (arith, few, most)) in
    expr-one (Expr-F.Cat parts) (expr-cat parts row.fact) _ (tree.cat l) (omega arith) (ap tree.cat row.is)
realised _ _ _ (grammar.call {x = x} {ks = ks} {l = l} d) words =
    let inside = front ks (symbol symbols.CloseRound ∷ []) (after (after words)) in
    let row = realised _ _ _ d inside in
    let args = row_of row.all (let few = row.few in let most = inside.few in omega (arith, few, most)) in
    expr-one (Expr-F.Call x args) (expr-call x args row.fact) _ (tree.call (name_tree x) l) (omega arith) (ap (tree.call (name_tree x)) row.is)
realised _ _ _ (grammar.refer {x = x} {i = i} d) words =
    let index = realised _ _ _ d (after words) in
    let r : Ref = record { name = x; index = index.0 } in
    expr-one (Expr-F.Refer r) (expr-refer r) _ (tree.refer (name_tree x) i) (omega arith) (ap (tree.refer (name_tree x)) index.1)
realised _ _ _ (grammar.delayed {x = x} {js = js} {ds = ds} {i = i} {d = d} e f) words =
    let rest = after words in
    let index = realised _ _ _ e (front js (symbol symbols.At ∷ ds) rest) in
    let k = realised _ _ _ f (after (behind js (symbol symbols.At ∷ ds) rest)) in
    let r : Ref = record { name = x; index = index.0 } in
    expr-one (Expr-F.Delay r k.it) (expr-delay r k.it) _ (tree.delay (tree.refer (name_tree x) i) d) (omega arith) (ap₂ (λ (u v : Tree). tree.delay (tree.refer (name_tree x) u) v) index.1 k.is)
realised _ _ _ (grammar.fixed_number {n = n}) words = fixed-one (Fixed-F.Number n) (fixed-number n words.short.0) _ (number_tree n) (omega arith) refl
realised _ _ _ (grammar.fixed_paren {ks = ks} {t = t} d) words =
    let one = realised _ _ _ d (front ks (symbol symbols.CloseRound ∷ []) (after words)) in
    fixed-one (Fixed-F.Paren (boxed one.it)) (fixed-paren one.it one.fact) _ (tree.paren t) (omega arith) (ap tree.paren one.is)
realised _ _ _ (grammar.fixed_refer {x = x} {i = i} d) words =
    let index = realised _ _ _ d (after words) in
    fixed-name-one x index.0 _ i (omega arith) index.1
