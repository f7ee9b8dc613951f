-- Names with one tree, and operators, widths and parameters, which have one each.
use Rattle.std.proofs.Common.{◌≡◌, ◌∙◌, ℕ, List, [], ◌∷◌, map, Option, Some, None, refl, sym, ap, ap₂}
use Rattle.pr_lang.specs.declared.tokens.Symbol.{Symbol}
use Rattle.pr_lang.specs.declared.tokens.Symbol.TheVariants as symbols
use Rattle.pr_lang.specs.declared.trees.BinOp.{BinOp}
use Rattle.pr_lang.specs.declared.trees.BinOp.TheVariants.{Add, Sub, Mul, And, Or, Xor, Equal, NotEqual, Less, LessEqual, Greater, GreaterEqual, Left, Right}
use Rattle.pr_lang.specs.declared.trees.Fixed.{Fixed}
use Rattle.pr_lang.specs.declared.trees.Ref.{Ref}
use Rattle.pr_lang.specs.declared.trees.Param.{Param}
use Rattle.pr_lang.specs.Is.{sign_tree}
use Rattle.pr_lang.specs.Shape.{sign_of, width_tree, fixed_shape, index_shape, ref_shape, param_shape}

-- ---- operators
op_by : Symbol → BinOp
op_by symbols.Minus = Sub
op_by symbols.Star = Mul
op_by symbols.Amp = And
op_by symbols.Bar = Or
op_by symbols.Caret = Xor
op_by symbols.Equal = Equal
op_by symbols.NotEqual = NotEqual
op_by symbols.Less = Less
op_by symbols.LessEqual = LessEqual
op_by symbols.Greater = Greater
op_by symbols.GreaterEqual = GreaterEqual
op_by symbols.ShiftLeft = Left
op_by symbols.ShiftRight = Right
op_by _ = Add

op-read : (o : BinOp) → op_by (sign_of o) ≡ o
unfolding op_by
op-read Add = refl
op-read Sub = refl
op-read Mul = refl
op-read And = refl
op-read Or = refl
op-read Xor = refl
op-read Equal = refl
op-read NotEqual = refl
op-read Less = refl
op-read LessEqual = refl
op-read Greater = refl
op-read GreaterEqual = refl
op-read Left = refl
op-read Right = refl

pub one-op : (o p : BinOp) → sign_tree (sign_of o) ≡ sign_tree (sign_of p) → o ≡ p
one-op o p same =
    let signs : sign_of o ≡ sign_of p = cc in
    sym (op-read o) ∙ (ap op_by signs ∙ op-read p)

-- ---- names
-- one name, and indices with one tree, if there is one
pub data LikeRef : Ref → Ref → Type 0 where
  alone : (x : List ℕ) → LikeRef (record { name = x; index = None }) (record { name = x; index = None })
  indexed : (x : List ℕ) (i j : Fixed) → fixed_shape i ≡ fixed_shape j → LikeRef (record { name = x; index = Some i }) (record { name = x; index = Some j })

by_index : (x y : List ℕ) (i j : Option Fixed) → x ≡ y → index_shape i ≡ index_shape j → LikeRef (record { name = x; index = i }) (record { name = y; index = j })
by_index x y None None names same = rw names (alone y)
by_index x y None (Some j) names same = absurd cc
by_index x y (Some i) None names same = absurd cc
by_index x y (Some i) (Some j) names same =
    let here : fixed_shape i ≡ fixed_shape j = cc in
    rw names (indexed y i j here)

pub like-refs : (r s : Ref) → ref_shape r ≡ ref_shape s → LikeRef r s
like-refs r s same =
    let names : r.name ≡ s.name = cc in
    let indices : index_shape r.index ≡ index_shape s.index = cc in
    by_index r.name s.name r.index s.index names indices

-- ---- widths and parameters
pub one-width : (v w : Option ℕ) → width_tree v ≡ width_tree w → v ≡ w
one-width None None same = refl
one-width None (Some w) same = absurd cc
one-width (Some v) None same = absurd cc
one-width (Some v) (Some w) same = ap Some cc

one-param : (p q : Param) → param_shape p ≡ param_shape q → p ≡ q
one-param p q same =
    let names : p.name ≡ q.name = cc in
    let trees : width_tree p.width ≡ width_tree q.width = cc in
    ap₂ (λ (x : List ℕ) (w : Option ℕ). record { name = x; width = w }) names (one-width p.width q.width trees)

pub one-params : (ps qs : List Param) → map param_shape ps ≡ map param_shape qs → ps ≡ qs
one-params [] [] same = refl
one-params [] (q ∷ qs) same = absurd cc
one-params (p ∷ ps) [] same = absurd cc
one-params (p ∷ ps) (q ∷ qs) same =
    let here : param_shape p ≡ param_shape q = cc in
    let more : map param_shape ps ≡ map param_shape qs = cc in
    ap₂ (λ a rest. a ∷ rest) (one-param p q here) (one-params ps qs more)
