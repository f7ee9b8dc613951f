-- The value of a constant shift's amount, in layers that are alike.
use Rattle.std.proofs.Common.{◌≡◌, Option, Some, None, refl}
use Rattle.pr_lang.specs.declared.trees.Fixed.{Fixed}
use Rattle.pr_lang.specs.declared.trees.Expr.TheOpen.{Expr-F}
use Rattle.pr_lang.specs.Shape.{fixed_shape}
use Rattle.pr_scope_names.specs.declared.names.Static.{Static}
use Rattle.pr_scope_names.specs.declared.names.Static.TheVariants.{Constant, Index, Table, Function}
use Rattle.pr_scope_names.specs.Names.{Known}
use Rattle.pr_scope_names.specs.Amounts.{Amount, named_amount, amount_step}
use Rattle.pr_lang_same_tree.proofs.Fixeds.{same-value}
use Rattle.pr_lang_same_tree.proofs.Refs.{alone, indexed}
use Rattle.pr_lang_same_tree.proofs.Exprs.{LikeExpr, number, refer, delay, slice, not, binary, choose, call, cat, paren}

same-named : (i j : Fixed) → fixed_shape i ≡ fixed_shape j → (static : Option Static) (known : Known) → named_amount static (Some i) known ≡ named_amount static (Some j) known
same-named i j is None known = refl
same-named i j is (Some (Constant n)) known = refl
same-named i j is (Some (Index n)) known = refl
same-named i j is (Some (Function f)) known = refl
same-named i j is (Some (Table entries)) known = rw (same-value i j is known)

pub even-amount : (R : Type 0) (amount : R → Amount) (x y : Expr-F R) → LikeExpr R x y → (known : Known) → amount_step amount x known ≡ amount_step amount y known
even-amount R amount x y (number n) known = refl
even-amount R amount x y (refer r s (alone name)) known = refl
even-amount R amount x y (refer r s (indexed name i j is)) known = same-named i j is (known name) known
even-amount R amount x y (delay r s j k like is) known = refl
even-amount R amount x y (slice a b g h k l is high low) known = refl
even-amount R amount x y (not a b is) known = refl
even-amount R amount x y (binary o a b c d left right) known = rw (left, right)
even-amount R amount x y (choose a b c d e f first second third) known = refl
even-amount R amount x y (call name es ds are) known = refl
even-amount R amount x y (cat es ds are) known = refl
even-amount R amount x y (paren a b is) known = rw is
