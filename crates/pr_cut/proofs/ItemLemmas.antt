-- Lists of one, two and three operands.
use Rattle.std.proofs.Common.{◌≡◌, List, [], ◌∷◌, length, get_or, refl, sym, ap, ap₂, ◌∙◌, arith}
use Rattle.pr_flat.specs.declared.equations.Op.{Op}
use Rattle.pr_flat.specs.Facts.{arity}
use Rattle.pr_cut_cells.specs.declared.arguments.Argument.{Argument}
use Rattle.pr_cut_cells.specs.Arguments.{argument_of}
use Rattle.pr_cut.specs.Operators.{arguments_of}

pub one_argument : (xs : List Argument) (a : Argument) → length xs ≡ 1 → a ≡ get_or xs 0 a → arguments_of xs ≡ argument_of a ∷ []
one_argument [] a l i = absurd (omega (arith, l))
one_argument (x ∷ []) a l i = ap (λ (y : Argument). argument_of y ∷ []) (sym i)
one_argument (x ∷ y ∷ xs) a l i = absurd (omega (arith, l))

pub two_arguments : (xs : List Argument) (a b : Argument) → length xs ≡ 2 → a ≡ get_or xs 0 a → b ≡ get_or xs 1 b → arguments_of xs ≡ argument_of a ∷ argument_of b ∷ []
two_arguments [] a b l i j = absurd (omega (arith, l))
two_arguments (x ∷ []) a b l i j = absurd (omega (arith, l))
two_arguments (x ∷ y ∷ []) a b l i j =
    ap₂ (λ (v z : Argument). argument_of v ∷ argument_of z ∷ []) (sym i) (sym j)
two_arguments (x ∷ y ∷ z ∷ xs) a b l i j = absurd (omega (arith, l))

pub three_arguments : (xs : List Argument) (c a b : Argument) → length xs ≡ 3 → c ≡ get_or xs 0 c → a ≡ get_or xs 1 a → b ≡ get_or xs 2 b → arguments_of xs ≡ argument_of c ∷ argument_of a ∷ argument_of b ∷ []
three_arguments [] c a b l i j k = absurd (omega (arith, l))
three_arguments (x ∷ []) c a b l i j k = absurd (omega (arith, l))
three_arguments (x ∷ y ∷ []) c a b l i j k = absurd (omega (arith, l))
three_arguments (x ∷ y ∷ z ∷ []) c a b l i j k =
    ap₂ (λ (u v : Argument). argument_of u ∷ argument_of v ∷ argument_of z ∷ []) (sym i) (sym j) ∙ ap (λ (w : Argument). argument_of c ∷ argument_of a ∷ argument_of w ∷ []) (sym k)
three_arguments (x ∷ y ∷ z ∷ v ∷ xs) c a b l i j k = absurd (omega (arith, l))

pub is_choice : (op : Op) → arity op ≡ 3 → op ≡ Op.Choose
is_choice Op.Choose h = refl
is_choice op h = absurd (omega (arith, h))
