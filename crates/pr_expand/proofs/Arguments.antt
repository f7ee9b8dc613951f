-- Arguments and parameters, and declared widths.
use Rattle.std.proofs.Common.{◌≡◌, ℕ, zero, suc, ◌+◌, ◌≤◌, min, List, [], ◌∷◌, length, drop, set, get_or, Some, refl, ap, arith}
use Rattle.pr_lang.specs.declared.trees.Param.{Param}
use Rattle.pr_flat.specs.declared.equations.Equation.{Equation}
use Rattle.pr_flat.specs.Shape.{EquationShape, equation_shape, shapes_of}
use Rattle.pr_expand_spec.specs.declared.givens.Given.{Given}
use Rattle.pr_expand_spec.specs.Making.{Equations, declare_last}
use Rattle.pr_expand_spec.specs.Statements.{Progress}
use Rattle.pr_expand_spec.specs.Programs.{with_arguments}

none_given : (ps : List Param) (s : Progress) → with_arguments ps [] s ≡ s
none_given [] s = refl
none_given (p ∷ ps) s = refl

-- where there is no parameter more, or no argument
pub arguments_end : (i : ℕ) (ps : List Param) (gs : List Given) (s : Progress) → min (length ps) (length gs) ≤ i → with_arguments (drop i ps) (drop i gs) s ≡ s
arguments_end zero [] gs s h = refl
arguments_end zero (p ∷ ps) [] s h = refl
arguments_end zero (p ∷ ps) (g ∷ gs) s h = absurd (omega (arith, h))
arguments_end (suc n) [] gs s h = refl
arguments_end (suc n) (p ∷ ps) [] s h = none_given (drop n ps) s
arguments_end (suc n) (p ∷ ps) (g ∷ gs) s h = arguments_end n ps gs s (omega (arith, h))

-- the last equation with a declared width
pub last_set : (w : ℕ) (es : List Equation) (n : ℕ) (d e : Equation) → n + 1 ≡ length es → equation_shape e ≡ record (equation_shape (get_or es n d)) { declared = Some w } → shapes_of (set es n e) ≡ declare_last w (shapes_of es)
last_set w [] n d e h is = absurd (omega (arith, h))
last_set w (x ∷ []) zero d e h is = ap (λ (s : EquationShape). s ∷ []) is
last_set w (x ∷ []) (suc n) d e h is = absurd (omega (arith, h))
last_set w (x ∷ y ∷ rest) zero d e h is = absurd (omega (arith, h))
last_set w (x ∷ y ∷ rest) (suc n) d e h is = ap (λ (s : Equations). equation_shape x ∷ s) (last_set w (y ∷ rest) n d e (omega (arith, h)) is)
