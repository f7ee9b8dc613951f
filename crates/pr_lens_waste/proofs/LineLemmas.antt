-- Instances, one after the other.
use Rattle.std.proofs.Common.{◌≡◌, ◌∙◌, ◌+◌, ◌<◌, ◌≤◌, ℕ, zero, suc, Bool, List, [], ◌∷◌, length, drop, get_or, refl, arith}
use Rattle.std.specs.Prelude.{min}
use Rattle.pr_flat.specs.declared.equations.Operand.{Operand}
use Rattle.pr_flat.specs.Shape.{EquationShape}
use Rattle.pr_scope_names.specs.declared.streams.Instance.{Instance}
use Rattle.pr_lens_waste.specs.Delays.{idle_index}
use Rattle.pr_lens_waste.specs.Lines.{Tails, lines_over, with_next}

module _ (equations : List EquationShape) (needed : List Bool) where
  -- those from one place on
  abbrev pub lines_from : ℕ → List Instance → List Operand → Tails → Tails
  lines_from at is os tails = lines_over equations needed (drop at is) (drop at os) tails

  abbrev pub with_one : Instance → Operand → Tails → Tails
  with_one i o tails = with_next i.name (idle_index equations needed i.index o) tails

  more : (at : ℕ) (is : List Instance) (os : List Operand) (i : Instance) (o : Operand) (tails : Tails) → at < length is → at < length os → i ≡ get_or is at i → o ≡ get_or os at o → lines_from (suc at) is os (with_one i o tails) ≡ lines_from at is os tails
  more at [] os i o tails h k p q = absurd (omega (arith, h))
  more at (j ∷ is) [] i o tails h k p q = absurd (omega (arith, k))
  more zero (j ∷ is) (r ∷ os) i o tails h k p q = λ n. lines_over equations needed is os (with_one (p n) (q n) tails)
  more (suc at) (j ∷ is) (r ∷ os) i o tails h k p q = more at is os i o tails (omega (arith, h)) (omega (arith, k)) p q

  pub lines_more : (at : ℕ) (is : List Instance) (os : List Operand) (i : Instance) (o : Operand) (tails next whole : Tails) → at < length is → at < length os → i ≡ get_or is at i → o ≡ get_or os at o
      → next ≡ with_one i o tails → lines_from at is os tails ≡ whole → lines_from (at + 1) is os next ≡ whole
  lines_more at is os i o tails next whole h k p q step rest =
      let one : at + 1 ≡ suc at = omega arith in
      (λ n. lines_from (one n) is os (step n)) ∙ (more at is os i o tails h k p q ∙ rest)

  pub lines_none : (at : ℕ) (is : List Instance) (os : List Operand) (tails : Tails) → min (length is) (length os) ≤ at → lines_from at is os tails ≡ tails
  lines_none zero [] os tails h = refl
  lines_none zero (j ∷ is) [] tails h = refl
  lines_none zero (j ∷ is) (r ∷ os) tails h = absurd (omega (arith, h))
  lines_none (suc at) [] os tails h = refl
  lines_none (suc at) (j ∷ is) [] tails h = none_left (drop at is)
    where
      none_left : (left : List Instance) → lines_over equations needed left [] tails ≡ tails
      none_left [] = refl
      none_left (l ∷ ls) = refl
  lines_none (suc at) (j ∷ is) (r ∷ os) tails h = lines_none at is os tails (omega (arith, h))
