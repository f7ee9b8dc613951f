-- Which equation makes a unit.
use Rattle.std.proofs.Common.{◌≡◌, ◌∙◌, ◌<◌, ◌+◌, ◌-◌, ◌⊎◌, ◌&&◌, ℕ, Bool, false, List, [], ◌∷◌, length, get_or, min, nat_lt, refl, ap₂, arith}
use Rattle.pr_lang.specs.declared.tokens.Token.{Token}
use Rattle.pr_flat.specs.declared.equations.Operand.{Operand}
use Rattle.pr_flat.specs.declared.flat.Flat.{Flat}
use Rattle.pr_flat.specs.Widths.{operand_forms, operand_width}
use Rattle.pr_cut_units.specs.Counts.{body_count, one_where}
use Rattle.pr_cut_units.specs.Equations.{plan_of}
use Rattle.pr_cut_units.specs.Flats.{flat_plan}
use Rattle.pr_lens_source.specs.declared.sources.Span.{Span}
use Rattle.pr_lens_find.specs.Made.{IsManyWith}
use Rattle.pr_lens_fits.specs.Makers.{IsMaker, HasMaker}
use Rattle.pr_lens_fits.specs.Unfits.{IsReadyOf}
use Rattle.pr_lens_fits.proofs.UnfitLemmas.{of_told}

-- ---- the units that widen the only operand
pub no_form : (widths : List ℕ) (args : List Operand) (kinds : List Bool) (w : ℕ) → (min (length args) (length kinds) ≡ 1 → ⊥) → body_count w (operand_forms widths args kinds) ≡ 0
no_form widths [] kinds w other = refl
no_form widths (a ∷ args) [] w other = refl
no_form widths (a ∷ []) (k ∷ kinds) w other = absurd (other (omega arith))
no_form widths (a ∷ b ∷ args) (k ∷ []) w other = absurd (other (omega arith))
no_form widths (a ∷ b ∷ args) (k ∷ l ∷ kinds) w other = refl

pub one_form : (widths : List ℕ) (args : List Operand) (kinds : List Bool) (w n : ℕ) (a : Operand) (k : Bool) → min (length args) (length kinds) ≡ 1 → a ≡ get_or args 0 a → k ≡ get_or kinds 0 k
    → n ≡ one_where (k && nat_lt (operand_width widths a) w) → n ≡ body_count w (operand_forms widths args kinds)
one_form widths [] kinds w n a k one at kind is = absurd (omega (arith, one))
one_form widths (b ∷ args) [] w n a k one at kind is = absurd (omega (arith, one))
one_form widths (b ∷ []) (l ∷ kinds) w n a k one at kind is = is ∙ ap₂ (λ (x : Operand) (y : Bool). one_where (y && nat_lt (operand_width widths x) w)) at kind
one_form widths (b ∷ c ∷ args) (l ∷ []) w n a k one at kind is = is ∙ ap₂ (λ (x : Operand) (y : Bool). one_where (y && nat_lt (operand_width widths x) w)) at kind
one_form widths (b ∷ c ∷ args) (l ∷ m ∷ kinds) w n a k one at kind is = absurd (omega (arith, one))

-- ---- the item of the equation
pub has_maker : (narrowed : Bool) (text : List ℕ) (tokens : List Token) (spans : List Span) (flat : Flat) (widths : List ℕ) (unit equation item : ℕ) → IsReadyOf narrowed text flat widths
    → IsMaker (flat_plan flat widths) unit equation → IsManyWith text tokens spans equation item → HasMaker narrowed text tokens spans unit item
has_maker narrowed text tokens spans flat widths unit equation item r is many = record {
  program = r.program;
  given = r.given;
  has = r.has;
  equation = equation;
  are = of_told (λ es ws qs. IsMaker (plan_of es ws qs) unit equation) narrowed r.program r.given flat widths r.are is;
  many = many;
}
