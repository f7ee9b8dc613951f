-- The configuration of equations, of a program and of a text, as they are or narrowed.
use Rattle.std.specs.Prelude.{◌≡◌, ℕ, Bool, true, false, List, None, length}
use Rattle.pr_lang.specs.declared.trees.Program.{Program}
use Rattle.pr_flat.specs.declared.equations.Operand.{Operand}
use Rattle.pr_flat.specs.Shape.{EquationShape}
use Rattle.pr_flat.specs.Facts.{IsFlat}
use Rattle.pr_flat.specs.Widths.{AreWidths}
use Rattle.pr_narrow.specs.Narrowed.{AreNarrowed}
use Rattle.pr_expand_spec.specs.Programs.{equations_of}
use Rattle.pr_net.specs.Shape.{NetShape}
use Rattle.pr_cut_units.specs.Nets.{net_of, limit_passed}
use Rattle.pr_place.specs.Placements.{PlacementShape}
use Rattle.pr_place.specs.Greedy.{IsGreedy}
use Rattle.pr_conf.specs.Shape.{Shape}
use Rattle.pr_route.specs.Conf.{conf_of}
use Rattle.pr_compile_front.specs.Refusals.{HasWidths}

-- flat equations with their widths: their net is within the limits of N columns, the greedy rule places it on N columns and
-- P registers, and this is the configuration of that placement
pub record IsConfigured (N P : ℕ) (equations : List EquationShape) (widths : List ℕ) (outputs : List Operand) (conf : Shape) : Type 0 where
  pub flat : IsFlat equations outputs
  pub widths_are : AreWidths equations widths
  pub within : limit_passed N (net_of equations widths outputs) ≡ None
  pub placement : PlacementShape
  pub greedy : IsGreedy N P (net_of equations widths outputs) placement
  pub is : conf ≡ conf_of N (net_of equations widths outputs) placement

-- ---- narrowing
-- the equations of which a net is made, with their widths: these, or what narrowing gives in their place
abbrev pub AreReady : Bool → List EquationShape → List Operand → List ℕ → List EquationShape → List ℕ → Type 0
AreReady false equations outputs widths ready news = (ready ≡ equations) × (news ≡ widths)
AreReady true equations outputs widths ready news = AreNarrowed equations outputs widths ready news

-- flat equations with their widths, and what holds of the equations of which their net is made
pub record OfReady (narrow : Bool) (equations : List EquationShape) (outputs : List Operand) (widths : List ℕ) (Holds : List EquationShape → List ℕ → Type 0) : Type 0 where
  pub flat : IsFlat equations outputs
  pub widths_are : AreWidths equations widths
  pub ready : List EquationShape
  pub news : List ℕ
  pub are : AreReady narrow equations outputs widths ready news
  pub holds : Holds ready news

-- ---- a program, with the widths of its equations
abbrev pub OfReadyBy : Bool → Program → List ℕ → (List EquationShape → List ℕ → Type 0) → Type 0
OfReadyBy narrow program widths Holds = OfReady narrow (equations_of program).equations (equations_of program).outputs widths Holds

abbrev pub net_by : Program → List EquationShape → List ℕ → NetShape
net_by program ready news = net_of ready news (equations_of program).outputs

-- this is the configuration of its equations
abbrev pub IsConfiguredBy : ℕ → ℕ → Bool → Program → List ℕ → Shape → Type 0
IsConfiguredBy N P narrow program widths conf = OfReadyBy narrow program widths (λ ready news. IsConfigured N P ready news (equations_of program).outputs conf)

-- its net has so many units
abbrev pub HasUnitsBy : Bool → Program → List ℕ → ℕ → Type 0
HasUnitsBy narrow program widths count = OfReadyBy narrow program widths (λ ready news. count ≡ length (net_by program ready news).units)

-- ---- a text
-- no point refuses the text, and this is the configuration of its program
pub record IsCompiled (N P : ℕ) (narrow : Bool) (text : List ℕ) (conf : Shape) : Type 0 where
  pub program : Program
  pub widths : List ℕ
  pub has : HasWidths text program widths
  pub configured : IsConfiguredBy N P narrow program widths conf

-- no point up to the widths refuses the text, and the net of its program has so many units
pub record HasUnits (narrow : Bool) (text : List ℕ) (units : ℕ) : Type 0 where
  pub program : Program
  pub widths : List ℕ
  pub has : HasWidths text program widths
  pub are : HasUnitsBy narrow program widths units
