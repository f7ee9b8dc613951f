-- The units of a program, and their stages.
use Rattle.std.specs.Prelude.{ℕ, ◌≡◌, Bool, List, None, map}
use Rattle.pr_lang.specs.declared.trees.Program.{Program}
use Rattle.pr_net.specs.declared.nets.Net.{Net}
use Rattle.pr_net.specs.Shape.{NetShape}
use Rattle.pr_net.specs.Whole.{shape_of}
use Rattle.pr_place.specs.declared.placements.Home.{Home}
use Rattle.pr_place.specs.Placements.{HomeShape, PlacementShape}
use Rattle.pr_place.specs.Greedy.{IsGreedy}
use Rattle.pr_cut_units.specs.Nets.{limit_passed}
use Rattle.pr_compile_front.specs.Refusals.{HasWidths}
use Rattle.pr_compile.specs.Configured.{OfReadyBy, net_by}
use Rattle.pr_lens_graph.specs.declared.layouts.Layout.{Layout}
use Rattle.pr_lens_graph.specs.Names.{AreNamesOrNone}

abbrev pub stage_of_home : Home → ℕ
stage_of_home home = home.stage

abbrev pub stage_of_shape : HomeShape → ℕ
stage_of_shape home = home.stage

-- the units are those of this net, which is within the limits of N columns, they stand where the greedy rule places them, and their
-- stages are those of that placement
pub record IsLaidOut (N P : ℕ) (net : NetShape) (units_are : Net) (placement : PlacementShape) (stages_are : List ℕ) : Type 0 where
  pub units : shape_of units_are ≡ net
  pub within : limit_passed N net ≡ None
  pub greedy : IsGreedy N P net placement
  pub stages : stages_are ≡ map stage_of_shape placement.homes

-- the net is that of a program's equations, narrowed or as they are
abbrev pub IsLayoutBy : ℕ → ℕ → Bool → Program → List ℕ → Net → PlacementShape → List ℕ → Type 0
IsLayoutBy N P narrowed program widths units placement stages = OfReadyBy narrowed program widths (λ ready news. IsLaidOut N P (net_by program ready news) units placement stages)

-- the same of the program of a text, with the names that the text has for units and outputs
pub record IsLayout (N P : ℕ) (narrowed : Bool) (text : List ℕ) (layout : Layout) : Type 0 where
  pub program : Program
  pub widths : List ℕ
  pub has : HasWidths text program widths
  pub placement : PlacementShape
  pub laid_out : IsLayoutBy N P narrowed program widths layout.net placement layout.stages.items
  pub names : AreNamesOrNone N narrowed text program widths layout.names
