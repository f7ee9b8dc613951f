-- The units of a net that is placed, with their stages.
use Rattle.std.proofs.Common.{◌≡◌, ◌∙◌, ℕ, List, None, map, sym, ap, subst}
use Rattle.std.proofs.lemmas.Simd.{map-map}
use Rattle.pr_net.specs.declared.nets.Net.{Net}
use Rattle.pr_net.specs.Shape.{NetShape}
use Rattle.pr_net.specs.Whole.{shape_of}
use Rattle.pr_cut_units.specs.Nets.{limit_passed}
use Rattle.pr_place.specs.declared.placements.Home.{Home}
use Rattle.pr_place.specs.declared.placements.Placement.{Placement}
use Rattle.pr_place.specs.Greedy.{IsGreedy}
use Rattle.pr_place.specs.Placements.{home_shape, shape_of as placement_shape}
use Rattle.pr_lens_graph.specs.Layouts.{IsLaidOut, stage_of_home, stage_of_shape}

pub laid_out_is : (N P : ℕ) (net : NetShape) (units : Net) (stages : List ℕ) (placement : Placement) (listed : List Home) → shape_of units ≡ net → limit_passed N net ≡ None
    → IsGreedy N P (shape_of units) (placement_shape placement) → listed ≡ placement.homes.items → stages ≡ map stage_of_home listed → IsLaidOut N P net units (placement_shape placement) stages
laid_out_is N P net units stages placement listed are within greedy same listed_are = record {
  units = are;
  within = within;
  greedy = subst (λ (n : NetShape). IsGreedy N P n (placement_shape placement)) are greedy;
  stages = listed_are ∙ (ap (map stage_of_home) same ∙ sym (map-map stage_of_shape home_shape placement.homes.items));
}
