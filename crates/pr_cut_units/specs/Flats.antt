-- The plan and the net of flat equations with these widths.
use Rattle.std.specs.Prelude.{ℕ, List}
use Rattle.pr_flat.specs.declared.flat.Flat.{Flat}
use Rattle.pr_flat.specs.Flats.{equations_of}
use Rattle.pr_net.specs.Shape.{NetShape}
use Rattle.pr_cut_units.specs.Equations.{UnitPlan, plan_of}
use Rattle.pr_cut_units.specs.Nets.{net_of}

abbrev pub flat_plan : Flat → List ℕ → UnitPlan
flat_plan flat widths = plan_of (equations_of flat) widths flat.outputs.items

abbrev pub flat_net : Flat → List ℕ → NetShape
flat_net flat widths = net_of (equations_of flat) widths flat.outputs.items
