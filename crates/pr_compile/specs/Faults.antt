-- The faults of the passes, as faults of the whole.
use Rattle.pr_compile_front.specs.declared.faults.FrontFault.{FrontFault}
use Rattle.pr_compile_front.specs.declared.faults.FrontFault.TheVariants as front
use Rattle.pr_cut_plan.specs.declared.faults.CutFault.{CutFault}
use Rattle.pr_cut_plan.specs.declared.faults.CutFault.TheVariants as cut
use Rattle.pr_place.specs.declared.faults.PlaceFault.{PlaceFault}
use Rattle.pr_place.specs.declared.faults.PlaceFault.TheVariants as place
use Rattle.pr_compile.specs.declared.faults.CompileFault.{CompileFault}
use Rattle.pr_compile.specs.declared.faults.CompileFault.TheVariants.{Syntax, Scope, NoWidth, NoFit, Limit, Memory}

abbrev pub front_fault : FrontFault → CompileFault
front_fault (front.Syntax token) = Syntax token
front_fault (front.Scope rule item) = Scope rule item
front_fault (front.NoWidth equation) = NoWidth equation
front_fault (front.Limit cap) = Limit cap
front_fault (front.Memory e) = Memory e

abbrev pub cut_fault : CutFault → CompileFault
cut_fault (cut.Limit cap) = Limit cap
cut_fault (cut.Memory e) = Memory e

abbrev pub place_fault : PlaceFault → CompileFault
place_fault (place.NoFit unit) = NoFit unit
place_fault (place.Memory e) = Memory e
