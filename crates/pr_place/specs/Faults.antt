-- What a refusal says of a net.
use Rattle.std.specs.Prelude.{ℕ, ⊤}
use Rattle.pr_net.specs.Shape.{NetShape}
use Rattle.pr_place.specs.declared.faults.PlaceFault.{PlaceFault}
use Rattle.pr_place.specs.declared.faults.PlaceFault.TheVariants.{NoFit, Memory}
use Rattle.pr_place.specs.Greedy.{IsNoFit}

-- the least group that is left fits in no stripe; nothing is said of memory
abbrev pub IsPlaceFault : ℕ → ℕ → NetShape → PlaceFault → Type 0
IsPlaceFault N P net (NoFit unit) = IsNoFit N P net unit
IsPlaceFault N P net (Memory e) = ⊤
