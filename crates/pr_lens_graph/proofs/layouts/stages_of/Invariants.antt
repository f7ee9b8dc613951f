use Rattle.std.proofs.Common.{◌≡◌, map, take}
use Rattle.pr_lens_graph.specs.Layouts.{stage_of_home}
use Rattle.pr_lens_graph.proofs.layouts.stages_of.Given as goal

abbrev pub invariant-loop-home : goal.invariant-loop-home
invariant-loop-home l = l.stages.items ≡ map stage_of_home (take l.home-index l.homes)
