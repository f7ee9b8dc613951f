use Rattle.std.proofs.Common.{◌≢◌, ◌<◌, ℕ, [], get_or}
use Rattle.pr_place.specs.Tables.{kinds_of}
use Rattle.pr_place.proofs.grouping.known_class.Given as goal

abbrev pub invariant-loop-class : goal.invariant-loop-class
invariant-loop-class l = (k : ℕ) → k < l.class → get_or (kinds_of l.classes) k [] ≢ l.needs
