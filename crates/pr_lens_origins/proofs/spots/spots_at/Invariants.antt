use Rattle.std.proofs.Common.{◌≡◌, get_or, map, take}
use Rattle.pr_lens_origins.proofs.spots.spots_at.Given as goal

abbrev pub invariant-loop-number : goal.invariant-loop-number
invariant-loop-number l = l.spots.items ≡ map (λ n. get_or l.table n l.last) (take l.number-index l.numbers)
