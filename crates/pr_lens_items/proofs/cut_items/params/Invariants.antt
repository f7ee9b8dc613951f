use Rattle.std.proofs.Common.{◌≡◌, take}
use Rattle.pr_lens_items.proofs.cut_items.params.Given as goal

abbrev pub invariant-loop-param : goal.invariant-loop-param
invariant-loop-param l = l.copies.items ≡ take l.param-index l.all
