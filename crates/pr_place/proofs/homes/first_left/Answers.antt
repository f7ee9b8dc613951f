use Rattle.std.proofs.Common.{◌∙◌, Bool, None, get_or, not, length, ap}
use Rattle.std.specs.Option.{is_some}
use Rattle.pr_place.proofs.Searches.{find_on}
use Rattle.pr_place.proofs.homes.first_left.Goals as goal

pub loop-group-preserved : goal.loop-group-preserved
loop-group-preserved c =
    let stages = c.args.stages.now in
    find_on (λ g. not (is_some (get_or stages g None))) c.loop-group.group (length stages) c.loop-group-test.true (ap not c.is_none.ensures ∙ ap (λ (b : Bool). not (not b)) c.if-is_none.false) ∙ c.loop-group.invariant
