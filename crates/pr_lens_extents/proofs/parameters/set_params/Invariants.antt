use Rattle.std.proofs.Common.{◌≡◌, drop}
use Rattle.pr_lens_extents.specs.Scenes.{seen_in}
use Rattle.pr_lens_extents.specs.Parameters.{with_params}
use Rattle.pr_lens_extents.proofs.parameters.set_params.Given as goal

abbrev pub invariant-loop-at : goal.invariant-loop-at
invariant-loop-at l =
    let f = l.function in
    with_params f.name.now l.at (drop l.at f.params.now) f.body.now f.result.now (seen_in l.scene)
    ≡ with_params f.name.now 0 f.params.now f.body.now f.result.now (seen_in l.initial.scene)
