use Rattle.std.proofs.Common.{◌≡◌, ◌≤◌}
use Rattle.pr_lens_source.specs.Ranges.{last_below}
use Rattle.pr_lens_names.specs.Instances.{is_about_target}
use Rattle.pr_lens_names.proofs.instances.target_around.Given as goal

abbrev pub invariant-loop-at : goal.invariant-loop-at
invariant-loop-at l = record {
  within : l.at ≤ l.token;
  rest : last_below (is_about_target l.source.tokens.now) l.at ≡ last_below (is_about_target l.source.tokens.now) l.token;
}

abbrev pub decreases-loop-at : goal.decreases-loop-at
decreases-loop-at l = l.at
