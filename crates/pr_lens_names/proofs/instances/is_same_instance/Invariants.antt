use Rattle.std.proofs.Common.{◌≡◌, ◌+◌}
use Rattle.pr_lens_source.specs.Ranges.{first_between}
use Rattle.pr_lens_names.specs.Instances.{differs_behind}
use Rattle.pr_lens_names.proofs.instances.is_same_instance.Given as goal

abbrev pub invariant-loop-number : goal.invariant-loop-number
invariant-loop-number l =
    first_between (differs_behind l.source.text.now l.source.tokens.now l.one l.other) l.number (l.behind + 1)
    ≡ first_between (differs_behind l.source.text.now l.source.tokens.now l.one l.other) 0 (l.behind + 1)
