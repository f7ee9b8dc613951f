use Rattle.std.proofs.Common.{◌≡◌}
use Rattle.pr_lens_source.specs.Ranges.{first_between}
use Rattle.pr_lens_names.proofs.InstanceLemmas.{assigns}
use Rattle.pr_lens_names.proofs.instances.may_be_assigned.Given as goal

abbrev pub invariant-loop-earlier : goal.invariant-loop-earlier
invariant-loop-earlier l =
    first_between (assigns l.source.text.now l.source.tokens.now l.name l.target l.place) l.earlier l.name
    ≡ first_between (assigns l.source.text.now l.source.tokens.now l.name l.target l.place) 0 l.name
