use Rattle.std.proofs.Common.{◌≡◌, ◌++◌}
use Rattle.pr_lens_names.specs.Instances.{tokens_text}
use Rattle.pr_lens_names.proofs.instances.put_tokens.Given as goal

abbrev pub invariant-loop-at : goal.invariant-loop-at
invariant-loop-at l =
    l.message.items ++ tokens_text l.source.text.now l.source.tokens.now l.at l.to ≡ l.fn.message.items ++ tokens_text l.source.text.now l.source.tokens.now l.from l.to
