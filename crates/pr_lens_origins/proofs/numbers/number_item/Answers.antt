use Rattle.std.proofs.Common.{◌∙◌, ap, sym}
use Rattle.pr_lang.specs.declared.trees.Item.{Item}
use Rattle.pr_scope_names.specs.Names.{known_in}
use Rattle.pr_scope_names.proofs.Seen.{known_kept}
use Rattle.pr_probe.specs.Instances.{known_after}
use Rattle.pr_lens_origins.proofs.numbers.number_item.Goals as goal

pub returns-in_ok-more-in-Step-clause-known : goal.returns-in_ok-more-in-Step-clause-known
returns-in_ok-more-in-Step-clause-known c =
    let known = known_in c.args.statics.now in
    known_kept c.args.statics.now c.number_stmt.new.statics c.in_ok-more-in-Step.ensures.names ∙ sym (ap (λ (i : Item). known_after c.args.number i known) c.in-Step.is)
