use Rattle.std.proofs.Common.{codes}
use Rattle.std.proofs.lemmas.Result.{on_ok_weaker}
use Rattle.pr_lens_names.specs.Instances.{instance_text}
use Rattle.pr_lens_names.specs.Names.{introduction_of}
use Rattle.pr_lens_rules.specs.Uses.{again_behind, again_text}
use Rattle.pr_lens_text.proofs.PutLemmas.{three_put}
use Rattle.pr_lens_rules.proofs.uses.introduced_again.Goals as goal

pub returns : goal.returns
unfolding again_text
returns c =
    let source = c.args.source.now in
    on_ok_weaker c.put_again.result (λ h. three_put c.args.message.now.items (instance_text source.text.now source.tokens.now c.args.token) (codes " is introduced a second time.\n") (again_behind source.text.now source.tokens.now c.args.token (introduction_of source.text.now source.tokens.now source.spans.now c.args.token))
    c.in_ok-put_instance.ensures c.in_ok-put.ensures (rw c.introduction_of.ensures.value at h)) c.put_again.ensures
