use Rattle.std.proofs.lemmas.Result.{on_ok_weaker}
use Rattle.pr_lens_source.specs.Tokens.{bytes_of}
use Rattle.pr_lens_names.specs.Brackets.{last_of}
use Rattle.pr_lens_names.specs.Instances.{instance_text, tokens_text}
use Rattle.pr_lens_names.proofs.PieceLemmas.{quoted_put}
use Rattle.pr_lens_names.proofs.instances.put_instance.Goals as goal

pub returns : goal.returns
unfolding instance_text
returns c =
    let source = c.args.source.now in
    let last = last_of source.tokens.now c.args.name in
    on_ok_weaker c.put-2.result (λ h. quoted_put c.args.message.now.items (tokens_text source.text.now source.tokens.now c.args.name last) (bytes_of source.text.now source.tokens.now last)
    c.in_ok-put.ensures (rw c.last_of-last.ensures at c.in_ok-put_tokens.ensures) (rw (c.bytes.ensures, c.last_of-last.ensures) at c.in_ok-extend_from_slice.ensures.items) h) c.put-2.ensures
