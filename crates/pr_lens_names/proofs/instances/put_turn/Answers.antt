use Rattle.std.proofs.Common.{codes, decimal, refl}
use Rattle.std.proofs.lemmas.Result.{on_ok_weaker}
use Rattle.pr_lens_source.specs.Tokens.{bytes_of}
use Rattle.pr_lens_names.specs.Instances.{turn_text}
use Rattle.pr_lens_text.proofs.PutLemmas.{five_put}
use Rattle.pr_lens_names.proofs.instances.put_turn.Goals as goal

pub returns : goal.returns
unfolding turn_text
returns c =
    let source = c.args.source.now in
    on_ok_weaker c.put-2.result (λ h. five_put c.args.message.now.items (codes ", and in the first turn it is `") (bytes_of source.text.now source.tokens.now c.args.name) (codes "[") (decimal c.args.place) (codes "]`") c.in_ok-put.ensures (rw c.bytes.ensures at c.in_ok-extend_from_slice.ensures.items) refl c.in_ok-put_counted.ensures h) c.put-2.ensures
