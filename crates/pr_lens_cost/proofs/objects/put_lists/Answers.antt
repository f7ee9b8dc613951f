use Rattle.std.proofs.Common.{codes}
use Rattle.std.proofs.lemmas.Result.{on_ok_weaker}
use Rattle.pr_lens_text.proofs.PutLemmas.{five_put}
use Rattle.pr_lens_cost.specs.Objects.{lists_text, stage_objects, stream_objects}
use Rattle.pr_lens_cost.proofs.objects.put_lists.Goals as goal

pub returns : goal.returns
unfolding lists_text
returns c =
    let cost = c.args.cost.now in
    on_ok_weaker c.put-3.result (λ h. five_put c.args.text.now.items (codes ",\"streams\":[") (stream_objects cost.spots.items 0 cost.shares.items) (codes "],\"stages\":[") (stage_objects 0 cost.stages.items) (codes "]")
    c.in_ok-put.ensures (rw (c.deref.ensures.value, c.deref-2.ensures.value) at c.in_ok-put_streams.ensures) c.in_ok-put-2.ensures (rw c.deref-3.ensures.value at c.in_ok-put_stages.ensures) h) c.put-3.ensures
