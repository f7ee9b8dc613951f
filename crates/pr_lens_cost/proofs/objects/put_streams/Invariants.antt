use Rattle.std.proofs.Common.{◌≡◌, ◌++◌, drop}
use Rattle.pr_lens_cost.specs.Objects.{stream_objects}
use Rattle.pr_lens_cost.proofs.objects.put_streams.Given as goal

abbrev pub invariant-loop-number : goal.invariant-loop-number
invariant-loop-number l = l.text.items ++ stream_objects l.spots l.number (drop l.number l.shares) ≡ l.fn.text.items ++ stream_objects l.spots 0 l.shares
