use Rattle.std.proofs.Common.{◌≡◌, ◌++◌, take}
use Rattle.std.specs.List.{flat_map}
use Rattle.pr_lens_cost.specs.Texts.{share_text}
use Rattle.pr_lens_cost.proofs.streams.put_shares.Given as goal

abbrev pub invariant-loop-share : goal.invariant-loop-share
invariant-loop-share l = l.text.items ≡ l.fn.text.items ++ flat_map share_text (take l.share-index l.shares)
