use Rattle.std.proofs.Common.{length}
use Rattle.std.specs.Prelude.{All}
use Rattle.pr_lens_source.specs.Spans.{IsSpanWithin}
use Rattle.pr_lens_source.proofs.ItemLemmas.{AreItemsSoFar}
use Rattle.pr_lens_source.proofs.sources.spans_of.Given as goal

abbrev pub invariant-loop-last : goal.invariant-loop-last
invariant-loop-last l = record {
  within : All (IsSpanWithin (length l.tokens)) l.spans.items;
  items : AreItemsSoFar l.tokens l.first l.last l.depth l.spans.items;
}
