use Rattle.std.proofs.Common.{◌≡◌, ◌≤◌}
use Rattle.pr_lens_fits.specs.Ends.{amount_of, together}
use Rattle.pr_lens_fits.proofs.ends.passing_item.Given as goal

abbrev pub invariant-loop-item : goal.invariant-loop-item
invariant-loop-item l = record {
  sum : l.sum ≡ together (amount_of l.counted l.source.tokens.now l.source.spans.now) l.item;
  few : l.sum ≤ l.most;
}
