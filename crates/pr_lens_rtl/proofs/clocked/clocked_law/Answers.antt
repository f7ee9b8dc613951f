use Rattle.std.proofs.Common.{[], map, ap, if◌then◌else◌}
use Rattle.pr_lens_rtl.specs.Clocked.{after_clocks, all_advanced}
use Rattle.pr_lens_rtl.proofs.FlowLaws.{flow, order_law, all_law}
use Rattle.pr_lens_rtl.proofs.clocked.clocked_law.Goals as goal

pub returns : goal.returns
returns c = record {
  order = λ M v tap hs ps some r. (map tap (flow M 0 (after_clocks M hs ps) []), order_law M v tap hs ps some r);
  all = λ M v tap hs ps qs some r q long. all_law M v tap hs ps qs some r q long;
  stalled = λ M hs p e. ap (λ b. if b then all_advanced M 0 p.valid p.row hs else hs) e;
}
