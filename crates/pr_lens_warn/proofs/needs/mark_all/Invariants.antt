use Rattle.std.proofs.Common.{◌≡◌, ◌+◌, ℕ, true, false, length}
use Rattle.pr_lens_source.specs.Ranges.{one_where}
use Rattle.pr_lens_warn.specs.Needs.{AreSettled, AreSound, is_marked, unmarked}
use Rattle.pr_lens_warn.proofs.needs.mark_all.Given as goal

abbrev pub invariant-loop-more : goal.invariant-loop-more
invariant-loop-more l = record {
  long : length l.marks ≡ length l.initial.marks;
  sound : AreSound l.source.text.now l.source.tokens.now l.source.spans.now l.marks;
  kept : (k : ℕ) → is_marked l.initial.marks k ≡ true → is_marked l.marks k ≡ true;
  settled : l.more ≡ false → AreSettled l.source.text.now l.source.tokens.now l.source.spans.now l.marks 0;
}

abbrev pub decreases-loop-more : goal.decreases-loop-more
decreases-loop-more l = unmarked l.marks + one_where l.more
