use Rattle.std.proofs.Common.{◌≡◌, ◌+◌, ◌≤◌, ℕ, true, false, length}
use Rattle.pr_lens_source.specs.Ranges.{one_where}
use Rattle.pr_lens_warn.specs.Needs.{AreSettled, AreSound, is_marked, unmarked}
use Rattle.pr_lens_warn.proofs.needs.mark_used.Given as goal

abbrev pub invariant-loop-at : goal.invariant-loop-at
invariant-loop-at l = record {
  within : l.at ≤ length l.marks;
  long : length l.marks ≡ length l.initial.marks;
  sound : AreSound l.source.text.now l.source.tokens.now l.source.spans.now l.marks;
  kept : (k : ℕ) → is_marked l.initial.marks k ≡ true → is_marked l.marks k ≡ true;
  fewer : unmarked l.marks + one_where l.more ≤ unmarked l.initial.marks;
  settled : l.more ≡ false → AreSettled l.source.text.now l.source.tokens.now l.source.spans.now l.marks l.at;
}

abbrev pub decreases-loop-at : goal.decreases-loop-at
decreases-loop-at l = l.at
