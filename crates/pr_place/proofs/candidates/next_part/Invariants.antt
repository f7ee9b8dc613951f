use Rattle.std.proofs.Common.{◌≡◌, ◌*◌, ◌<◌, ◌≤◌, ℕ, bit_and, slice_index}
use Rattle.pr_place.proofs.candidates.next_part.Given as goal

abbrev pub invariant-loop-part : goal.invariant-loop-part
invariant-loop-part l = (p : ℕ) → l.from ≤ p → p < l.part → bit_and (slice_index l.summary (p * 33)) l.allowed ≡ 0
