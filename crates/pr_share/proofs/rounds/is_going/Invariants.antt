use Rattle.std.proofs.Common.{◌≡◌, ◌<◌, ℕ, true, Some, slice_get, is_some}
use Rattle.pr_share.specs.declared.items.ShareItem.{ShareItem}
use Rattle.pr_share.proofs.rounds.is_going.Given as goal

abbrev pub invariant-loop-item : goal.invariant-loop-item
invariant-loop-item g l = (i : ℕ) (x : ShareItem g.row.N g.row.P) → i < l.item-index → slice_get l.items i ≡ Some x → is_some x.ended ≡ true
