use Rattle.std.proofs.Common.{◌≡◌, ◌≤◌, ℕ, List, map, take}
use Rattle.pr_tool_share.specs.Entries.{entry_in}
use Rattle.pr_tool_modes.specs.Files.{IsInOrder}
use Rattle.pr_tool_share.specs.Lists.{IsNoProgram, IsOneProgram}
use Rattle.pr_tool_share.specs.Items.{AreItemsOf}
use Rattle.pr_tool_share.proofs.OrderedItems.{IsNoneBefore}
use Rattle.pr_tool_share.proofs.items.make_items.Given as goal

abbrev pub invariant-loop-number : goal.invariant-loop-number
invariant-loop-number g l = record {
  ready : AreItemsOf (g.S.Shelf.view l.initial.shelf).told (take l.number (map entry_in l.entries)) l.items.items;
  later : (g.S.Shelf.view l.initial.shelf).faults ≤ (g.S.Shelf.view l.shelf).faults;
  steady : (g.S.Shelf.view l.shelf).faults ≡ (g.S.Shelf.view l.initial.shelf).faults;
  same : (g.S.Shelf.view l.shelf).told ≡ (g.S.Shelf.view l.initial.shelf).told;
  unread : (q : List ℕ) → IsNoneBefore (map entry_in l.entries) l.number q → (g.S.Shelf.view l.shelf).reach q ≡ (g.S.Shelf.view l.initial.shelf).reach q;
  once : (q : List ℕ) → IsOneProgram (map entry_in l.entries) q → IsInOrder ((g.S.Shelf.view l.initial.shelf).reach q) ((g.S.Shelf.view l.shelf).reach q);
  others : (q : List ℕ) → IsNoProgram (map entry_in l.entries) q → (g.S.Shelf.view l.shelf).reach q ≡ (g.S.Shelf.view l.initial.shelf).reach q;
}
