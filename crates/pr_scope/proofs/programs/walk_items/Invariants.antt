use Rattle.std.proofs.Common.{◌≡◌, ◌≤◌, drop}
use Rattle.pr_scope.specs.Walk.{items_walk, world_of}
use Rattle.pr_scope.proofs.programs.walk_items.Given as goal

abbrev pub invariant-loop-item : goal.invariant-loop-item
invariant-loop-item l = record {
  rest : items_walk l.number (drop l.item-index l.items) (world_of l.state) ≡ items_walk 0 l.items (world_of l.fn.state);
  grows : l.number ≤ l.state.count.turns;
  number : l.number ≡ l.item-index;
}
