use Rattle.std.proofs.Common.{◌≡◌, drop}
use Rattle.pr_expand_spec.specs.Programs.{items_change, start}
use Rattle.pr_expand.specs.Scopes.{IsBefore}
use Rattle.pr_expand.specs.Worlds.{world_at}
use Rattle.pr_expand.proofs.Between.{WalkBefore}
use Rattle.pr_expand.proofs.items.all_items.Given as goal

abbrev pub invariant-loop-one : goal.invariant-loop-one
invariant-loop-one l = record {
  number : l.number ≡ l.one-index;
  walked : WalkBefore l.items l.number;
  at : IsBefore l.items l.world.statics l.number;
  rest : items_change l.number (drop l.one-index l.items) (world_at l.items l.number l.world) ≡ items_change 0 l.items start;
}
