use Rattle.std.proofs.Common.{◌≡◌, ◌++◌, drop}
use Rattle.pr_scope_names.specs.Names.{IsOutside, known_in}
use Rattle.pr_probe.proofs.Walking.{IsAt}
use Rattle.pr_lens_origins.specs.Numbers.{items_numbers, numbers_of}
use Rattle.pr_lens_origins.proofs.numbers.instance_numbers.Given as goal

abbrev pub invariant-loop-item : goal.invariant-loop-item
invariant-loop-item l = record {
  number : l.number ≡ l.item-index;
  walked : IsAt l.program.items.items l.item-index (known_in l.statics);
  outside : IsOutside l.statics;
  rest : l.listed.items ++ items_numbers l.item-index (drop l.item-index l.program.items.items) l.at (known_in l.statics) ≡ numbers_of l.program;
}
