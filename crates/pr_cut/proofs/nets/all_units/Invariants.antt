use Rattle.std.proofs.Common.{◌≡◌, take}
use Rattle.std.specs.Prelude.{count_by}
use Rattle.pr_flat.specs.Shape.{EquationShape}
use Rattle.pr_flat.specs.Facts.{is_input}
use Rattle.pr_cut.specs.Sources.{plan_in, equations_in, IsCutTo}
use Rattle.pr_cut.proofs.nets.all_units.Given as goal

abbrev pub invariant-loop-number : goal.invariant-loop-number
invariant-loop-number l = record {
  before : l.before ≡ count_by (λ (e : EquationShape). is_input e.op) (take l.number (equations_in l.source));
  cut : IsCutTo (plan_in l.source) l.number l.units.items l.values.items;
}
