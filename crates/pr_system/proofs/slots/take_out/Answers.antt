use Rattle.std.proofs.Common.{length-set, rules}
use Rattle.std.proofs.lemmas.List.{set-set}
use Rattle.pr_system.proofs.slots.take_out.Goals as goal

pub returns : goal.returns
returns g c = record {
  slot = search rules;
  rest = λ v. set-set c.args.slots.now.items c.args.at _ v;
  same = length-set c.args.slots.now.items c.args.at _;
}
