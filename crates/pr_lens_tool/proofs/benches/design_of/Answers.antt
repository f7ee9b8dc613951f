use Rattle.std.proofs.Common.{refl}
use Rattle.pr_lens_tool.proofs.benches.design_of.Goals as goal

pub returns : goal.returns
returns g c = record { name_is = c.in_ok-module_name.ensures; inputs = c.in_ok-input_ports.ensures.ports; outputs = c.in_ok-output_ports.ensures.ports; seed_is = refl }
