use Rattle.std.proofs.Common.{◌≡◌, ◌∙◌, sym, subst, arith}
use Rattle.pr_conf.specs.Configuration.{parts_of}
use Rattle.pr_conf.specs.Rules.{IsLawful}
use Rattle.pr_net.specs.Whole.{shape_of as net_shape}
use Rattle.pr_place.specs.Placements.{shape_of}
use Rattle.pr_route.proofs.Written.{seated, outputs_housed, parts_here, lawful_here, counted_here}
use Rattle.pr_route.proofs.routing.route.Goals as goal

pub outputs-requires : goal.outputs-requires
outputs-requires g c =
    let net = net_shape c.args.net.now in
    let pl = shape_of c.args.placement.now in
    outputs_housed g.row.N g.row.P net pl (seated g.row.N g.row.P net pl c.requires.net c.requires.registers c.requires.most_columns c.requires.placed)

pub invariant_of-result : goal.invariant_of-result
invariant_of-result g c =
    let net = net_shape c.args.net.now in
    let pl = shape_of c.args.placement.now in
    let inputs = c.in_ok-to_vec.field-0.items in
    let outputs = c.in_ok-outputs.field-0.items in
    let stages = c.in_ok-stages.stages.items in
    let same : inputs ≡ net.inputs = c.in_ok-to_vec.ensures.items_if_clones_equal (λ x y e. e) ∙ c.deref.ensures.value in
    let parts = parts_here net pl inputs outputs stages same c.in_ok-outputs.ensures c.in_ok-stages.ensures in
    let lawful : IsLawful g.row.N g.row.P (parts_of inputs outputs stages) = subst (IsLawful g.row.N g.row.P) (sym parts) (lawful_here g.row.N g.row.P net pl c.requires.columns c.requires.most_columns c.requires.registers c.requires.most_registers c.requires.net c.requires.placed) in
    record {
      columns = lawful.columns;
      most_columns = lawful.most_columns;
      registers = lawful.registers;
      most_registers = lawful.most_registers;
      some = omega (arith, lawful.some, counted_here stages);
      few = omega (arith, lawful.few, counted_here stages);
      lawful_inputs = lawful.inputs;
      lawful_outputs = lawful.outputs;
      lawful_stages = lawful.stages;
    }

pub returns : goal.returns
returns g c =
    let net = net_shape c.args.net.now in
    let pl = shape_of c.args.placement.now in
    let inputs = c.in_ok-to_vec.field-0.items in
    let outputs = c.in_ok-outputs.field-0.items in
    let stages = c.in_ok-stages.stages.items in
    let same : inputs ≡ net.inputs = c.in_ok-to_vec.ensures.items_if_clones_equal (λ x y e. e) ∙ c.deref.ensures.value in
    record { routed = parts_here net pl inputs outputs stages same c.in_ok-outputs.ensures c.in_ok-stages.ensures }
