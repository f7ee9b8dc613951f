use Rattle.std.proofs.Common.{◌<◌, ap, ◌∙◌, arith, length, map}
use Rattle.pr_conf.specs.Configuration.{pes_of}
use Rattle.pr_conf.specs.Rules.{are_lawful_stages, bytes_in}
use Rattle.pr_conf.proofs.AfterLaws.{set_lawful, stages_begun}
use Rattle.pr_conf.proofs.configurations.Configuration.begin.Goals as goal

pub invariant_of-self : goal.invariant_of-self
invariant_of-self g c =
    let conf = c.args.self.now in
    let bus = bytes_in conf.inputs.items in
    let here : c.args.stage < length conf.stages.items = omega (arith, c.requires.stage, conf.stages.ok.0) in
    record {
      columns = conf.columns;
      most_columns = conf.most_columns;
      registers = conf.registers;
      most_registers = conf.most_registers;
      some = conf.some;
      few = conf.few;
      lawful_inputs = conf.lawful_inputs;
      lawful_outputs = conf.lawful_outputs;
      lawful_stages =
          ap (are_lawful_stages g.row.N g.row.P bus 0) (stages_begun conf.stages.items c.args.stage c.index_mut.result.now c.begin.new.self c.args.state.now here c.index_mut.ensures.value c.begin.ensures)
          ∙ (set_lawful g.row.N g.row.P bus 0 c.args.stage (map (pes_of {N = g.row.N}) conf.stages.items) c.args.state.now ∙ conf.lawful_stages);
    }

pub returns-clause-stages : goal.returns-clause-stages
returns-clause-stages g c =
    let conf = c.args.self.now in
    let here : c.args.stage < length conf.stages.items = omega (arith, c.requires.stage, conf.stages.ok.0) in
    stages_begun conf.stages.items c.args.stage c.index_mut.result.now c.begin.new.self c.args.state.now here c.index_mut.ensures.value c.begin.ensures
