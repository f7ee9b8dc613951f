use Rattle.std.proofs.Common.{ap, arith, length}
use Rattle.std.proofs.lemmas.Result.{IfOk-weaker}
use Rattle.pr_lens_rtl_text.proofs.PortLemmas.{inputs_few, zipped_few}
use Rattle.pr_lens_rtl_text.proofs.whole.input_ports.Goals as goal

pub returns-clause-few : goal.returns-clause-few
returns-clause-few g c =
    let conf = c.args.conf.now in
    let few = inputs_few g.row.N conf.inputs.items conf.most_columns conf.lawful_inputs in
    IfOk-weaker c.ports_of.result _ _ (λ ports h. omega (arith, ap length h, zipped_few c.deref-2.result.now c.deref-3.result.now, ap length c.deref-3.ensures.value, few)) c.ports_of.ensures
