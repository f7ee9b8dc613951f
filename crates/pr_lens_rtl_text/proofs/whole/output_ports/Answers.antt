use Rattle.std.proofs.Common.{◌∙◌, ap, ap₂, arith, length, map}
use Rattle.std.proofs.lemmas.List.{length-map}
use Rattle.std.proofs.lemmas.Result.{IfOk-weaker}
use Rattle.pr_conf.specs.declared.outputs.Output.{Output}
use Rattle.pr_lang.specs.declared.trees.Item.{Item}
use Rattle.std.proofs.Common.{List}
use Rattle.pr_lens_rtl_names.specs.declared.names.Side.{Side}
use Rattle.pr_lens_rtl_names.specs.Names.{names_in, port_name}
use Rattle.pr_lens_rtl_text.specs.Ports.{zipped}
use Rattle.pr_lens_rtl_text.proofs.PortLemmas.{zipped_few}
use Rattle.pr_lens_rtl_terms.proofs.TapLemmas.{few_outputs, same_widths}
use Rattle.pr_lens_rtl_text.proofs.whole.output_ports.Goals as goal

pub returns-clause-ports : goal.returns-clause-ports
returns-clause-ports g c =
    let names = c.deref-3.ensures.value ∙ (c.in_ok-names.ensures ∙ ap (λ (items : List Item). map port_name (names_in Side.Output items)) c.deref.ensures.value) in
    let widths = c.deref-4.ensures.value ∙ (c.in_ok-widths.ensures ∙ (ap (λ (os : List Output). map (λ (o : Output). o.width) os) c.deref-2.ensures.value ∙ same_widths c.args.conf.now.outputs.items)) in
    IfOk-weaker c.ports_of.result _ _ (λ ports h. h ∙ ap₂ zipped names widths) c.ports_of.ensures

pub returns-clause-few : goal.returns-clause-few
returns-clause-few g c =
    let conf = c.args.conf.now in
    let few = few_outputs g.row.N g.row.P conf.outputs.items conf.lawful_outputs in
    let widths = ap length (c.deref-4.ensures.value ∙ c.in_ok-widths.ensures) in
    let same = length-map c.deref-2.result.now (λ (o : Output). o.width) in
    IfOk-weaker c.ports_of.result _ _ (λ ports h. omega (arith, ap length h, zipped_few c.deref-3.result.now c.deref-4.result.now, widths, same, ap length c.deref-2.ensures.value, few)) c.ports_of.ensures
