use Rattle.std.proofs.Common.{arith, refl}
use Rattle.pr_lens_rtl_terms.specs.Terms.{assigns_of}
use Rattle.pr_lens_rtl_terms.proofs.StageLemmas.{outputs_done, outputs_more, places_more}
use Rattle.pr_lens_rtl_terms.proofs.edges.add_outputs.Goals as goal

pub returns : goal.returns
returns c = outputs_done c.args.columns c.args.last c.loop-i.place (assigns_of c.loop-i.lines.items) _ c.args.outputs.now c.loop-i.i (omega arith) c.loop-i.invariant.made

pub loop-i-preserved : goal.loop-i-preserved
loop-i-preserved c = record {
  made =
      rw (c.in_ok-add_output.ensures, c.as_slice-taps.ensures.value)
      (outputs_more c.args.columns c.args.last c.loop-i.place (assigns_of c.loop-i.lines.items) _ c.args.outputs.now c.loop-i.i c.index-outputs-i.result _ c.loop-i-test.true refl c.loop-i.invariant.made);
  left = rw c.as_slice-taps.ensures.value (omega (arith, places_more c.args.outputs.now c.loop-i.i c.index-outputs-i.result _ c.loop-i-test.true refl, c.loop-i.invariant.left));
}
