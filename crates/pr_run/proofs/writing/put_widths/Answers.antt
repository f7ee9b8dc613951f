use Rattle.std.proofs.Common.{map, arith, ◌∙◌}
use Rattle.std.proofs.lemmas.List.{length-map, length-set}
use Rattle.pr_conf.specs.Shape.{output_shape}
use Rattle.pr_run.proofs.Bytes.{few_outputs, widths_step}
use Rattle.pr_run.proofs.writing.put_widths.Goals as goal

pub loop-i-preserved : goal.loop-i-preserved
loop-i-preserved g c =
    let l = c.loop-i in
    let outputs = c.args.conf.now.outputs in
    let few = few_outputs g.row.N g.row.P (map output_shape outputs.items) c.args.conf.now.lawful_outputs in
    let n = length-map outputs.items output_shape in
    record {
      done = widths_step outputs.items l.into l.i c.index.result.now (omega arith) (omega (arith, few, n, l.invariant.size)) c.index.ensures l.invariant.done;
      size = length-set l.into l.i c.index.result.now.width ∙ l.invariant.size;
    }
