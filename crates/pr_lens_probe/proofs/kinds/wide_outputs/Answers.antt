use Rattle.std.proofs.Common.{arith}
use Rattle.pr_flat.specs.declared.equations.Operand.TheVariants.{Const}
use Rattle.pr_lens_probe.specs.Kinds.{is_wide}
use Rattle.pr_lens_probe.proofs.Pushing.{tested-more}
use Rattle.pr_lens_probe.proofs.kinds.wide_outputs.Goals as goal

pub loop-place-preserved : goal.loop-place-preserved
loop-place-preserved c =
    tested-more (is_wide c.args.widths.now) c.args.flat.now.outputs.items c.loop-place.place (Const 0) c.loop-place.kinds.items c.push.new.self.items _ c.is_wide.result
    (omega (arith, c.loop-place-test.true, c.len-place-end.ensures, c.args.flat.now.outputs.ok.0)) (c.is_wide.ensures (Const 0)) c.in_ok-push.ensures.items c.loop-place.invariant
