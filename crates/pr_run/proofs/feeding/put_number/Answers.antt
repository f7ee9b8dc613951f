use Rattle.std.proofs.Common.{ap, arith, ◌∙◌}
use Rattle.pr_base.specs.Numbers.{bytes_of}
use Rattle.pr_run.proofs.Bytes.{one_byte, whole_number}
use Rattle.pr_run.proofs.feeding.put_number.Goals as goal

pub returns-then-into-eq1 : goal.returns-then-into-eq1
returns-then-into-eq1 c = one_byte c.args.into.now c.args.n c.byte_of.result (omega (arith, c.if-into-eq1.true)) c.byte_of.ensures

pub returns : goal.returns
returns c =
    let l = c.loop-i in
    whole_number l.into c.args.n (λ k h. l.invariant.done k (omega (arith, h, l.invariant.size, l.invariant.end, c.loop-i-test.false)))
    ∙ ap (λ n. bytes_of n c.args.n) l.invariant.size
