use Rattle.std.proofs.Common.{arith, refl, append_assoc, append-nil}
use Rattle.pr_gen.proofs.TextsLemmas.{sample_lines-none, sample_lines-more}
use Rattle.pr_gen.proofs.lines.put_samples.Goals as goal

pub loop-j-init : goal.loop-j-init
loop-j-init c = rw (sample_lines-none, append-nil) refl

pub loop-j-preserved : goal.loop-j-preserved
loop-j-preserved c =
    let more = sample_lines-more c.loop-j.j in
    rw more (grind (arith, append_assoc))
