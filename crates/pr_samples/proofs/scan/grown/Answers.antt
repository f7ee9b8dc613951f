use Rattle.std.proofs.Common.{arith}
use Rattle.pr_samples.proofs.ScanLemmas.{pow_width}
use Rattle.pr_samples.proofs.scan.grown.Goals as goal
use Rattle.pr_samples.proofs.scan.grown.Goals.{then-before-gt-TENTH-via-then-before-gt-TENTH, then-before-gt-TENTH-via-else-before-gt-TENTH+then-digit-gt5, then-before-eq-TENTH, else-before-eq-TENTH}

pub returns-then-before-gt-TENTH : goal.returns-then-before-gt-TENTH
returns-then-before-gt-TENTH c =
    let top = pow_width c.args.width c.requires.width in
    elim c.then-before-gt-TENTH.branch [
      | then-before-gt-TENTH-via-then-before-gt-TENTH w ↦ λ below. omega (arith, top)
      | then-before-gt-TENTH-via-else-before-gt-TENTH+then-digit-gt5 w ↦
          elim w.if-before-eq-TENTH.branch [ then-before-eq-TENTH v ↦ λ below. omega (arith, top) | else-before-eq-TENTH v ↦ λ below. omega (arith, top) ]
    ]
