use Rattle.std.proofs.Common.{arith}
use Rattle.std.proofs.lemmas.Result.{IfOk-weaker}
use Rattle.pr_lens_find.specs.Fronts.{spot_of}
use Rattle.pr_lens_find.specs.Offences.{Before}
use Rattle.pr_lens_items.specs.Steps.{entries_of}
use Rattle.pr_lens_find.proofs.OffenceLemmas.{none_framed}
use Rattle.pr_lens_find.proofs.offences.among_frames.Goals as goal

pub returns-then-number-le1 : goal.returns-then-number-le1
returns-then-number-le1 c =
    let broken = c.args.broken.now in
    let points = c.args.points.now in
    IfOk-weaker c.in_numbered.result _ _ (λ o is. none_framed (spot_of broken.part) broken.rule points.values.items (entries_of points.frames.items) c.args.number c.requires.first (λ more. absurd (omega (arith, more))) o is) c.in_numbered.ensures

pub returns-in-None : goal.returns-in-None
returns-in-None c =
    let broken = c.args.broken.now in
    let points = c.args.points.now in
    IfOk-weaker c.in_numbered-in-None.result _ _ (λ o is. none_framed (spot_of broken.part) broken.rule points.values.items (entries_of points.frames.items) c.args.number c.requires.first (λ more. rw c.in-None.is at c.in_ok-in_values.ensures) o is) c.in_numbered-in-None.ensures

pub returns-in-Some : goal.returns-in-Some
returns-in-Some c = Before c.args.number c.requires.first (omega (arith, c.if-number-le1.false)) (rw c.in-Some.is at c.in_ok-in_values.ensures)
