use Rattle.std.proofs.lemmas.Result.{IfOk-weaker}
use Rattle.pr_lens_find.specs.Fronts.{spot_of}
use Rattle.pr_lens_find.proofs.Lookups.{looked_up}
use Rattle.pr_lens_find.proofs.OffenceLemmas.{framed}
use Rattle.pr_lens_find.proofs.offences.in_numbered.Goals as goal

pub returns-in-Some : goal.returns-in-Some
returns-in-Some c =
    let broken = c.args.broken.now in
    let points = c.args.points.now in
    let look = c.in-Some.ensures.lookup in
    let there = looked_up c.deref.result.now points.frames.items _ c.in-Some.frame.now c.deref.ensures.value look.0 look.1 in
    IfOk-weaker c.in_frame.result _ _ (λ o is. framed (spot_of broken.part) broken.rule points.values.items points.frames.items c.args.number c.in-Some.frame.now (rw c.saturating_sub.ensures at there) c.requires.first c.requires.earliest o is) c.in_frame.ensures
