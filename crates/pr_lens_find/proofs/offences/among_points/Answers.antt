use Rattle.std.proofs.Common.{◌≡◌, length, arith}
use Rattle.std.proofs.lemmas.List.{length-map}
use Rattle.std.proofs.lemmas.Result.{IfOk-weaker}
use Rattle.pr_lens_find.specs.Fronts.{spot_of}
use Rattle.pr_lens_items.specs.Steps.{entries_of, entry_of}
use Rattle.pr_lens_find.proofs.OffenceLemmas.{none_unframed}
use Rattle.pr_lens_find.proofs.offences.among_points.Goals as goal

pub returns-in-None : goal.returns-in-None
returns-in-None c =
    let broken = c.args.broken.now in
    let points = c.args.points.now in
    let whole : c.len.result ≡ length (entries_of points.frames.items) = omega (arith, points.frames.ok.0, length-map points.frames.items entry_of) in
    IfOk-weaker c.in_all_frames.result _ _ (λ o is. none_unframed (spot_of broken.part) broken.rule points.values.items (entries_of points.frames.items) (rw whole at (rw c.in-None.is at c.in_ok-first_frame.ensures)) o is) c.in_all_frames.ensures
