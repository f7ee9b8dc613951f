use Rattle.std.proofs.lemmas.Result.{IfOk-weaker}
use Rattle.pr_lens_find.specs.Fronts.{spot_of}
use Rattle.pr_lens_items.specs.Steps.{entries_of}
use Rattle.pr_lens_find.proofs.OffenceLemmas.{value_anywhere}
use Rattle.pr_lens_find.proofs.offences.in_all_frames.Goals as goal

pub returns : goal.returns
returns c =
    let broken = c.args.broken.now in
    let points = c.args.points.now in
    IfOk-weaker c.in_values.result _ _ (λ o is. value_anywhere (spot_of broken.part) broken.rule points.values.items (entries_of points.frames.items) c.requires.none o is) c.in_values.ensures
