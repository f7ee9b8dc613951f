use Rattle.std.proofs.Common.{drop, ap, ◌∙◌}
use Rattle.pr_lens_log.proofs.WordLaws.{cut_before, cut_behind, cut_place}
use Rattle.pr_lens_log.proofs.words.cut.Goals as goal

pub returns : goal.returns
returns c = λ before rest h.
    let sign = c.args.sign in
    let bytes = c.args.bytes.now in
    let n = c.count_before.result in
    let count = c.count_before.ensures in
    let place = cut_place sign bytes before rest n h count.within count.none count.found in (
      c.split_at.ensures.front ∙ cut_before sign bytes before rest n h place,
      c.behind.ensures ∙ (ap (drop 1) c.split_at.ensures.back ∙ cut_behind sign bytes before rest n h place),
    )
