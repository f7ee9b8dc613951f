use Rattle.std.proofs.Common.{[], ◌∷◌, ◌++◌, codes, decimal, refl}
use Rattle.pr_lens_log.specs.Lines.{stalled_turn}
use Rattle.pr_lens_log.proofs.CycleLaws.{stall_again, stall_is}
use Rattle.pr_lens_log.proofs.WordLaws.{decimal_none, if_none_then, no_feed, none_by_test}
use Rattle.pr_lens_log.proofs.lines.read_stall.Goals as goal

pub returns-clause-none : goal.returns-clause-none
returns-clause-none c = if_none_then c.confirmed.result c.confirmed.ensures.none (λ differs logged line stalled.
    let words = c.cut.ensures (codes "stall") (decimal logged.time ++ 10 ∷ []) (record { is = stall_is c.args.bytes.now logged line stalled; none = none_by_test 32 (codes "stall") refl }) in
    let time = c.cut-2.ensures (decimal logged.time) [] (record { is = words.1; none = decimal_none 10 logged.time line.long no_feed }) in
    differs (stall_again c.args.bytes.now logged line stalled_turn c.number.result [] refl stalled (c.number.ensures.reads logged.time line.long time.0)))
