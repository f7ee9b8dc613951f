use Rattle.std.proofs.Common.{[], ◌∷◌, ◌++◌, codes, decimal, refl}
use Rattle.pr_log.specs.Lines.{configured_text, entry_text, saved_text}
use Rattle.pr_lens_log.proofs.CycleLaws.{behind_configured, behind_entered, behind_saved, behind_time, configured_none, cycle_again, cycle_is, entry_none_blank, entry_none_feed, saved_same}
use Rattle.pr_lens_log.proofs.WordLaws.{decimal_none, if_none_then, no_blank, none_by_test}
use Rattle.pr_lens_log.proofs.lines.read_cycle.Goals as goal

pub returns-clause-none : goal.returns-clause-none
returns-clause-none c = if_none_then c.confirmed.result c.confirmed.ensures.none (λ differs logged line advanced.
    let turn = logged.turn in
    let can = line.can in
    let none = none_by_test 32 in
    let time = c.second.ensures (codes "cycle") (decimal logged.time) (behind_time turn line.state) (none (codes "cycle") refl) (decimal_none 32 logged.time line.long no_blank) (cycle_is c.args.bytes.now logged line advanced) in
    let stage = c.second-2.ensures (codes "conf") (configured_text turn.configured) (behind_configured turn line.state) (none (codes "conf") refl) (configured_none turn.configured can.configured) time.1 in
    let save = c.cut.ensures (codes "save") (saved_text turn.saved line.state ++ 32 ∷ behind_saved turn) (record { is = stage.1; none = none (codes "save") refl }) in
    let kept = c.saved-saved.ensures.reads turn.saved line.state (behind_saved turn) can.saved line.state_bytes save.1 in
    let entered = c.second-3.ensures (codes "in") (entry_text turn.entered) (behind_entered turn) (none (codes "in") refl) (entry_none_blank turn.entered can.entered) kept.2 in
    let out = c.cut-2.ensures (codes "out") (entry_text turn.left ++ 10 ∷ []) (record { is = entered.1; none = none (codes "out") refl }) in
    let left = c.cut-3.ensures (entry_text turn.left) [] (record { is = out.1; none = entry_none_feed turn.left can.left }) in
    differs (cycle_again c.args.bytes.now logged line c.configured.result c.saved-saved.result.0 c.entry.result c.entry-2.result c.number.result _ advanced
    (c.number.ensures.reads logged.time line.long time.0)
    (c.configured.ensures.reads turn.configured can.configured stage.0)
    (saved_same c.saved-saved.result.0 turn.saved c.saved-saved.result.1.now _ line.state kept.0 kept.1 c.state-count.ensures.reads line.short line.state_bytes)
    (c.entry.ensures.reads turn.entered can.entered entered.0)
    (c.entry-2.ensures.reads turn.left can.left left.0)))
