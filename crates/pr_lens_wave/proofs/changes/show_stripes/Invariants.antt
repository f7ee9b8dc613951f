use Rattle.std.proofs.Common.{◌≡◌}
use Rattle.pr_lens_wave.specs.Scenes.{Page, stripes_shown}
use Rattle.pr_lens_wave.proofs.changes.show_stripes.Given as goal

abbrev pub invariant-loop-stripe : goal.invariant-loop-stripe
invariant-loop-stripe l =
    let before : Page = record { text = l.fn.text.items; told = l.fn.screen.values.items } in
    let after : Page = record { text = l.text.items; told = l.screen.values.items } in
    after ≡ stripes_shown l.stripe l.board.stages.items l.logged.turn.configured before
