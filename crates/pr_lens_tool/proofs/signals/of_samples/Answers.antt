use Rattle.std.proofs.Common.{◌∙◌}
use Rattle.pr_tool_modes.proofs.OrderLemmas.{order_after, order_once, order_one}
use Rattle.pr_lens_signals.specs.Manners.{manner_of}
use Rattle.pr_lens_tool.proofs.StreamLemmas.{has_foreign, has_streams}
use Rattle.pr_lens_tool.proofs.FaultLemmas.{streamed_shown, plain_shown, kept_shown}
use Rattle.pr_lens_tool.proofs.signals.of_samples.Goals as goal

pub returns-in-Ok-signals-clause-told : goal.returns-in-Ok-signals-clause-told
returns-in-Ok-signals-clause-told g c =
    has_streams c.args.name.now c.args.samples.now (manner_of c.args.style.now) c.in-Ok.front (g.S.Shelf.view c.args.shelf.now).told (g.S.Shelf.view c.load.new.shelf).told _ _ _ _ _ _ _ c.in-Ok-signals.answer c.in-Ok.ensures.loaded
    c.load.ensures.same c.load.ensures.later c.in-Ok-signals.ensures.shown

pub returns-in-Err-signals-clause-told : goal.returns-in-Err-signals-clause-told
returns-in-Err-signals-clause-told g c =
    has_foreign c.args.name.now (manner_of c.args.style.now) c.in-Ok.front (g.S.Shelf.view c.args.shelf.now).told _ _ _ _ _ _ c.in-Err-signals.field-0.place c.in-Ok.ensures.loaded
    c.in-Err-signals.ensures.foreign c.in-Err-signals.ensures.unwritten

pub returns-in-Err-clause-shown : goal.returns-in-Err-clause-shown
returns-in-Err-clause-shown g c = plain_shown _ _ c.in-Err.answer c.in-Err.ensures.shown

pub returns-in-Ok-signals-clause-shown : goal.returns-in-Ok-signals-clause-shown
returns-in-Ok-signals-clause-shown g c = streamed_shown _ _ _ c.in-Ok-signals.answer c.in-Ok.ensures.steady c.in-Ok-signals.ensures.fault

pub returns-in-Err-signals-clause-shown : goal.returns-in-Err-signals-clause-shown
returns-in-Err-signals-clause-shown g c = kept_shown _ _ _ (c.in-Err-signals.ensures.unread ∙ c.in-Ok.ensures.steady)

pub returns-in-Err-clause-once : goal.returns-in-Err-clause-once
returns-in-Err-clause-once g c = λ q once. order_one (g.S.Shelf.view c.args.shelf.now).reach (g.S.Shelf.view c.load.new.shelf).reach c.args.name.now q (order_once _ _ _ c.load.ensures.once) c.load.ensures.others

pub returns-in-Ok-signals-clause-once : goal.returns-in-Ok-signals-clause-once
returns-in-Ok-signals-clause-once g c = λ q once. order_after (g.S.Shelf.view c.args.shelf.now).reach (g.S.Shelf.view c.load.new.shelf).reach (g.S.Shelf.view c.signals.new.shelf).reach _ c.args.name.now q c.load.ensures.once c.load.ensures.others
    (λ e. c.signals.ensures.others q (once e)) (order_one (g.S.Shelf.view c.load.new.shelf).reach (g.S.Shelf.view c.signals.new.shelf).reach c.args.samples.now q c.signals.ensures.once c.signals.ensures.others)

pub returns-in-Err-signals-clause-once : goal.returns-in-Err-signals-clause-once
returns-in-Err-signals-clause-once g c = λ q once. order_after (g.S.Shelf.view c.args.shelf.now).reach (g.S.Shelf.view c.load.new.shelf).reach (g.S.Shelf.view c.signals.new.shelf).reach _ c.args.name.now q c.load.ensures.once c.load.ensures.others
    (λ e. c.signals.ensures.others q (once e)) (order_one (g.S.Shelf.view c.load.new.shelf).reach (g.S.Shelf.view c.signals.new.shelf).reach c.args.samples.now q c.signals.ensures.once c.signals.ensures.others)
