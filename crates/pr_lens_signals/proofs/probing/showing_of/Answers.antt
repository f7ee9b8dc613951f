use Rattle.pr_expand_correct.proofs.AgreedPrograms.{widths-needed}
use Rattle.pr_lens_signals.proofs.SignalLemmas.{showing-ready}
use Rattle.pr_lens_signals.proofs.probing.showing_of.Goals as goal

pub probe-requires-clause-widths : goal.probe-requires-clause-widths
probe-requires-clause-widths c = widths-needed c.args.front.scoped.program c.args.front.widths c.args.front.scoped.lawful c.requires.widths

pub returns-in-Ok-clause-ready : goal.returns-in-Ok-clause-ready
returns-in-Ok-clause-ready c = showing-ready c.args.front.scoped.program _ c.in-Ok.ensures.shows c.in-Ok.ensures.kinds c.requires.widths
