use Rattle.pr_run.proofs.Closing.{done_over, on_cycle, cut_cycle}
use Rattle.pr_run.proofs.turning.close_turn.Goals as goal

pub returns-then-is_over-clause-after : goal.returns-then-is_over-clause-after
returns-then-is_over-clause-after g c = λ s first runs next now set is closes on.
    done_over s first runs next c.args.machine.now c.args.feed.now now _ c.args.last c.is_over.result closes c.if-is_over.true (λ h st. c.is_over.ensures s.conf s.stripes h st) on

pub returns-in-Ok-clause-after : goal.returns-in-Ok-clause-after
returns-in-Ok-clause-after g c = λ s first runs next now set is closes on.
    on_cycle s first runs next c.args.machine.now c.cycle_step.new.machine c.args.feed.now now _ _ c.args.last c.is_over.result closes c.if-is_over.false (λ h st. c.is_over.ensures s.conf s.stripes h st)
    (λ h done. c.in-Ok.ensures.done s h set is done) on

pub returns-in-Err-clause-after : goal.returns-in-Err-clause-after
returns-in-Err-clause-after g c = λ s first runs next now set is closes on.
    cut_cycle s first runs next c.args.machine.now c.cycle_step.new.machine c.args.feed.now now _ _ c.args.last c.is_over.result closes c.if-is_over.false (λ h st. c.is_over.ensures s.conf s.stripes h st)
    (λ h done. c.in-Err.ensures.begun s h set is done) on
