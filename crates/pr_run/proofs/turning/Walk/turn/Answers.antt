use Rattle.std.proofs.Common.{refl, ◌∙◌}
use Rattle.pr_run_script.specs.Script.{fed, emptied}
use Rattle.pr_run.specs.Setting.{stages_of, held_of}
use Rattle.pr_run.proofs.Closing.{turned_steps, turned_fed, on_written, cut_written}
use Rattle.pr_run.proofs.turning.Walk.turn.Goals as goal

pub returns-in-Ok-clause-after : goal.returns-in-Ok-clause-after
returns-in-Ok-clause-after g c = λ s runs next set is turns on.
    let v = stages_of s in
    let turn = held_of c.args.held in
    let shelf = c.feed_step-last.new.shelf in
    let now = (g.S.Shelf.view shelf) in
    let first = c.feed_step-last.ensures.on s runs turn (g.K.Sink.view c.args.out.now).told set refl on in
    let second = on_written s (λ xs. fed v s.stripes turn (runs xs)) turn c.feed_step-last.new.machine c.write_step.new.machine c.feed_step-last.new.feed now _ _ c.feed_step-last.result c.args.held.output set refl
    (λ h done. c.in-Ok.ensures.done s h done) first in
    c.close_turn.ensures.after s runs (λ xs. emptied v s.stripes turn (fed v s.stripes turn (runs xs))) next now set is
    (λ xs e. (let step = turned_steps v s.stripes turn (runs xs) e in (step.0, turns xs ∙ step.1))) second

pub returns-in-Err-clause-after : goal.returns-in-Err-clause-after
returns-in-Err-clause-after g c = λ s runs next set is turns on.
    let v = stages_of s in
    let turn = held_of c.args.held in
    let shelf = c.feed_step-last.new.shelf in
    let now = (g.S.Shelf.view shelf) in
    let first = c.feed_step-last.ensures.on s runs turn (g.K.Sink.view c.args.out.now).told set refl on in
    cut_written s (λ xs. fed v s.stripes turn (runs xs)) next turn c.feed_step-last.new.machine c.write_step.new.machine c.feed_step-last.new.feed now _ _ c.feed_step-last.result c.args.held.output refl
    (λ xs e. turns xs ∙ turned_fed v s.stripes turn (runs xs) e) (λ h done. c.in-Err.ensures.begun s h done) first
