use Rattle.std.proofs.Common.{arith, false}
use Rattle.pr_samples.specs.Feed.{given_of}
use Rattle.pr_run.specs.Setting.{setting_of}
use Rattle.pr_run.proofs.WholeRuns.{set_of}
use Rattle.pr_edge.specs.Tape.{untold}
use Rattle.pr_move.proofs.StillLemmas.{IsFinal, final_run}
use Rattle.pr_move.proofs.finishing.finish.Goals as goal

pub returns-clause-still : goal.returns-clause-still
returns-clause-still g c =
    let before = (g.S.Shelf.view c.args.shelf.now) in
    let now = (g.S.Shelf.view c.run.new.shelf) in
    let set = set_of c.args.machine.now c.args.stall.now c.args.feed.now before untold false c.requires.inputs c.requires.turns c.requires.fresh.few in
    let final : IsFinal c.run.new.machine (given_of c.run.new.feed) =
    final_run (setting_of c.args.machine.now c.args.stall.now c.args.feed.now before untold false) c.run.new.machine c.run.new.feed now untold c.run.result set c.run.ensures.ran
    (λ e. let rose = c.run.ensures.write_fault e in omega (arith, rose)) in
    final.still

pub returns-clause-left : goal.returns-clause-left
returns-clause-left g c =
    let before = (g.S.Shelf.view c.args.shelf.now) in
    let now = (g.S.Shelf.view c.run.new.shelf) in
    let set = set_of c.args.machine.now c.args.stall.now c.args.feed.now before untold false c.requires.inputs c.requires.turns c.requires.fresh.few in
    let final : IsFinal c.run.new.machine (given_of c.run.new.feed) =
    final_run (setting_of c.args.machine.now c.args.stall.now c.args.feed.now before untold false) c.run.new.machine c.run.new.feed now untold c.run.result set c.run.ensures.ran
    (λ e. let rose = c.run.ensures.write_fault e in omega (arith, rose)) in
    final.left
