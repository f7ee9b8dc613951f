use Rattle.std.proofs.Common.{false}
use Rattle.pr_edge.specs.Tape.{untold}
use Rattle.pr_run.specs.declared.ending.RunEnd.{RunEnd}
use Rattle.pr_run.proofs.WholeRuns.{set_of}
use Rattle.pr_tool_modes.proofs.FoldLemmas.{marked}
use Rattle.pr_tool_modes.proofs.RunLemmas.{Begun, course_of, run_of}
use Rattle.pr_tool_modes.proofs.folds.fold_all.Goals as goal

pub returns-in-Ok-clause-marked : goal.returns-in-Ok-clause-marked
returns-in-Ok-clause-marked g c =
    let ready = c.args.ready in
    let start = g.S.Shelf.view c.args.shelf.now in
    let now = g.S.Shelf.view c.finish.new.shelf in
    let b : Begun g.row.N g.row.P = record { machine = ready.machine; stall = ready.stall; log = false; feed = ready.feed; start = start; now = now; old = untold; new = untold; ready = c.requires.ready } in
    let set = set_of ready.machine ready.stall ready.feed start untold false c.requires.ready.opened.inputs c.requires.ready.few c.requires.ready.opened.fresh.few in
    let run = run_of b c.finish.new.machine c.finish.new.feed (RunEnd.Done c.in-Done.cycles c.in-Done.stalls c.in-Done.results) c.in-Done.ensures.ran in
    marked (course_of b) c.finish.new.machine run.rows run.history c.args.before c.in-Ok.text.items set.some set.two run.stands run.end.1.events run.end.0 c.in-Ok.ensures.mark

pub returns-in-Done-clause-unmarked : goal.returns-in-Done-clause-unmarked
returns-in-Done-clause-unmarked g c =
    let ready = c.args.ready in
    let start = g.S.Shelf.view c.args.shelf.now in
    let now = g.S.Shelf.view c.finish.new.shelf in
    let b : Begun g.row.N g.row.P = record { machine = ready.machine; stall = ready.stall; log = false; feed = ready.feed; start = start; now = now; old = untold; new = untold; ready = c.requires.ready } in
    let run = run_of b c.finish.new.machine c.finish.new.feed (RunEnd.Done c.in-Done.cycles c.in-Done.stalls c.in-Done.results) c.in-Done.ensures.ran in
    record { rows = run.rows; all = run.end.0 }

pub returns-in-BadSample-clause-unmarked : goal.returns-in-BadSample-clause-unmarked
returns-in-BadSample-clause-unmarked g c =
    let ready = c.args.ready in
    let start = g.S.Shelf.view c.args.shelf.now in
    let now = g.S.Shelf.view c.finish.new.shelf in
    let b : Begun g.row.N g.row.P = record { machine = ready.machine; stall = ready.stall; log = false; feed = ready.feed; start = start; now = now; old = untold; new = untold; ready = c.requires.ready } in
    let run = run_of b c.finish.new.machine c.finish.new.feed (RunEnd.BadSample c.in-BadSample.line) c.in-BadSample.ensures.ran in
    record { rows = run.rows; all = run.end.0 }

pub returns-clause-unmarked : goal.returns-clause-unmarked
returns-clause-unmarked g c =
    let ready = c.args.ready in
    let start = g.S.Shelf.view c.args.shelf.now in
    let now = g.S.Shelf.view c.finish.new.shelf in
    let b : Begun g.row.N g.row.P = record { machine = ready.machine; stall = ready.stall; log = false; feed = ready.feed; start = start; now = now; old = untold; new = untold; ready = c.requires.ready } in
    let run = run_of b c.finish.new.machine c.finish.new.feed (RunEnd.Limit c.in-Limit.which) c.in-Limit.ensures.ran in
    record { rows = run.rows; all = run.end.0 }
