use Rattle.std.proofs.Common.{sym, subst}
use Rattle.pr_tool_answers.specs.declared.answers.Answer.{Answer}
use Rattle.pr_tool_modes.specs.Runs.{IsRun}
use Rattle.pr_tool_modes.proofs.RunLemmas.{Begun, course_of, run_of}
use Rattle.pr_tool_modes.proofs.runs.run_all.Goals as goal

pub returns-clause-ran : goal.returns-clause-ran
returns-clause-ran g c =
    let ready = c.args.ready in
    let b : Begun g.row.N g.row.P = record {
      machine = ready.machine;
      stall = ready.stall;
      log = c.args.log;
      feed = ready.feed;
      start = g.S.Shelf.view c.args.shelf.now;
      now = g.S.Shelf.view c.run-end.new.shelf;
      old = (g.K.Sink.view c.args.out.now).told;
      new = (g.K.Sink.view c.run-end.new.out).told;
      ready = c.requires;
    } in
    subst (λ (a : Answer). IsRun (course_of b) c.run-end.new.machine a) (sym c.answer_of.ensures) (run_of b c.run-end.new.machine c.run-end.new.feed c.run-end.result c.run-end.ensures.ran)
