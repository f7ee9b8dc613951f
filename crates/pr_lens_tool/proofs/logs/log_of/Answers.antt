use Rattle.std.proofs.Common.{◌∙◌, ◌^◌, arith, inr, subst, sym}
use Rattle.pr_lens_log.specs.declared.excerpts.Choice.{Choice}
use Rattle.pr_lens_log.specs.Logs.{IsLogOf}
use Rattle.pr_lens_tool.specs.declared.outcomes.Outcome.{Outcome}
use Rattle.pr_lens_tool.specs.Logs.{IsNoLog, choice_of}
use Rattle.pr_lens_tool.proofs.LogLemmas.{bad_end, has_log, no_log, read_none}
use Rattle.pr_lens_tool.proofs.logs.log_of.Goals as goal

pub read_file-requires-clause-read : goal.read_file-requires-clause-read
read_file-requires-clause-read g c = read_none (g.S.Shelf.view c.args.shelf.now).told c.args.name.now c.in_ok-reader.reader c.in_ok-reader.ensures.read

pub read_file-requires-clause-room : goal.read_file-requires-clause-room
read_file-requires-clause-room g c = c.in_ok-reader.ensures.room (2 ^ 45) (omega arith)

pub returns-in-Ok-clause-read : goal.returns-in-Ok-clause-read
returns-in-Ok-clause-read g c =
    has_log (choice_of c.args.drawing c.args.window) (g.S.Shelf.view c.args.shelf.now).told c.args.name.now c.read_file.new.reader c.in-Ok.log c.in_ok-read_file.ensures.read
    (λ text read. subst (λ (chosen : Choice). IsLogOf chosen text c.in-Ok.log) (c.in_ok-read_file.ensures.choice ∙ (c.in_ok-reader.ensures.choice ∙ c.choice_of.ensures)) (c.in-Ok.ensures.log text read))

pub returns-in-Err-clause-refused : goal.returns-in-Err-clause-refused
returns-in-Err-clause-refused g c =
    let told = (g.S.Shelf.view c.args.shelf.now).told in
    let name = c.args.name.now in
    let bad = bad_end told name c.read_file.new.reader c.in-Err.fault c.in_ok-read_file.ensures.read c.in-Err.ensures.refused in
    subst (λ (o : Outcome). IsNoLog told name (g.S.Shelf.view c.args.shelf.now).faults (g.S.Shelf.view c.read_file.new.shelf).faults o) (sym c.from.ensures)
    (no_log told name (g.S.Shelf.view c.args.shelf.now).faults (g.S.Shelf.view c.read_file.new.shelf).faults c.in-Err.fault bad)

pub returns-in-Err-clause-shown : goal.returns-in-Err-clause-shown
returns-in-Err-clause-shown g c = inr (inr c.in_ok-read_file.ensures.steady)
