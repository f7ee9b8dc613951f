use Rattle.std.proofs.Common.{◌≤◌, ℕ, List, length, subst}
use Rattle.pr_tool_answers.proofs.OwedLemmas.{owed_steady}
use Rattle.pr_tool_modes.specs.Calls.{call}
use Rattle.pr_tool.specs.Words.{asked_by}
use Rattle.pr_tool.specs.Calls.{IsVerdict}
use Rattle.pr_tool.proofs.CallLemmas.{called_owed, called_fault, called_write, called_memory, called_usage, called_wrong, called_gained, called_lines}
use Rattle.pr_tool.proofs.tool.piperench.Goals as goal

pub returns-clause-verdict : goal.returns-clause-verdict
returns-clause-verdict g c = λ files told. called_owed files (asked_by c.args.words.now) (call (g.S.Shelf.view c.args.shelf.now) (g.S.Shelf.view c.reply_to-reply.new.shelf) (g.K.Sink.view c.args.out.now) (g.K.Sink.view c.reply_to-reply.new.out)) c.args.bench.now c.reply_to-reply.new.bench c.reply_to-reply.result.answer told c.reply_to-reply.ensures.called

pub returns-clause-complete : goal.returns-clause-complete
returns-clause-complete g c = λ files told shelf out. owed_steady (IsVerdict files (asked_by c.args.words.now)) _ _ _ _ c.reply_to-reply.result.answer (called_owed files (asked_by c.args.words.now) (call (g.S.Shelf.view c.args.shelf.now) (g.S.Shelf.view c.reply_to-reply.new.shelf) (g.K.Sink.view c.args.out.now) (g.K.Sink.view c.reply_to-reply.new.out)) c.args.bench.now c.reply_to-reply.new.bench c.reply_to-reply.result.answer told c.reply_to-reply.ensures.called) shelf out

pub returns-clause-lines : goal.returns-clause-lines
returns-clause-lines g c = λ files order j name target told is request source. called_lines files (asked_by c.args.words.now) order j name target (call (g.S.Shelf.view c.args.shelf.now) (g.S.Shelf.view c.reply_to-reply.new.shelf) (g.K.Sink.view c.args.out.now) (g.K.Sink.view c.reply_to-reply.new.out)) c.args.bench.now c.reply_to-reply.new.bench c.reply_to-reply.result.answer told is request source c.reply_to-reply.ensures.called

pub returns-clause-gained : goal.returns-clause-gained
returns-clause-gained g c = λ files order told is. called_gained files (asked_by c.args.words.now) order (call (g.S.Shelf.view c.args.shelf.now) (g.S.Shelf.view c.reply_to-reply.new.shelf) (g.K.Sink.view c.args.out.now) (g.K.Sink.view c.reply_to-reply.new.out)) c.args.bench.now c.reply_to-reply.new.bench c.reply_to-reply.result.answer told is c.reply_to-reply.ensures.called

pub returns-clause-usage : goal.returns-clause-usage
returns-clause-usage g c = called_usage (asked_by c.args.words.now) (call (g.S.Shelf.view c.args.shelf.now) (g.S.Shelf.view c.reply_to-reply.new.shelf) (g.K.Sink.view c.args.out.now) (g.K.Sink.view c.reply_to-reply.new.out)) c.args.bench.now c.reply_to-reply.new.bench c.reply_to-reply.result.answer c.reply_to-reply.ensures.called

pub returns-clause-wrong : goal.returns-clause-wrong
returns-clause-wrong g c = called_wrong (asked_by c.args.words.now) (call (g.S.Shelf.view c.args.shelf.now) (g.S.Shelf.view c.reply_to-reply.new.shelf) (g.K.Sink.view c.args.out.now) (g.K.Sink.view c.reply_to-reply.new.out)) c.args.bench.now c.reply_to-reply.new.bench c.reply_to-reply.result.answer c.reply_to-reply.ensures.called

pub returns-clause-read_fault : goal.returns-clause-read_fault
returns-clause-read_fault g c = called_fault (asked_by c.args.words.now) (call (g.S.Shelf.view c.args.shelf.now) (g.S.Shelf.view c.reply_to-reply.new.shelf) (g.K.Sink.view c.args.out.now) (g.K.Sink.view c.reply_to-reply.new.out)) c.args.bench.now c.reply_to-reply.new.bench c.reply_to-reply.result.answer c.reply_to-reply.ensures.called

pub returns-clause-write_fault : goal.returns-clause-write_fault
returns-clause-write_fault g c = called_write (asked_by c.args.words.now) (call (g.S.Shelf.view c.args.shelf.now) (g.S.Shelf.view c.reply_to-reply.new.shelf) (g.K.Sink.view c.args.out.now) (g.K.Sink.view c.reply_to-reply.new.out)) c.args.bench.now c.reply_to-reply.new.bench c.reply_to-reply.result.answer c.reply_to-reply.ensures.called

pub returns-clause-memory : goal.returns-clause-memory
returns-clause-memory g c = called_memory (asked_by c.args.words.now) (call (g.S.Shelf.view c.args.shelf.now) (g.S.Shelf.view c.reply_to-reply.new.shelf) (g.K.Sink.view c.args.out.now) (g.K.Sink.view c.reply_to-reply.new.out)) c.args.bench.now c.reply_to-reply.new.bench c.reply_to-reply.result.answer c.reply_to-reply.ensures.called

pub returns-clause-short : goal.returns-clause-short
returns-clause-short g c = subst (λ (t : List ℕ). length t ≤ 128) c.reply_to-reply.ensures.bounds c.put_note.ensures.short
