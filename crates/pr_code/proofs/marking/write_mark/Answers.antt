use Rattle.std.proofs.lemmas.Result.{IfOk-from_err}
use Rattle.pr_conf.specs.Configuration.{shape_of}
use Rattle.pr_code.specs.Spelling.{words_of}
use Rattle.pr_code.specs.Marks.{mark_words}
use Rattle.pr_code.proofs.AgainMarks.{written_mark, written_good}
use Rattle.pr_code.proofs.WritingLemmas.{two_parts}
use Rattle.pr_code.proofs.marking.write_mark.Goals as goal

pub returns-clause-mark : goal.returns-clause-mark
returns-clause-mark g c =
    rw c.new-out.ensures.items at (two_parts c.new-out.result.items c.put_words.new.out.items c.put_configuration.new.out.items (mark_words c.args.count) (words_of g.row.N g.row.P (shape_of c.args.conf.now)) c.in_ok-put_words.ensures c.in_ok-put_configuration.ensures.words)

pub returns-clause-is : goal.returns-clause-is
returns-clause-is g c =
    written_mark c.args.conf.now c.args.count c.put_configuration.new.out.items c.requires
    (rw c.new-out.ensures.items at (two_parts c.new-out.result.items c.put_words.new.out.items c.put_configuration.new.out.items (mark_words c.args.count) (words_of g.row.N g.row.P (shape_of c.args.conf.now)) c.in_ok-put_words.ensures c.in_ok-put_configuration.ensures.words))

pub returns-clause-good : goal.returns-clause-good
returns-clause-good g c =
    written_good c.args.conf.now c.args.count c.put_configuration.new.out.items c.requires c.in_ok-put_configuration.ensures.bytes
    (rw c.new-out.ensures.items at (two_parts c.new-out.result.items c.put_words.new.out.items c.put_configuration.new.out.items (mark_words c.args.count) (words_of g.row.N g.row.P (shape_of c.args.conf.now)) c.in_ok-put_words.ensures c.in_ok-put_configuration.ensures.words))

pub returns-in_err-put_words : goal.returns-in_err-put_words
returns-in_err-put_words g c = let h = c.from_residual.ensures.0 in record { mark = IfOk-from_err _ _ h; bytes = IfOk-from_err _ _ h; is = IfOk-from_err _ _ h; good = IfOk-from_err _ _ h }

pub returns-in_err-put_configuration : goal.returns-in_err-put_configuration
returns-in_err-put_configuration g c = let h = c.from_residual-in_err-put_configuration.ensures.0 in record { mark = IfOk-from_err _ _ h; bytes = IfOk-from_err _ _ h; is = IfOk-from_err _ _ h; good = IfOk-from_err _ _ h }
