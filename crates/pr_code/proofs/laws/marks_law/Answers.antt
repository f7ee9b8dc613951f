use Rattle.std.proofs.Common.{◌∙◌, sym, drop, true}
use Rattle.pr_code.specs.Reading.{words_of_bytes, shape_in}
use Rattle.pr_code.specs.Marks.{count_of}
use Rattle.pr_code.proofs.MarkLemmas.{mark_whole}
use Rattle.pr_code.proofs.AgainMarks.{mark_again}
use Rattle.pr_code.proofs.laws.marks_law.Goals as goal

pub returns-clause-accepted : goal.returns-clause-accepted
returns-clause-accepted c = λ N P bytes n1 n64 p2 p16 fits h.
    let sound = mark_whole N P bytes n1 n64 p2 p16 fits h in
    (count_of (words_of_bytes bytes), (shape_in true N (drop 3 (words_of_bytes bytes)), sound.lawful, sound.has, sound.mark))

pub returns-clause-files : goal.returns-clause-files
returns-clause-files c = λ N P n shape bytes lawful has file. (mark_again N P n shape bytes lawful has file).none

pub returns-clause-one : goal.returns-clause-one
returns-clause-one c = λ N P n m first second bytes lawful has lawful' has' file file'.
    let a = mark_again N P n first bytes lawful has file in
    let b = mark_again N P m second bytes lawful' has' file' in
    (sym a.counts ∙ b.counts, sym a.reads ∙ b.reads)
