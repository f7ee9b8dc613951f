use Rattle.std.proofs.Common.{◌==◌, ◌∙◌, slice_index, sym}
use Rattle.pr_code.specs.Spelling.{format_1}
use Rattle.pr_code.specs.Reading.{words_of_bytes, shape_in}
use Rattle.pr_code.specs.Rules.{format_of, bad_word}
use Rattle.pr_code.proofs.FileLemmas.{file_sound, file_of, widest_of}
use Rattle.pr_code.proofs.AgainFiles.{file_again}
use Rattle.pr_code.proofs.laws.files_law.Goals as goal

pub returns-clause-accepted : goal.returns-clause-accepted
unfolding bad_word
returns-clause-accepted c = λ N P bytes n1 n64 p2 p16 fits h.
    let b = slice_index (words_of_bytes bytes) 0 == format_1.mark in
    let sound = file_sound (format_of bytes) N P bytes n1 n64 p2 p16 (widest_of b) fits h in
    (shape_in (format_of bytes).packed N (words_of_bytes bytes), sound.lawful, sound.has, file_of b N P (shape_in (format_of bytes).packed N (words_of_bytes bytes)) bytes sound.file)

pub returns-clause-files : goal.returns-clause-files
returns-clause-files c = λ N P shape bytes lawful has file. (file_again N P shape bytes lawful has file).none

pub returns-clause-one : goal.returns-clause-one
returns-clause-one c = λ N P first second bytes lawful has lawful' has' file file'.
    sym (file_again N P first bytes lawful has file).reads ∙ (file_again N P second bytes lawful' has' file').reads
