use Rattle.pr_lang.specs.Word.{words_of}
use Rattle.pr_parse.proofs.Main.{none_wrong, some_program, one_program}
use Rattle.pr_parse.proofs.parser.wrong_token_law.Goals as goal

pub returns-clause-accepted : goal.returns-clause-accepted
returns-clause-accepted c = λ q d. none_wrong (words_of c.args.text.now) q d

pub returns-clause-derived : goal.returns-clause-derived
returns-clause-derived c = λ h. some_program (words_of c.args.text.now) h

pub returns-clause-one : goal.returns-clause-one
returns-clause-one c = λ p q d e. one_program (words_of c.args.text.now) p q d e
