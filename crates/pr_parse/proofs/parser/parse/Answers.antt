use Rattle.std.proofs.Common.{ap, sym, ◌∙◌, arith, length}
use Rattle.pr_lang.specs.Word.{words}
use Rattle.pr_parse.proofs.Deep.{deep_within}
use Rattle.pr_parse.proofs.Endings.{length-tokens_from, program_of_answer, accepted_of_answer, refused_of_answer, refused_along}
use Rattle.pr_parse.proofs.parser.parse.Goals as goal

pub parse_all-requires-clause-shallow : goal.parse_all-requires-clause-shallow
parse_all-requires-clause-shallow c = sym (c.in_ok-deep.ensures c.args.text.now) ∙ c.in-None.is

pub parse_all-requires-clause-few : goal.parse_all-requires-clause-few
parse_all-requires-clause-few c = omega (arith, ap length c.requires.tokens, length-tokens_from 0 0 c.args.text.now)

pub parse_front-requires-clause-deep : goal.parse_front-requires-clause-deep
parse_front-requires-clause-deep c = sym (c.in_ok-deep.ensures c.args.text.now) ∙ c.in-Some.is

pub parse_front-requires-clause-within : goal.parse_front-requires-clause-within
parse_front-requires-clause-within c = deep_within c.args.text.now c.args.tokens.now c.in-Some.place (sym (c.in_ok-deep.ensures c.args.text.now) ∙ c.in-Some.is)

pub parse_front-requires-clause-few : goal.parse_front-requires-clause-few
parse_front-requires-clause-few c = omega (arith, ap length c.requires.tokens, length-tokens_from 0 0 c.args.text.now)

pub returns-in-None-clause-program : goal.returns-in-None-clause-program
returns-in-None-clause-program c = program_of_answer _ _ c.parse_all.result (ap (words c.args.text.now) c.requires.tokens) c.parse_all.ensures

pub returns-in-None-clause-accepted : goal.returns-in-None-clause-accepted
returns-in-None-clause-accepted c = accepted_of_answer _ _ c.parse_all.result (ap (words c.args.text.now) c.requires.tokens) c.parse_all.ensures

pub returns-in-None-clause-refused : goal.returns-in-None-clause-refused
returns-in-None-clause-refused c = refused_of_answer _ _ c.parse_all.result (ap (words c.args.text.now) c.requires.tokens) c.parse_all.ensures

pub returns-in-Some-clause-refused : goal.returns-in-Some-clause-refused
returns-in-Some-clause-refused c = refused_along _ _ c.parse_front.result (ap (words c.args.text.now) c.requires.tokens) c.parse_front.ensures
