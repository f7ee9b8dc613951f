-- The code's loads, and what a kind of token does to them.
use Rattle.pr_lang.specs.declared.tokens.Kind.{Kind}
use Rattle.pr_lang.specs.declared.tokens.Kind.TheVariants.{Name, Number, Word, Mark, End, Bad}
use Rattle.pr_lang.specs.Load as lang
use Rattle.pr_parse_lex.specs.declared.depth.Loads.{Loads}
use Rattle.pr_parse_lex.specs.declared.depth.Effect.{Effect}
use Rattle.pr_parse_lex.specs.declared.depth.Effect.TheVariants.{Nothing, Opens, Closes, ClosesCurly, Starts, Adds}

abbrev pub loads_seen : Loads → lang.Loads
loads_seen l = record { load = l.load; stack = l.waiting.items }

abbrev pub effect_seen : Effect → lang.Loads → lang.Loads
effect_seen Nothing s = s
effect_seen Opens s = lang.opened s
effect_seen Closes s = lang.closed s
effect_seen ClosesCurly s = lang.closed_curly s
effect_seen Starts s = lang.begun_anew s
effect_seen Adds s = lang.one_more s

abbrev pub after_kind : Kind → lang.Loads → lang.Loads
after_kind (Word k) s = lang.after_keyword k s
after_kind (Mark m) s = lang.after_symbol m s
after_kind Name s = s
after_kind (Number n) s = s
after_kind End s = s
after_kind Bad s = s
