use Rattle.std.proofs.Common.{sym, subst}
use Rattle.pr_parse_print.specs.Put.{IsPut, comma_before}
use Rattle.pr_parse_print.proofs.Puts.{no_put}
use Rattle.pr_parse_print.proofs.words.put_comma.Goals as goal

pub returns-then-i-eq0 : goal.returns-then-i-eq0
returns-then-i-eq0 c = subst (λ n. IsPut c.args.text.now.items (comma_before n) c.args.text.now.items) (sym c.if-i-eq0.true) no_put
