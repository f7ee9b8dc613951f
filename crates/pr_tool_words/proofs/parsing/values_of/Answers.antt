use Rattle.std.proofs.Common.{◌≡◌, rules, sym, ◌∙◌}
use Rattle.clap.specs.Words.{app_of}
use Rattle.pr_tool_words.specs.Shape.{app}
use Rattle.pr_tool_words.proofs.SaidLemmas.{said-refused, said-taken}
use Rattle.pr_tool_words.proofs.parsing.values_of.Goals as goal

pub returns-in_default-clause-usage : goal.returns-in_default-clause-usage
returns-in_default-clause-usage c = λ _.
    let ours : app_of c.in_ok-command.command ≡ app = search rules in
    said-refused _ c.args.words.now c.in-Err.e ours c.in-Err.ensures.kinds (λ memory. c.in_default.not-OutOfMemory (c.kind.ensures ∙ memory))

pub returns-clause-values : goal.returns-clause-values
returns-clause-values c =
    let ours : app_of c.in_ok-command.command ≡ app = search rules in
    let said = said-taken _ c.args.words.now c.in-Ok.matches ours c.in-Ok.ensures.kinds c.in-Ok.ensures.matches ∙ sym c.found.ensures in
    search (rules, said)

pub returns-clause-usage : goal.returns-clause-usage
returns-clause-usage c = λ usage.
    let ours : app_of c.in_ok-command.command ≡ app = search rules in
    let said = said-taken _ c.args.words.now c.in-Ok.matches ours c.in-Ok.ensures.kinds c.in-Ok.ensures.matches ∙ sym c.found.ensures in
    search (rules, said, usage)
