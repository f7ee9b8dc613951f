use Rattle.std.proofs.Common.{◌≡◌, rules, sym, ◌∙◌}
use Rattle.clap.specs.Words.{app_of}
use Rattle.pr_lens_tool.specs.Orders.{app}
use Rattle.pr_lens_tool.proofs.OrderLemmas.{asked-refused, asked-taken, asks-for-help, asks-for-more, fault-among, faults-none}
use Rattle.pr_lens_tool.proofs.asking.read_order.Goals as goal

pub returns-in-DisplayHelp-clause-help : goal.returns-in-DisplayHelp-clause-help
returns-in-DisplayHelp-clause-help c = λ _.
    let ours : app_of c.in_ok-command.command ≡ app = c.in_ok-command.ensures in
    asked-refused _ c.args.words.now c.in-Err.e ours c.in-Err.ensures.kinds (λ memory. let same = c.kind.ensures ∙ memory in cc)

pub returns-in_default-clause-usage : goal.returns-in_default-clause-usage
returns-in_default-clause-usage c = λ _.
    let ours : app_of c.in_ok-command.command ≡ app = c.in_ok-command.ensures in
    asked-refused _ c.args.words.now c.in-Err.e ours c.in-Err.ensures.kinds (λ memory. c.in_default.not-OutOfMemory (c.kind.ensures ∙ memory))

pub returns-in-DisplayHelp-clause-asks : goal.returns-in-DisplayHelp-clause-asks
returns-in-DisplayHelp-clause-asks c = λ _.
    let ours : app_of c.in_ok-command.command ≡ app = c.in_ok-command.ensures in
    let among = fault-among _ c.args.words.now c.in-Err.e ours c.in-Err.ensures.kinds (λ memory. let same = c.kind.ensures ∙ memory in cc) in
    asks-for-help c.args.words.now _ among (let same = c.kind.ensures in cc)

pub returns-in_default-clause-unasked : goal.returns-in_default-clause-unasked
returns-in_default-clause-unasked c = λ _.
    let ours : app_of c.in_ok-command.command ≡ app = c.in_ok-command.ensures in
    let among = fault-among _ c.args.words.now c.in-Err.e ours c.in-Err.ensures.kinds (λ memory. c.in_default.not-OutOfMemory (c.kind.ensures ∙ memory)) in
    asks-for-more c.args.words.now _ among (λ help. c.in_default.not-DisplayHelp (c.kind.ensures ∙ help))

pub returns-clause-unasked : goal.returns-clause-unasked
returns-clause-unasked c = λ _.
    let ours : app_of c.in_ok-command.command ≡ app = c.in_ok-command.ensures in
    faults-none _ c.args.words.now ours c.in-Ok.ensures.kinds

pub returns-clause-order : goal.returns-clause-order
returns-clause-order c =
    let ours : app_of c.in_ok-command.command ≡ app = c.in_ok-command.ensures in
    let said = asked-taken _ c.args.words.now c.in-Ok.matches ours c.in-Ok.ensures.kinds c.in-Ok.ensures.matches ∙ sym c.found.ensures in
    search (rules, said)

pub returns-clause-usage : goal.returns-clause-usage
returns-clause-usage c = λ usage.
    let ours : app_of c.in_ok-command.command ≡ app = c.in_ok-command.ensures in
    let said = asked-taken _ c.args.words.now c.in-Ok.matches ours c.in-Ok.ensures.kinds c.in-Ok.ensures.matches ∙ sym c.found.ensures in
    search (rules, said, usage)
