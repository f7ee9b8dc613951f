use Rattle.std.proofs.Common.{◌∙◌, sym, ap}
use Rattle.pr_flat.specs.Values.{input_widths}
use Rattle.pr_scope_facts.proofs.Inputs.{inputs-of-equations}
use Rattle.pr_scope_facts.proofs.InvertedItems.{inputs-scoped}
use Rattle.pr_source_tests.proofs.tests.equations_of.Goals as goal

pub returns-in-Ok : goal.returns-in-Ok
returns-in-Ok c =
    let scoped = c.args.scoped.now in
    ap input_widths c.in-Ok.ensures.equations ∙ (inputs-of-equations scoped.program scoped.lawful ∙ sym (inputs-scoped scoped))
