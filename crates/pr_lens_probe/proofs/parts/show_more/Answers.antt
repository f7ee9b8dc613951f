use Rattle.std.proofs.Common.{◌∙◌, ◌++◌, List, ap, subst, sym}
use Rattle.pr_flat.specs.declared.equations.Operand.{Operand}
use Rattle.pr_lens_probe.specs.Given.{AreGiven}
use Rattle.pr_lens_probe.proofs.Given.{given-more}
use Rattle.pr_lens_probe.proofs.parts.show_more.Goals as goal

pub returns-clause-given : goal.returns-clause-given
returns-clause-given c = λ is gave.
    let p = c.args.shown.program in
    let some = c.args.some.now in
    let before = c.args.shown.operands.items in
    subst (AreGiven p (is ++ some)) (sym (c.in_ok-extend_from_slice.ensures.items ∙ ap (λ (l : List Operand). before ++ l) c.deref.ensures.value)) (given-more p is some before c.in_ok-more.more.operands.items gave c.in_ok-more.ensures.given)
