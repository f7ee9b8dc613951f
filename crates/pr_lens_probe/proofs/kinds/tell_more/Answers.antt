use Rattle.std.proofs.Common.{◌∙◌, ◌++◌, Bool, List, ap, subst, sym}
use Rattle.pr_lens_probe.specs.Given.{HaveKinds}
use Rattle.pr_lens_probe.proofs.Given.{kinds-more}
use Rattle.pr_lens_probe.proofs.kinds.tell_more.Goals as goal

pub returns-clause-kinds : goal.returns-clause-kinds
returns-clause-kinds c = λ is told.
    let p = c.args.told.program in
    let some = c.args.some.now in
    let before = c.args.told.kinds.items in
    subst (HaveKinds p (is ++ some)) (sym (c.in_ok-extend_from_slice.ensures.items ∙ ap (λ (l : List Bool). before ++ l) c.deref.ensures.value)) (kinds-more p is some before c.in_ok-more.more.kinds.items told c.in_ok-more.ensures.kinds)
