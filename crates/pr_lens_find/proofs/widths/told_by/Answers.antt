use Rattle.std.proofs.Common.{refl}
use Rattle.pr_lens_find.proofs.Lookups.{looked_up}
use Rattle.pr_lens_find.proofs.MissingLemmas.{told_first}
use Rattle.pr_lens_find.proofs.widths.told_by.Goals as goal

pub returns-clause-told : goal.returns-clause-told
returns-clause-told c =
    let look = c.in-Some.ensures.lookup in
    told_first c.args.flat.now c.args.before.now c.args.number c.common.result c.in-Some.equation.now c.telling-told.result.now c.in_ok-widths.widths.items _ c.requires (looked_up c.deref.result.now c.args.flat.now.equations.items _ c.in-Some.equation.now c.deref.ensures.value look.0 look.1) c.telling-told.ensures.telling
    c.common.ensures.common (rw c.deref-2.ensures.value at c.in_ok-widths.ensures) refl refl
