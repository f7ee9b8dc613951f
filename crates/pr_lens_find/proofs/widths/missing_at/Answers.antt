use Rattle.std.proofs.Common.{ℕ, subst}
use Rattle.std.proofs.lemmas.Result.{IfOk-weaker}
use Rattle.pr_lens_find.specs.Fronts.{spot_of}
use Rattle.pr_lens_find.specs.Widths.{HasFlatWith}
use Rattle.pr_lens_find.proofs.MissingLemmas.{cut_told}
use Rattle.pr_lens_find.proofs.widths.missing_at.Goals as goal

pub returns-clause-told : goal.returns-clause-told
returns-clause-told c =
    let spot = spot_of c.args.part.now in
    let had = subst (λ (k : ℕ). HasFlatWith spot k c.in-Some-2.before) c.saturating_sub.ensures (rw c.in-Some-2.is at c.in_ok-before.ensures) in
    IfOk-weaker c.missing_in.result _ _ (λ m is. cut_told spot c.args.count c.in-Some.flat c.in-Some-2.before m (rw c.in-Some.is at c.in_ok-flat.ensures) had is) c.missing_in.ensures.told
