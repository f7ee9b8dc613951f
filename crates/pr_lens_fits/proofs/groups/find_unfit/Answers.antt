use Rattle.std.proofs.Common.{refl, inl, inr}
use Rattle.pr_lens_fits.proofs.MakerLemmas.{has_maker}
use Rattle.pr_lens_fits.proofs.UnfitLemmas.{has_unfit, nothing}
use Rattle.pr_lens_fits.proofs.groups.find_unfit.Goals as goal

pub returns-in-Err-Limit-clause-item : goal.returns-in-Err-Limit-clause-item
returns-in-Err-Limit-clause-item c =
    let which = c.in-Err-Limit._cap in
    inl (nothing c.args.columns c.args.narrowed c.args.source.now.text.now c.in-Some.flat c.in-Some.widths which _ (rw c.in-Some.is at c.in_ok-flat.ensures.told) (c.in-Err-Limit.ensures.limit which (cc)) refl refl refl)

pub returns-in-Err-Limit-clause-found : goal.returns-in-Err-Limit-clause-found
returns-in-Err-Limit-clause-found c =
    let which = c.in-Err-Limit._cap in
    inr (nothing c.args.columns c.args.narrowed c.args.source.now.text.now c.in-Some.flat c.in-Some.widths which _ (rw c.in-Some.is at c.in_ok-flat.ensures.told) (c.in-Err-Limit.ensures.limit which (cc)) refl refl refl)

pub returns-in-Ok-clause-found : goal.returns-in-Ok-clause-found
returns-in-Ok-clause-found c =
    let is = c.in-Ok.ensures.found in
    inl (has_unfit c.args.narrowed c.args.source.now.text.now c.in-Some.flat c.in-Some.widths c.args.unit _ (rw c.in-Some.is at c.in_ok-flat.ensures.told) (record { columns = cc (is.columns); kept = cc (is.kept) }))

pub returns-in-Ok-clause-item : goal.returns-in-Ok-clause-item
returns-in-Ok-clause-item c =
    let source = c.args.source.now in
    inr (has_maker c.args.narrowed source.text.now source.tokens.now source.spans.now c.in-Some.flat c.in-Some.widths c.args.unit c.in-Ok.equation c.in_ok-item-in-Ok.item (rw c.in-Some.is at c.in_ok-flat.ensures.told) c.in-Ok.ensures.maker c.in_ok-item-in-Ok.ensures)
