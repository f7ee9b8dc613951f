use Rattle.std.proofs.Common.{◌≡◌, ◌∙◌, ◌-◌, ℕ, List, [], min, ap, sym, inl, inr}
use Rattle.std.specs.List.{slice_get}
use Rattle.pr_lens_items.specs.Steps.{item_piece}
use Rattle.pr_lens_find.specs.Fronts.{spot_of}
use Rattle.pr_lens_find.specs.Offences.{values_in}
use Rattle.pr_lens_find.proofs.MissingLemmas.{spot_told_if}
use Rattle.pr_lens_find.proofs.widths.missing_of.Goals as goal

pub returns-in-Some-clause-told : goal.returns-in-Some-clause-told
returns-in-Some-clause-told c =
    let spot = spot_of c.args.part.now in
    let count = c.in-Some.count in
    let values : c.deref.result.now ≡ values_in spot = c.deref.ensures.value ∙ (c.in_ok-points.ensures.values ∙ ap (λ (k : ℕ). (item_piece spot.item).values k []) (c.short.ensures ∙ ap (λ (k : ℕ). min k 4294967295) c.first-first.ensures)) in
    let found = c.numbered-found.ensures ∙ ap (λ (ns : List ℕ). slice_get ns (count - 1)) values in
    spot_told_if spot count c.held-token-in-Some.result c.missing_at.result (rw c.in-Some.is at c.in_ok-first_count.ensures) (λ token there stands. c.held-token-in-Some.ensures.taken token (found ∙ there) stands)
    (elim c.held-token-in-Some.ensures.other [ inl first ↦ inl first | inr there ↦ inr (sym found ∙ there) ]) c.missing_at.ensures.token c.missing_at.ensures.told
