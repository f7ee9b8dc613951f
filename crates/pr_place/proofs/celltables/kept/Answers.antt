use Rattle.std.proofs.Common.{◌≡◌, ◌<◌, ℕ, List, length, get_or, false, ap, ◌∙◌}
use Rattle.std.proofs.lemmas.List.{length-replicate}
use Rattle.pr_net.specs.Whole.{shape_of}
use Rattle.pr_net.specs.Shape.{OutputShape}
use Rattle.pr_place.proofs.MarkLemmas.{AllBelow, slices_below}
use Rattle.pr_place.proofs.Moves.{moved3}
use Rattle.pr_place.proofs.celltables.kept.Goals as goal

pub mark_outputs-requires : goal.mark_outputs-requires
mark_outputs-requires g c =
    let net = shape_of c.args.net.now in
    let long : length c.deref_mut.result.now ≡ c.args.numbering.now.cells = ap length c.deref_mut.ensures.value ∙ ap length c.requires.none ∙ length-replicate c.args.numbering.now.cells false in
    record {
      there = λ o i e d lo li.
          (moved3 (λ (first : List ℕ) (cells : ℕ) (outputs : List OutputShape). (o : ℕ) (e : OutputShape) → o < length outputs → AllBelow first cells (get_or outputs o e).slices) _ _ _ _ _ _ c.deref.ensures.value long c.deref-2.ensures.value
          (slices_below g.row.N net c.args.numbering.now.first.items c.args.numbering.now.cells c.requires.net c.requires.numbered) o e lo).at i d li;
    }
