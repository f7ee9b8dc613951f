use Rattle.std.proofs.Common.{[], ◌∷◌, sym}
use Rattle.std.proofs.lemmas.List.{map-append}
use Rattle.pr_expand.specs.Descents.IsWay.{here}
use Rattle.pr_expand.proofs.Weights.{first_lighter}
use Rattle.pr_expand.proofs.Ways.{way_on}
use Rattle.pr_expand.proofs.descents.descend.Goals as goal

pub loop-first-init : goal.loop-first-init
loop-first-init c = rw c.new-around.ensures.items (here _)

pub loop-first-smaller : goal.loop-first-smaller
loop-first-smaller c = first_lighter _ _ (sym c.in-Some.ensures)

pub loop-first-preserved : goal.loop-first-preserved
loop-first-preserved c =
    rw (c.in_ok-push.ensures.items, map-append (λ e. e.now) c.loop-first.around.items (c.loop-first.innermost ∷ []))
    (way_on _ _ _ _ c.loop-first.invariant (sym c.in-Some.ensures))
