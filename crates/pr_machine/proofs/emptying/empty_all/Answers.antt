use Rattle.std.proofs.Common.{◌≡◌, ℕ, true, refl, ap, ◌∙◌, arith, inl, below_more}
use Rattle.pr_machine_refines.specs.Spots.{saved}
use Rattle.pr_machine.specs.Places.{seen, place_at, spots_of, rows_of, is_bare}
use Rattle.pr_machine.proofs.Emptied.{emptied_more}
use Rattle.pr_machine.proofs.emptying.empty_all.Goals as goal

pub loop-at-init : goal.loop-at-init
loop-at-init g c = record {
  rows = λ s h. inl (refl, λ i k. absurd (omega arith));
  bare = λ i k. absurd (omega arith);
  rest = λ i k. refl;
  size = refl;
}

pub loop-at-preserved : goal.loop-at-preserved
loop-at-preserved g c =
    let at = c.loop-at.at in
    let inv = c.loop-at.invariant in
    record {
      rows = λ s h.
          emptied_more at (spots_of c.args.places.now) s (rows_of c.args.store.now s) (rows_of c.loop-at.store) (rows_of c.empty_at.new.store s)
          (c.empty_at.ensures.save s (omega (arith, inv.size)) ∙ ap (λ place. saved (rows_of c.loop-at.store) (seen place) s) (inv.rest at (omega arith)))
          (inv.rows s h);
      bare = below_more (λ (i : ℕ). is_bare (place_at c.empty_at.new.places i) ≡ true) at (λ i k. ap is_bare (c.empty_at.ensures.others i (λ e. absurd (omega arith))) ∙ inv.bare i k) c.empty_at.ensures.bare;
      rest = λ i k. c.empty_at.ensures.others i (λ e. absurd (omega arith)) ∙ inv.rest i (omega arith);
      size = c.empty_at.ensures.size ∙ inv.size;
    }
