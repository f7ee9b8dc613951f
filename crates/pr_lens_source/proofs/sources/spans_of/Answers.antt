use Rattle.std.proofs.Common.{◌≡◌, ◌∙◌, ◌++◌, ◌∷◌, [], ◌+◌, List, length, sym, ap, subst, arith}
use Rattle.std.specs.Prelude.{All}
use Rattle.std.proofs.lemmas.List.Elements.{All-push}
use Rattle.pr_lens_source.specs.declared.sources.Span.{Span}
use Rattle.pr_lens_source.specs.Spans.{IsSpanWithin}
use Rattle.pr_lens_source.proofs.ItemLemmas.{AreItemsSoFar, items_first, items_all, items_push, items_more}
use Rattle.pr_lens_source.proofs.sources.spans_of.Goals as goal
use Rattle.pr_lens_source.proofs.sources.spans_of.Goals.{then-is_last+in_ok-push, else-is_last}

pub loop-last-init : goal.loop-last-init
loop-last-init c = record {
  within = λ k d less. absurd (omega (arith, less, ap (λ (spans : List Span). length spans) c.new-spans.ensures.items));
  items = subst (λ (spans : List Span). AreItemsSoFar c.args.tokens.now 0 0 0 spans) (sym c.new-spans.ensures.items) (items_first c.args.tokens.now);
}

pub loop-last-preserved : goal.loop-last-preserved
loop-last-preserved c =
    let tokens = c.args.tokens.now in
    let at = c.loop-last in
    let next = c.depth_after-depth in
    let is_next = next.ensures in
    elim c.if-is_last.branch [
      | then-is_last+in_ok-push w ↦ (
          let span : Span = record { first = at.first; last = at.last } in
          let more : c.if-is_last.spans.items ≡ at.spans.items ++ span ∷ [] = ap (λ v. v.items) w.spans-is ∙ w.in_ok-push.ensures.items in
          let ends = sym c.is_last.ensures.value ∙ w.if-is_last.true in
          let items = items_push tokens at.first at.last at.depth next.result at.spans.items c.kind_at-kind.result c.kind_at.result c.loop-last-test.true at.invariant.items c.kind_at-kind.ensures c.kind_at.ensures is_next ends (c.is_last.ensures.flat w.if-is_last.true) in
          record {
            within = subst (λ (spans : List Span). All (IsSpanWithin (length tokens)) spans) (sym more)
                (All-push (IsSpanWithin (length tokens)) at.spans.items span at.invariant.within (record { order = at.invariant.items.order; within = c.loop-last-test.true }));
            items = rw (w.first-is) (subst (λ (spans : List Span). AreItemsSoFar tokens (at.last + 1) (at.last + 1) next.result spans) (sym more) items);
          })
      | else-is_last w ↦ (
          let ends = sym c.is_last.ensures.value ∙ w.if-is_last.false in
          let items = items_more tokens at.first at.last at.depth next.result at.spans.items c.kind_at-kind.result c.kind_at.result c.loop-last-test.true at.invariant.items c.kind_at-kind.ensures c.kind_at.ensures is_next ends in
          record { within = rw (w.spans-is) at.invariant.within; items = rw (w.first-is, w.spans-is) items })
    ]

pub returns-clause-items : goal.returns-clause-items
returns-clause-items c = items_all c.args.tokens.now c.loop-last.first c.loop-last.last c.loop-last.depth c.loop-last.spans.items c.loop-last-test.false c.loop-last.invariant.items
