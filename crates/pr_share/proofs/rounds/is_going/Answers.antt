use Rattle.std.proofs.Common.{◌≡◌, is_some, slice_get, ap, sym, ◌∙◌, arith, rules, inl, inr}
use Rattle.std.proofs.lemmas.Bool.{cases_lt}
use Rattle.pr_share.specs.declared.items.ShareItem.{ShareItem}
use Rattle.pr_share.proofs.ListFacts.{got_from, got_within, same_some, none_from}
use Rattle.pr_share.proofs.rounds.is_going.Goals as goal

pub returns-then-is_none-clause-going : goal.returns-then-is_none-clause-going
returns-then-is_none-clause-going g c = λ yes. record {
  place = c.loop-item.item-index;
  item = c.item-item.result;
  here = got_from c.args.items.now c.loop-item.item-index c.item-item.result c.loop-item-test.true c.item-item.is;
  going = none_from c.item-item.result.ended (first_of (cc, search rules, grind arith));
}

pub loop-item-preserved : goal.loop-item-preserved
loop-item-preserved g c = λ i x h e.
    let here = got_from c.args.items.now c.loop-item.item-index c.item-item.result c.loop-item-test.true c.item-item.is in
    elim (cases_lt i c.loop-item.item-index) [
      | inl before ↦ c.loop-item.invariant i x before e
      | inr after ↦ (
          let at : i ≡ c.loop-item.item-index = omega (arith, h) in
          let is = same_some (slice_get c.args.items.now c.loop-item.item-index) c.item-item.result x here (ap (slice_get c.args.items.now) (sym at) ∙ e) in
          ap (λ (y : ShareItem g.row.N g.row.P). is_some y.ended) (sym is) ∙ (first_of (cc, search rules, grind arith)))
    ]

pub returns-clause-over : goal.returns-clause-over
returns-clause-over g c = λ no i x e. let within = got_within c.args.items.now i x e in c.loop-item.invariant i x (omega (arith, c.loop-item-test.false)) e
