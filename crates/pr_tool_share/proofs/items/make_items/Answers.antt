use Rattle.std.proofs.Common.{◌≡◌, ◌++◌, ◌+◌, ◌∷◌, [], ℕ, suc, List, take, map, slice_get, Some, option_map, sym, ap, ◌∙◌, subst, arith, rules, inl, inr}
use Rattle.std.proofs.lemmas.Option.{slice_get-map}
use Rattle.pr_edge.specs.Files.{Told}
use Rattle.pr_share.proofs.ListFacts.{got_from}
use Rattle.pr_tool_share.specs.Entries.{entry_in}
use Rattle.pr_tool_answers.specs.declared.answers.Answer.{Answer}
use Rattle.pr_tool_modes.specs.Files.{ShowsFault}
use Rattle.pr_tool_modes.specs.Sources.{IsSourceRefusal}
use Rattle.pr_tool_modes.proofs.FileLemmas.{shown_earlier}
use Rattle.pr_tool_share.specs.Lists.{part_answer, source_in, IsProgramRefusal}
use Rattle.pr_tool_share.specs.Items.{Item, IsItemOf, AreItemsOf}
use Rattle.pr_tool_share.proofs.ItemLemmas.{items_more, refused_at, part_shown}
use Rattle.pr_tool_share.proofs.OrderedItems.{order_item}
use Rattle.pr_tool_share.proofs.items.make_items.Goals as goal

pub returns-in-Err-clause-refused : goal.returns-in-Err-clause-refused
returns-in-Err-clause-refused g c =
    let inv = c.loop-number.invariant in
    let told = (g.S.Shelf.view c.args.shelf.now).told in
    let before = (g.S.Shelf.view c.args.shelf.now).faults in
    let mid = (g.S.Shelf.view c.loop-number.shelf).faults in
    let now = (g.S.Shelf.view c.make_item.new.shelf).faults in
    let number = c.loop-number.number in
    let entry = c.index-entries-number.result in
    let entries = map entry_in c.args.entries.now in
    let here : slice_get entries number ≡ Some (entry_in entry) =
    slice_get-map entry_in c.args.entries.now number ∙ ap (option_map entry_in) (got_from c.args.entries.now number entry c.loop-number-test.true c.index-entries-number.is) in
    let refused = subst (λ (t : Told). IsSourceRefusal t (source_in (entry_in entry)) mid now c.in-Err.answer) inv.same c.in-Err.ensures.refused in
    let at = refused_at told before mid now entries c.loop-number.items.items 0 number (entry_in entry) c.in-Err.answer inv.ready here inv.later refused in
    let same : part_answer (0 + number) c.in-Err.answer ≡ c.part_answer.result = ap (λ (n : ℕ). part_answer n c.in-Err.answer) (omega (arith, c.loop-number-test.true, c.requires)) ∙ sym c.part_answer.ensures in
    inl (subst (λ (a : Answer). IsProgramRefusal told before now 0 entries a) same at)

pub returns-in-Err-clause-shown : goal.returns-in-Err-clause-shown
returns-in-Err-clause-shown g c =
    let before = (g.S.Shelf.view c.args.shelf.now).faults in
    let mid = (g.S.Shelf.view c.loop-number.shelf).faults in
    let now = (g.S.Shelf.view c.make_item.new.shelf).faults in
    let shown = shown_earlier before mid now c.in-Err.answer c.loop-number.invariant.steady c.in-Err.ensures.shown in
    subst (λ (a : Answer). ShowsFault before now a) (sym c.part_answer.ensures) (part_shown _ before now c.in-Err.answer shown)

pub returns-then-is_err-clause-shown : goal.returns-then-is_err-clause-shown
returns-then-is_err-clause-shown g c = inr (c.in-Ok.ensures.steady ∙ c.loop-number.invariant.steady)

pub loop-number-preserved : goal.loop-number-preserved
loop-number-preserved g c =
    let inv = c.loop-number.invariant in
    let told = (g.S.Shelf.view c.args.shelf.now).told in
    let number = c.loop-number.number in
    let entry = c.index-entries-number.result in
    let entries = map entry_in c.args.entries.now in
    let here : slice_get entries number ≡ Some (entry_in entry) =
    slice_get-map entry_in c.args.entries.now number ∙ ap (option_map entry_in) (got_from c.args.entries.now number entry c.loop-number-test.true c.index-entries-number.is) in
    let ready = subst (λ (t : Told). IsItemOf t (entry_in entry) c.in-Ok.item) inv.same c.in-Ok.ensures.ready in
    let pushed : c.push.new.self.items ≡ c.loop-number.items.items ++ c.in-Ok.item ∷ [] = first_of (cc, search rules, grind arith) in
    let one : suc number ≡ number + 1 = omega arith in
    record {
      ready = subst (λ (xs : List Item). AreItemsOf told (take (number + 1) entries) xs) (sym pushed) (subst (λ (n : ℕ). AreItemsOf told (take n entries) (c.loop-number.items.items ++ c.in-Ok.item ∷ [])) one (items_more told entries c.loop-number.items.items number (entry_in entry) c.in-Ok.item inv.ready here ready));
      later = omega (arith, inv.later, c.make_item.ensures.later);
      steady = c.in-Ok.ensures.steady ∙ inv.steady;
      same = c.make_item.ensures.same ∙ inv.same;
      unread = λ q none. c.make_item.ensures.others q (none number (entry_in entry) (omega (arith, one)) here) ∙ inv.unread q (λ i x lt. none i x (omega (arith, one, lt)));
      once = λ q one. order_item _ (g.S.Shelf.view c.args.shelf.now).reach (g.S.Shelf.view c.loop-number.shelf).reach (g.S.Shelf.view c.make_item.new.shelf).reach entries number (entry_in entry) q here (inv.unread q) (inv.once q one) c.make_item.ensures.once c.make_item.ensures.others one;
      others = λ q none. c.make_item.ensures.others q (none number (entry_in entry) here) ∙ inv.others q none;
    }

pub returns-in-Err-clause-others : goal.returns-in-Err-clause-others
returns-in-Err-clause-others g c = λ q none.
    let inv = c.loop-number.invariant in
    let number = c.loop-number.number in
    let entry = c.index-entries-number.result in
    let here : slice_get (map entry_in c.args.entries.now) number ≡ Some (entry_in entry) =
    slice_get-map entry_in c.args.entries.now number ∙ ap (option_map entry_in) (got_from c.args.entries.now number entry c.loop-number-test.true c.index-entries-number.is) in
    c.make_item.ensures.others q (none number (entry_in entry) here) ∙ inv.others q none

pub returns-then-is_err-clause-others : goal.returns-then-is_err-clause-others
returns-then-is_err-clause-others g c = λ q none.
    let inv = c.loop-number.invariant in
    let number = c.loop-number.number in
    let entry = c.index-entries-number.result in
    let here : slice_get (map entry_in c.args.entries.now) number ≡ Some (entry_in entry) =
    slice_get-map entry_in c.args.entries.now number ∙ ap (option_map entry_in) (got_from c.args.entries.now number entry c.loop-number-test.true c.index-entries-number.is) in
    c.make_item.ensures.others q (none number (entry_in entry) here) ∙ inv.others q none

pub returns-in-Err-clause-once : goal.returns-in-Err-clause-once
returns-in-Err-clause-once g c = λ q one.
    let inv = c.loop-number.invariant in
    let number = c.loop-number.number in
    let entry = c.index-entries-number.result in
    let entries = map entry_in c.args.entries.now in
    let here : slice_get entries number ≡ Some (entry_in entry) =
    slice_get-map entry_in c.args.entries.now number ∙ ap (option_map entry_in) (got_from c.args.entries.now number entry c.loop-number-test.true c.index-entries-number.is) in
    order_item _ (g.S.Shelf.view c.args.shelf.now).reach (g.S.Shelf.view c.loop-number.shelf).reach (g.S.Shelf.view c.make_item.new.shelf).reach entries number (entry_in entry) q here (inv.unread q) (inv.once q one) c.make_item.ensures.once c.make_item.ensures.others one

pub returns-then-is_err-clause-once : goal.returns-then-is_err-clause-once
returns-then-is_err-clause-once g c = λ q one.
    let inv = c.loop-number.invariant in
    let number = c.loop-number.number in
    let entry = c.index-entries-number.result in
    let entries = map entry_in c.args.entries.now in
    let here : slice_get entries number ≡ Some (entry_in entry) =
    slice_get-map entry_in c.args.entries.now number ∙ ap (option_map entry_in) (got_from c.args.entries.now number entry c.loop-number-test.true c.index-entries-number.is) in
    order_item _ (g.S.Shelf.view c.args.shelf.now).reach (g.S.Shelf.view c.loop-number.shelf).reach (g.S.Shelf.view c.make_item.new.shelf).reach entries number (entry_in entry) q here (inv.unread q) (inv.once q one) c.make_item.ensures.once c.make_item.ensures.others one
