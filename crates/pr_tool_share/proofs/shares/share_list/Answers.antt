use Rattle.std.proofs.Common.{◌≡◌, ◌≢◌, ◌⊎◌, ◌∙◌, ℕ, List, Option, length, map, refl, sym, ap, subst, arith, inl, inr}
use Rattle.pr_edge.specs.Files.{Told}
use Rattle.pr_share.specs.Items.{world, AreReady, names_of, IsNoneOf}
use Rattle.pr_tool_share.specs.Entries.{Entry, entry_in}
use Rattle.pr_tool_share.specs.declared.entries.Entry.{Entry as Named}
use Rattle.pr_tool_answers.specs.declared.answers.Answer.{Answer}
use Rattle.pr_tool_modes.specs.Files.{IsInOrder}
use Rattle.pr_tool_modes.proofs.FileLemmas.{shown_earlier}
use Rattle.pr_tool_modes.proofs.OrderLemmas.{order_once, order_one, order_after}
use Rattle.pr_tool_share.specs.Lists.{HasList, IsProgramRefusal, IsNoProgram, IsOneProgram}
use Rattle.pr_tool_share.specs.Items.{Item, AreItemsOf}
use Rattle.pr_tool_share.specs.Shares.{HaveTurned}
use Rattle.pr_tool_share.proofs.ItemLemmas.{program_earlier, length-items, are_ready, listed_quotas, items_unnamed}
use Rattle.pr_tool_share.proofs.shares.share_list.Goals as goal

pub returns-in-Err-clause-shared : goal.returns-in-Err-clause-shared
returns-in-Err-clause-shared g c = inl (record { cause = inl c.in-Err.ensures.refused; unwritten = refl; unread = λ q other programs. c.load_list.ensures.others q other; shown = c.in-Err.ensures.shown })

pub returns-in-Err-make_items-clause-shared : goal.returns-in-Err-make_items-clause-shared
returns-in-Err-make_items-clause-shared g c =
    let told = (g.S.Shelf.view c.args.shelf.now).told in
    let before = (g.S.Shelf.view c.args.shelf.now).faults in
    let mid = (g.S.Shelf.view c.load_list.new.shelf).faults in
    let now = (g.S.Shelf.view c.make_items.new.shelf).faults in
    let entries = map entry_in c.in-Ok.entries.items in
    let a = c.in-Err-make_items.answer in
    let refused = subst (λ (xs : List Named). IsProgramRefusal (g.S.Shelf.view c.load_list.new.shelf).told mid now 0 (map entry_in xs) a ⊎ (a ≡ Answer.Memory)) c.deref.ensures.value c.in-Err-make_items.ensures.refused in
    let unread : (q : List ℕ) → q ≢ c.args.sharing.now.list.now → ((es : List Entry) → HasList told c.args.sharing.now.list.now es → IsNoProgram es q) → (g.S.Shelf.view c.make_items.new.shelf).reach q ≡ (g.S.Shelf.view c.args.shelf.now).reach q =
    λ q other programs. c.make_items.ensures.others q (subst (λ (xs : List Named). IsNoProgram (map entry_in xs) q) (sym c.deref.ensures.value) (programs _ c.in-Ok.ensures.list)) ∙ c.load_list.ensures.others q other in
    let shown = shown_earlier before mid now a c.in-Ok.ensures.steady c.in-Err-make_items.ensures.shown in
    elim refused [
      | inl is ↦ inl (record {
        cause = inr (inl (record {
          entries = entries;
          has = c.in-Ok.ensures.list;
          refused = program_earlier told before mid now 0 entries a c.load_list.ensures.later (subst (λ (t : Told). IsProgramRefusal t mid now 0 entries a) c.load_list.ensures.same is);
        }));
        unwritten = refl;
        unread = unread;
        shown = shown;
      })
      | inr memory ↦ inl (record { cause = inr (inr memory); unwritten = refl; unread = unread; shown = shown })
    ]

pub take_turns-requires-clause-few : goal.take_turns-requires-clause-few
take_turns-requires-clause-few g c =
    let items = length-items _ _ _ c.in-Ok-make_items.ensures.ready in
    let few = c.in-Ok.ensures.list.listed.say.few in
    let same = ap (λ (xs : List Named). length (map entry_in xs)) c.deref.ensures.value in
    let value = ap (λ (xs : List Item). length xs) c.deref_mut.ensures.value in
    omega (arith, items, few, same, value)

pub take_turns-requires-clause-ready : goal.take_turns-requires-clause-ready
take_turns-requires-clause-ready g c =
    let least = listed_quotas _ _ c.in-Ok.ensures.list.listed in
    let ready = subst (λ (xs : List Named). AreItemsOf (g.S.Shelf.view c.load_list.new.shelf).told (map entry_in xs) c.in-Ok-make_items.items.items) c.deref.ensures.value c.in-Ok-make_items.ensures.ready in
    subst (λ (xs : List Item). AreReady xs) (sym c.deref_mut.ensures.value) (are_ready _ (map entry_in c.in-Ok.entries.items) c.in-Ok-make_items.items.items ready least)

pub returns-in-Err-make_items-clause-others : goal.returns-in-Err-make_items-clause-others
returns-in-Err-make_items-clause-others g c = λ q none.
    let programs = subst (λ (xs : List Named). IsNoProgram (map entry_in xs) q) (sym c.deref.ensures.value) (none.no_program _ c.in-Ok.ensures.list) in
    c.make_items.ensures.others q programs ∙ c.load_list.ensures.others q none.other

pub returns-in-Ok-make_shared-clause-others : goal.returns-in-Ok-make_shared-clause-others
returns-in-Ok-make_shared-clause-others g c = λ q none.
    let programs = subst (λ (xs : List Named). IsNoProgram (map entry_in xs) q) (sym c.deref.ensures.value) (none.no_program _ c.in-Ok.ensures.list) in
    let ready = subst (λ (xs : List Named). AreItemsOf (g.S.Shelf.view c.load_list.new.shelf).told (map entry_in xs) c.in-Ok-make_items.items.items) c.deref.ensures.value c.in-Ok-make_items.ensures.ready in
    let names = items_unnamed _ (map entry_in c.in-Ok.entries.items) c.in-Ok-make_items.items.items q ready (none.no_samples _ c.in-Ok.ensures.list) in
    c.take_turns.ensures.others q (subst (λ (xs : List Item). IsNoneOf (names_of xs) q) (sym c.deref_mut.ensures.value) names) ∙ (c.make_items.ensures.others q programs ∙ c.load_list.ensures.others q none.other)

pub returns-clause-shared : goal.returns-clause-shared
returns-clause-shared g c = inl (record {
  cause = inr (inr refl);
  unwritten = refl;
  unread = λ q other programs. c.make_items.ensures.others q (subst (λ (xs : List Named). IsNoProgram (map entry_in xs) q) (sym c.deref.ensures.value) (programs _ c.in-Ok.ensures.list)) ∙ c.load_list.ensures.others q other;
  shown = inr (c.in-Ok-make_items.ensures.steady ∙ c.in-Ok.ensures.steady);
})

pub returns-clause-others : goal.returns-clause-others
returns-clause-others g c = λ q none.
    let programs = subst (λ (xs : List Named). IsNoProgram (map entry_in xs) q) (sym c.deref.ensures.value) (none.no_program _ c.in-Ok.ensures.list) in
    c.make_items.ensures.others q programs ∙ c.load_list.ensures.others q none.other

pub returns-in-Ok-make_shared-clause-shared : goal.returns-in-Ok-make_shared-clause-shared
returns-in-Ok-make_shared-clause-shared g c =
    let told = (g.S.Shelf.view c.args.shelf.now).told in
    let start = (g.S.Shelf.view c.make_items.new.shelf).faults in
    let now = (g.S.Shelf.view c.take_turns.new.shelf).faults in
    let old = (g.K.Sink.view c.args.out.now).told in
    let new = (g.K.Sink.view c.take_turns.new.out).told in
    let before = (g.K.Sink.view c.args.out.now).faults in
    let after = (g.K.Sink.view c.take_turns.new.out).faults in
    let entries = map entry_in c.in-Ok.entries.items in
    let firsts = c.in-Ok-make_items.items.items in
    let items = c.take_turns.new.items in
    let same : (g.S.Shelf.view c.make_items.new.shelf).told ≡ told = c.make_items.ensures.same ∙ c.load_list.ensures.same in
    let ready = subst (λ (xs : List Named). AreItemsOf (g.S.Shelf.view c.load_list.new.shelf).told (map entry_in xs) firsts) c.deref.ensures.value c.in-Ok-make_items.ensures.ready in
    let mid = (g.S.Shelf.view c.make_items.new.shelf).told in
    let stripes = c.args.sharing.now.stripes in
    let on = subst (λ (n : ℕ). HaveTurned n c.deref_mut.result.now items (world mid start old) (world (g.S.Shelf.view c.take_turns.new.shelf).told now new) before after c.take_turns.result) c.in-Ok-make_shared.ensures c.take_turns.ensures.turned in
    let later = subst (λ (t : Told). HaveTurned stripes c.deref_mut.result.now items (world mid start old) (world t now new) before after c.take_turns.result) (c.take_turns.ensures.told ∙ same) on in
    let same_told = subst (λ (t : Told). HaveTurned stripes c.deref_mut.result.now items (world t start old) (world told now new) before after c.take_turns.result) same later in
    let first = (g.S.Shelf.view c.args.shelf.now).faults in
    let turned = subst (λ (n : ℕ). HaveTurned stripes c.deref_mut.result.now items (world told n old) (world told now new) before after c.take_turns.result) (c.in-Ok-make_items.ensures.steady ∙ c.in-Ok.ensures.steady) same_told in
    inr (record {
      entries = entries;
      has = c.in-Ok.ensures.list;
      firsts = firsts;
      ready = subst (λ (t : Told). AreItemsOf t entries firsts) c.load_list.ensures.same ready;
      items = items;
      turned = subst (λ (xs : List Item). HaveTurned stripes xs items (world told first old) (world told now new) before after c.take_turns.result) c.deref_mut.ensures.value turned;
    })

pub returns-in-Err-clause-once : goal.returns-in-Err-clause-once
returns-in-Err-clause-once g c = λ q once. order_one (g.S.Shelf.view c.args.shelf.now).reach (g.S.Shelf.view c.load_list.new.shelf).reach c.args.sharing.now.list.now q (order_once _ _ _ c.load_list.ensures.once) c.load_list.ensures.others

pub returns-in-Err-make_items-clause-once : goal.returns-in-Err-make_items-clause-once
returns-in-Err-make_items-clause-once g c = λ q once.
    let one = subst (λ (xs : List Named). IsOneProgram (map entry_in xs) q) (sym c.deref.ensures.value) (once.one_program _ c.in-Ok.ensures.list) in
    order_after (g.S.Shelf.view c.args.shelf.now).reach (g.S.Shelf.view c.load_list.new.shelf).reach (g.S.Shelf.view c.make_items.new.shelf).reach _ c.args.sharing.now.list.now q c.load_list.ensures.once c.load_list.ensures.others (λ e. c.make_items.ensures.others q (subst (λ (xs : List Named). IsNoProgram (map entry_in xs) q) (sym c.deref.ensures.value) (once.no_program e _ c.in-Ok.ensures.list))) (c.make_items.ensures.once q one)

pub returns-clause-once : goal.returns-clause-once
returns-clause-once g c = λ q once.
    let one = subst (λ (xs : List Named). IsOneProgram (map entry_in xs) q) (sym c.deref.ensures.value) (once.one_program _ c.in-Ok.ensures.list) in
    order_after (g.S.Shelf.view c.args.shelf.now).reach (g.S.Shelf.view c.load_list.new.shelf).reach (g.S.Shelf.view c.make_items.new.shelf).reach _ c.args.sharing.now.list.now q c.load_list.ensures.once c.load_list.ensures.others (λ e. c.make_items.ensures.others q (subst (λ (xs : List Named). IsNoProgram (map entry_in xs) q) (sym c.deref.ensures.value) (once.no_program e _ c.in-Ok.ensures.list))) (c.make_items.ensures.once q one)

pub returns-in-Ok-make_shared-clause-once : goal.returns-in-Ok-make_shared-clause-once
returns-in-Ok-make_shared-clause-once g c = λ q once.
    let one = subst (λ (xs : List Named). IsOneProgram (map entry_in xs) q) (sym c.deref.ensures.value) (once.one_program _ c.in-Ok.ensures.list) in
    let ready = subst (λ (xs : List Named). AreItemsOf (g.S.Shelf.view c.load_list.new.shelf).told (map entry_in xs) c.in-Ok-make_items.items.items) c.deref.ensures.value c.in-Ok-make_items.ensures.ready in
    let names = items_unnamed _ (map entry_in c.in-Ok.entries.items) c.in-Ok-make_items.items.items q ready (once.no_samples _ c.in-Ok.ensures.list) in
    let last = c.take_turns.ensures.others q (subst (λ (xs : List Item). IsNoneOf (names_of xs) q) (sym c.deref_mut.ensures.value) names) in
    subst (λ (r : Option ℕ). IsInOrder ((g.S.Shelf.view c.args.shelf.now).reach q) r) (sym last) (order_after (g.S.Shelf.view c.args.shelf.now).reach (g.S.Shelf.view c.load_list.new.shelf).reach (g.S.Shelf.view c.make_items.new.shelf).reach _ c.args.sharing.now.list.now q c.load_list.ensures.once c.load_list.ensures.others (λ e. c.make_items.ensures.others q (subst (λ (xs : List Named). IsNoProgram (map entry_in xs) q) (sym c.deref.ensures.value) (once.no_program e _ c.in-Ok.ensures.list))) (c.make_items.ensures.once q one))
