use Rattle.std.proofs.Common.{◌≡◌, ◌∙◌, ℕ, Some, length, get_or, refl, sym, ap, arith, slice_get}
use Rattle.std.proofs.lemmas.Result.{IfOk-from_err}
use Rattle.std.proofs.lemmas.Option.{slice_get_read}
use Rattle.pr_expand_spec.specs.Programs.{items_change}
use Rattle.pr_expand.specs.Worlds.{world_at}
use Rattle.pr_expand.proofs.Between.{items_step, walk_first, walk_free, walk_next}
use Rattle.pr_expand.proofs.Limits.{item_within, passed_on}
use Rattle.pr_expand.proofs.Scenes.{appends_at}
use Rattle.pr_expand.proofs.items.all_items.Goals as goal

pub loop-one-init : goal.loop-one-init
loop-one-init c = record { number = refl; walked = walk_first c.args.items.now c.requires.walked.0 c.requires.walked.1; at = c.in_ok-world.ensures.at c.args.items.now; rest = ap (items_change 0 c.args.items.now) (c.in_ok-world.ensures.value c.args.items.now) }

pub item-requires-clause-is : goal.item-requires-clause-is
item-requires-clause-is c =
    let items = c.args.items.now in
    ap (slice_get items) c.loop-one.invariant.number ∙ slice_get_read items (length items) c.loop-one.one-index c.one-item.result refl (omega arith) c.one-item.is

pub item-requires-clause-free : goal.item-requires-clause-free
item-requires-clause-free c =
    let items = c.args.items.now in
    walk_free items c.loop-one.number c.one-item.result c.loop-one.world.statics (omega (arith, c.loop-one.invariant.number)) (c.one-item.is ∙ ap (λ (k : ℕ). get_or items k c.one-item.result) (sym c.loop-one.invariant.number)) c.loop-one.invariant.walked c.loop-one.invariant.at

pub loop-one-preserved : goal.loop-one-preserved
loop-one-preserved c =
    let items = c.args.items.now in
    let there : slice_get items c.loop-one.number ≡ Some c.one-item.result = ap (slice_get items) c.loop-one.invariant.number ∙ slice_get_read items (length items) c.loop-one.one-index c.one-item.result refl (omega arith) c.one-item.is in
    record {
      number = omega (arith, c.loop-one.invariant.number);
      walked = walk_next items c.loop-one.number c.one-item.result (omega (arith, c.loop-one.invariant.number)) (c.one-item.is ∙ ap (λ (k : ℕ). get_or items k c.one-item.result) (sym c.loop-one.invariant.number)) there c.loop-one.invariant.walked;
      at = c.in_ok-world-2.ensures.at;
      rest = items_step items c.loop-one.one-index c.loop-one.number c.one-item.result (world_at items c.loop-one.number c.loop-one.world) _ _ (omega arith) c.one-item.is c.in_ok-world-2.ensures.value c.loop-one.invariant.rest;
    }

pub returns-in_err-world-2-clause-limit : goal.returns-in_err-world-2-clause-limit
returns-in_err-world-2-clause-limit c =
    let items = c.args.items.now in
    passed_on c.from_residual-in_err-world-2.result c.in_err-world-2.field-0.0 _ _ c.from_residual-in_err-world-2.ensures.1
    (item_within items c.loop-one.one-index c.loop-one.number c.one-item.result (world_at items c.loop-one.number c.loop-one.world) _ (appends_at items c.loop-one.number) (omega arith) c.one-item.is c.loop-one.invariant.rest)
    c.in_err-world-2.ensures.limit

pub returns-in_err-world-clause-value : goal.returns-in_err-world-clause-value
returns-in_err-world-clause-value c = IfOk-from_err _ _ c.from_residual.ensures.0

pub returns-in_err-world-2-clause-value : goal.returns-in_err-world-2-clause-value
returns-in_err-world-2-clause-value c = IfOk-from_err _ _ c.from_residual-in_err-world-2.ensures.0
