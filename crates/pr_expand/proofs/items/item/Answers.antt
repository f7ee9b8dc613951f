use Rattle.std.proofs.Common.{Some, refl, subst}
use Rattle.std.proofs.lemmas.Result.{IfOk-from_err}
use Rattle.pr_lang.specs.declared.trees.Item.TheVariants as item
use Rattle.pr_expand.specs.Code.{progress_of}
use Rattle.pr_expand.specs.Scopes.{visible_at, after}
use Rattle.pr_lang.specs.declared.trees.Item.{Item}
use Rattle.pr_expand.specs.Worlds.{IsFree, world_at}
use Rattle.pr_expand.proofs.Between.{before_same, const_known, function_known, if_ok_three, next_world, same_known, table_known}
use Rattle.pr_expand.proofs.items.item.Goals as goal

pub introduce-requires-clause-known : goal.introduce-requires-clause-known
introduce-requires-clause-known c = const_known c.args.items.now c.args.world.statics c.args.number c.args.item.now c.in-Const.name c.in-Const.value c.value_of-amount.result c.requires.at c.requires.is c.in-Const.is c.value_of-amount.ensures

pub introduce-requires-in-Table-clause-known : goal.introduce-requires-in-Table-clause-known
introduce-requires-in-Table-clause-known c = table_known c.args.items.now c.args.world.statics c.args.number c.args.item.now c.in-Table.name c.in-Table.values c.deref.result.now c.in_ok-entries-in-Table.entries.items c.new.result c.requires.at c.requires.is c.in-Table.is c.deref.ensures.value c.in_ok-entries-in-Table.ensures c.new.ensures

pub introduce-requires-in-Function-clause-known : goal.introduce-requires-in-Function-clause-known
introduce-requires-in-Function-clause-known c = function_known c.args.items.now c.args.number c.args.item.now c.in-Function.name c.in-Function.params c.in-Function.width c.in-Function.body c.in-Function.result c.deref-in-Function.result.now _ c.requires.is c.in-Function.is c.deref-in-Function.ensures.value c.callee.ensures

pub returns-in-Input-clause-at : goal.returns-in-Input-clause-at
returns-in-Input-clause-at c = if_ok_three c.add_input.result c.add_input.ensures.names c.add_input.ensures.names c.add_input.ensures.names (λ w k _ _. before_same c.args.items.now c.args.world.statics w.statics c.args.number k (same_known c.args.items.now c.args.number c.args.item.now _ c.requires.is c.in-Input.is refl) c.requires.at)

pub returns-in-Input-clause-value : goal.returns-in-Input-clause-value
returns-in-Input-clause-value c =
    let v = visible_at c.args.items.now c.args.number in
    if_ok_three c.add_input.result c.add_input.ensures.progress c.add_input.ensures.outputs c.add_input.ensures.names
    (λ w p o _. next_world c.args.items.now c.args.number c.args.item.now (item.Input c.in-Input.name c.in-Input.width) _ _ (world_at c.args.items.now c.args.number c.args.world) c.requires.is c.in-Input.is (λ i. record { visible = v; progress = p i; outputs = (o i).items }))

pub returns-in-Output-clause-at : goal.returns-in-Output-clause-at
returns-in-Output-clause-at c = if_ok_three c.output_item.result c.output_item.ensures.names c.output_item.ensures.names c.output_item.ensures.names (λ w k _ _. before_same c.args.items.now c.args.world.statics w.statics c.args.number k (same_known c.args.items.now c.args.number c.args.item.now _ c.requires.is c.in-Output.is refl) c.requires.at)

pub returns-in-Output-clause-value : goal.returns-in-Output-clause-value
returns-in-Output-clause-value c =
    let v = visible_at c.args.items.now c.args.number in
    if_ok_three c.output_item.result c.output_item.ensures.progress c.output_item.ensures.outputs c.output_item.ensures.names
    (λ w p o _. next_world c.args.items.now c.args.number c.args.item.now (item.Output c.in-Output.name c.in-Output.width c.in-Output.value) _ _ (world_at c.args.items.now c.args.number c.args.world) c.requires.is c.in-Output.is (λ i. record { visible = v; progress = p i; outputs = o i }))

pub returns-in-Step-clause-at : goal.returns-in-Step-clause-at
returns-in-Step-clause-at c = if_ok_three c.step_item.result c.step_item.ensures.names c.step_item.ensures.names c.step_item.ensures.names (λ w k _ _. before_same c.args.items.now c.args.world.statics w.statics c.args.number k (same_known c.args.items.now c.args.number c.args.item.now _ c.requires.is c.in-Step.is refl) c.requires.at)

pub returns-in-Step-clause-value : goal.returns-in-Step-clause-value
returns-in-Step-clause-value c =
    let v = visible_at c.args.items.now c.args.number in
    if_ok_three c.step_item.result c.step_item.ensures.progress c.step_item.ensures.outputs c.step_item.ensures.names
    (λ w p o _. next_world c.args.items.now c.args.number c.args.item.now (item.Step c.in-Step.stmt) _ _ (world_at c.args.items.now c.args.number c.args.world) c.requires.is c.in-Step.is (λ i. record { visible = v; progress = p i; outputs = (o i).items }))

pub returns-in-Const-clause-value : goal.returns-in-Const-clause-value
returns-in-Const-clause-value c =
    let kind = item.Const c.in-Const.name c.in-Const.value in
    let v = visible_at c.args.items.now c.args.number in
    if_ok_three c.introduce.result c.introduce.ensures.progress c.introduce.ensures.outputs c.introduce.ensures.at
    (λ w p o _. next_world c.args.items.now c.args.number c.args.item.now kind _ _ (world_at c.args.items.now c.args.number c.args.world) c.requires.is c.in-Const.is (λ i. record { visible = after c.args.number (Some kind) v; progress = progress_of (p i); outputs = (o i).items }))

pub returns-in_ok-entries-in-Table-clause-value : goal.returns-in_ok-entries-in-Table-clause-value
returns-in_ok-entries-in-Table-clause-value c =
    let kind = item.Table c.in-Table.name c.in-Table.values in
    let v = visible_at c.args.items.now c.args.number in
    if_ok_three c.introduce-in-Table.result c.introduce-in-Table.ensures.progress c.introduce-in-Table.ensures.outputs c.introduce-in-Table.ensures.at
    (λ w p o _. next_world c.args.items.now c.args.number c.args.item.now kind _ _ (world_at c.args.items.now c.args.number c.args.world) c.requires.is c.in-Table.is (λ i. record { visible = after c.args.number (Some kind) v; progress = progress_of (p i); outputs = (o i).items }))

pub returns-in-Function-clause-value : goal.returns-in-Function-clause-value
returns-in-Function-clause-value c =
    let kind = item.Function c.in-Function.name c.in-Function.params c.in-Function.width c.in-Function.body c.in-Function.result in
    let v = visible_at c.args.items.now c.args.number in
    if_ok_three c.introduce-in-Function.result c.introduce-in-Function.ensures.progress c.introduce-in-Function.ensures.outputs c.introduce-in-Function.ensures.at
    (λ w p o _. next_world c.args.items.now c.args.number c.args.item.now kind _ _ (world_at c.args.items.now c.args.number c.args.world) c.requires.is c.in-Function.is (λ i. record { visible = after c.args.number (Some kind) v; progress = progress_of (p i); outputs = (o i).items }))

pub introduce-requires-clause-free : goal.introduce-requires-clause-free
introduce-requires-clause-free c = subst (λ (i : Item). IsFree i c.args.world.statics) c.in-Const.is c.requires.free

pub introduce-requires-in-Table-clause-free : goal.introduce-requires-in-Table-clause-free
introduce-requires-in-Table-clause-free c = subst (λ (i : Item). IsFree i c.args.world.statics) c.in-Table.is c.requires.free

pub introduce-requires-in-Function-clause-free : goal.introduce-requires-in-Function-clause-free
introduce-requires-in-Function-clause-free c = subst (λ (i : Item). IsFree i c.args.world.statics) c.in-Function.is c.requires.free

pub returns-in_err-entries-in-Table-clause-at : goal.returns-in_err-entries-in-Table-clause-at
returns-in_err-entries-in-Table-clause-at c = IfOk-from_err _ _ c.from_residual.ensures.0

pub returns-in_err-entries-in-Table-clause-value : goal.returns-in_err-entries-in-Table-clause-value
returns-in_err-entries-in-Table-clause-value c = IfOk-from_err _ _ c.from_residual.ensures.0
