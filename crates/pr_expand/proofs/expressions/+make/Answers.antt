use Rattle.std.proofs.Common.{◌≡◌, ◌∙◌, ◌<◌, ℕ, IfErr, IfOk, List, map, take, [], ◌∷◌, option_map, Some, None, length, arith, refl, sym, ap, subst}
use Rattle.std.proofs.lemmas.List.Elements.{All-pop}
use Rattle.std.proofs.lemmas.Result.{IfOk-from_err}
use Rattle.pr_scope_names.specs.declared.names.Static.TheVariants.{Index}
use Rattle.pr_scope_names.specs.Names.{known_in}
use Rattle.pr_flat.specs.declared.equations.Op.TheVariants as op
use Rattle.pr_flat.specs.Shape.{EquationShape, shapes_of}
use Rattle.pr_scope_names.proofs.Seen.{names_on}
use Rattle.pr_lang_meaning.specs.Expressions.{constant_shift}
use Rattle.pr_expand_spec.specs.declared.givens.Standing.TheVariants.{Own}
use Rattle.pr_expand_spec.specs.Making.{Expanded, lawful, with_equation}
use Rattle.pr_expand_spec.specs.Expressions.{Visible, assigned, declared_at_operator, place, plan_of}
use Rattle.pr_expand_spec.specs.Statements.{Progress, changes_of, number_after, with_index, with_standing}
use Rattle.pr_scope_facts.proofs.Appending.{appends-length, assigned-appends, body-appends}
use Rattle.pr_expand.specs.Code.{IsPast, all_of, longer, made_of, progress_of, shapes_in, streams_in}
use Rattle.pr_expand.specs.Scopes.{functions_before, visible_in}
use Rattle.pr_expand.proofs.Callables.{called_is, callee_known, entered, signed_is}
use Rattle.pr_expand.proofs.Layers.{call_is, cat_is, for_is, parts_step, stmts_step, turns_step}
use Rattle.pr_expand.proofs.Ways.{IsLight, chosen_within, other_within, popped, rest_within, rests_of, rests_step, shift_is, three_is, two_is, way_light, way_lighter, way_made, way_within}
use Rattle.pr_expand.proofs.Limits.{args_within, assigned_within, begun_within, operator_within, part_within, parts_within, passed_on, same_long, stmt_within, turn_within}
use Rattle.pr_expand.proofs.Recurrences.{body_as, body_within, counted_as, counted_number, counted_within, cut_shapes, longer_counted, rec_as, rec_last, shapes_cut, stands_as, stands_within, twice}
use Rattle.pr_expand.proofs.Scenes.{index_back, known_swapped, scene_appends, scene_index, scene_kept, visible_kept}
use Rattle.pr_expand.proofs.Weights.{args_lighter, body_lighter, call_heavy, chosen_lighter, let_lighter, one_of, other_lighter, parts_lighter, rec_lighter, second_lighter, stmt_of, weight, weight_entered, weight_in, weight_kept, weight_up_to}
use Rattle.pr_expand.proofs.expressions.+make.Goals as goal

pub make-make_innermost-requires : goal.make-make_innermost-requires
make-make_innermost-requires t c =
    (let h = way_lighter c.args.expr.now _ _ c.in_ok-around.ensures.way in omega (arith, c.decreases, h), (c.requires, c.in_ok-around.ensures.last))

pub make-make_rest-requires : goal.make-make_rest-requires
make-make_rest-requires t c =
    let h = (All-pop (IsLight (weight c.args.expr.now)) _ _ (Some c.in-Some.outer.now) (popped (λ e. e.now) c.loop-outer.around.items c.pop.new.self.items c.in-Some.outer c.in-Some.ensures.items) c.loop-outer.invariant.light).1 in
    let k = weight_kept c.args.items.now c.args.statics.now c.loop-outer.statics c.loop-outer.invariant.names in
    (omega (arith, c.decreases, h, k), scene_kept c.args.items.now c.args.statics.now c.loop-outer.statics c.loop-outer.invariant.names c.requires)

pub make-loop-outer-init : goal.make-loop-outer-init
make-loop-outer-init t c =
    let items = c.args.items.now in
    let v = visible_in items c.args.statics.now in
    let env = streams_in c.args.env.now in
    let way = c.in_ok-around.ensures.way in
    record {
      names = c.in_ok-made.ensures.names;
      rest = ap (rests_of (map (λ e. e.now) c.in_ok-around.field-0.around.items) v env) c.in_ok-made.ensures.value ∙ way_made c.args.expr.now _ c.in_ok-around.field-0.innermost.now v env (shapes_in c.args.ledger) way;
      light = way_light (weight c.args.expr.now) c.args.expr.now _ c.in_ok-around.field-0.innermost.now (omega arith) way;
    }

pub make-loop-outer-preserved : goal.make-loop-outer-preserved
make-loop-outer-preserved t c =
    let items = c.args.items.now in
    let s = c.args.statics.now in
    let v = visible_in items s in
    let now = c.loop-outer.invariant in
    let last = popped (λ e. e.now) c.loop-outer.around.items c.pop.new.self.items c.in-Some.outer c.in-Some.ensures.items in
    record {
      names = names_on now.names c.in_ok-made-2.ensures.names;
      rest = rests_step _ _ c.in-Some.outer.now v (visible_in items c.loop-outer.statics) (streams_in c.args.env.now) (made_of c.loop-outer.made) (made_of c.in_ok-made-2.made) _ last (visible_kept items s c.loop-outer.statics now.names) c.in_ok-made-2.ensures.value now.rest;
      light = (All-pop (IsLight (weight c.args.expr.now)) _ _ (Some c.in-Some.outer.now) last now.light).0;
    }

pub make-returns-in_err-made-clause-limit : goal.make-returns-in_err-made-clause-limit
make-returns-in_err-made-clause-limit t c =
    let v = visible_in c.args.items.now c.args.statics.now in
    passed_on c.from_residual-in_err-made.result c.in_err-made.field-0.0 _ _ c.from_residual-in_err-made.ensures.1
    (way_within c.args.expr.now _ _ v (scene_appends c.args.items.now c.args.statics.now c.requires) (streams_in c.args.env.now) (shapes_in c.args.ledger) c.in_ok-around.ensures.way)
    c.in_err-made.ensures.limit

pub make-returns-in_err-made-2-clause-limit : goal.make-returns-in_err-made-2-clause-limit
make-returns-in_err-made-2-clause-limit t c =
    let items = c.args.items.now in
    let s = c.args.statics.now in
    let v = visible_in items s in
    let now = c.loop-outer.invariant in
    passed_on c.from_residual-in_err-made-2.result c.in_err-made-2.field-0.0 _ _ c.from_residual-in_err-made-2.ensures.1
    (rest_within _ _ c.in-Some.outer.now v (visible_in items c.loop-outer.statics) (scene_appends items s c.requires) (streams_in c.args.env.now) (made_of c.loop-outer.made) _ (popped (λ e. e.now) c.loop-outer.around.items c.pop.new.self.items c.in-Some.outer c.in-Some.ensures.items) (visible_kept items s c.loop-outer.statics now.names) now.rest)
    c.in_err-made-2.ensures.limit

pub make_innermost-make_all-requires : goal.make_innermost-make_all-requires
make_innermost-make_all-requires t c = (let h = args_lighter c.args.expr.now c.in-Call.name c.in-Call.args c.deref.result.now c.in-Call.is c.deref.ensures.value in omega (arith, c.decreases, h), c.requires.scene)

pub make_innermost-make_all-requires-in-Cat : goal.make_innermost-make_all-requires-in-Cat
make_innermost-make_all-requires-in-Cat t c = (let h = parts_lighter c.args.expr.now c.in-Cat.parts c.deref-in-Cat.result.now c.in-Cat.is c.deref-in-Cat.ensures.value in omega (arith, c.decreases, h), c.requires.scene)

pub make_innermost-call-requires : goal.make_innermost-call-requires
make_innermost-call-requires t c = (let h = call_heavy c.args.expr.now c.in-Call.name c.in-Call.args c.in-Call.is in let k = weight_kept c.args.items.now c.args.statics.now c.make_all.new.statics c.in_ok-all-in-Call.ensures.names in omega (arith, c.decreases, h, k), scene_kept c.args.items.now c.args.statics.now c.make_all.new.statics c.in_ok-all-in-Call.ensures.names c.requires.scene)

pub make_innermost-returns-in_ok-all-in-Call-clause-value : goal.make_innermost-returns-in_ok-all-in-Call-clause-value
make_innermost-returns-in_ok-all-in-Call-clause-value t c =
    let items = c.args.items.now in
    let v = visible_in items c.args.statics.now in
    let env = streams_in c.args.env.now in
    let es = shapes_in c.args.ledger in
    let e = call_is v (visible_in items c.make_all.new.statics) env es c.args.expr.now c.in-Call.name c.in-Call.args c.deref.result.now (all_of c.in_ok-all-in-Call.all) c.in-Call.is c.deref.ensures.value (visible_kept items c.args.statics.now c.make_all.new.statics c.in_ok-all-in-Call.ensures.names) c.in_ok-all-in-Call.ensures.value in
    subst (λ (z : Expanded). IfOk c.call.result (λ m. made_of m ≡ z)) e c.call.ensures.value

pub make_innermost-returns-in_ok-all-in-Cat-clause-value : goal.make_innermost-returns-in_ok-all-in-Cat-clause-value
make_innermost-returns-in_ok-all-in-Cat-clause-value t c =
    let items = c.args.items.now in
    let v = visible_in items c.args.statics.now in
    let env = streams_in c.args.env.now in
    let es = shapes_in c.args.ledger in
    let e = cat_is v env es c.args.expr.now c.in-Cat.parts c.deref-in-Cat.result.now (all_of c.in_ok-all-in-Cat.all) c.in-Cat.is c.deref-in-Cat.ensures.value c.in_ok-all-in-Cat.ensures.value in
    subst (λ (z : Expanded). IfOk c.concatenate.result (λ m. made_of m ≡ z)) e c.concatenate.ensures.value

pub make_innermost-returns-in_ok-all-in-Call-clause-limit : goal.make_innermost-returns-in_ok-all-in-Call-clause-limit
make_innermost-returns-in_ok-all-in-Call-clause-limit t c =
    let items = c.args.items.now in
    let v = visible_in items c.args.statics.now in
    let env = streams_in c.args.env.now in
    let es = shapes_in c.args.ledger in
    let e = call_is v (visible_in items c.make_all.new.statics) env es c.args.expr.now c.in-Call.name c.in-Call.args c.deref.result.now (all_of c.in_ok-all-in-Call.all) c.in-Call.is c.deref.ensures.value (visible_kept items c.args.statics.now c.make_all.new.statics c.in_ok-all-in-Call.ensures.names) c.in_ok-all-in-Call.ensures.value in
    subst (λ (z : Expanded). IfErr c.call.result (λ s. IsPast s z.equations)) e c.call.ensures.limit

pub make_innermost-returns-in_ok-all-in-Cat-clause-limit : goal.make_innermost-returns-in_ok-all-in-Cat-clause-limit
make_innermost-returns-in_ok-all-in-Cat-clause-limit t c =
    let items = c.args.items.now in
    let v = visible_in items c.args.statics.now in
    let env = streams_in c.args.env.now in
    let es = shapes_in c.args.ledger in
    let e = cat_is v env es c.args.expr.now c.in-Cat.parts c.deref-in-Cat.result.now (all_of c.in_ok-all-in-Cat.all) c.in-Cat.is c.deref-in-Cat.ensures.value c.in_ok-all-in-Cat.ensures.value in
    subst (λ (z : Expanded). IfErr c.concatenate.result (λ s. IsPast s z.equations)) e c.concatenate.ensures.limit

pub make_innermost-returns-in_err-all-in-Call-clause-limit : goal.make_innermost-returns-in_err-all-in-Call-clause-limit
make_innermost-returns-in_err-all-in-Call-clause-limit t c =
    let items = c.args.items.now in
    let s = c.args.statics.now in
    let v = visible_in items s in
    let fs = scene_appends items s c.requires.scene in
    let env = streams_in c.args.env.now in
    let es = shapes_in c.args.ledger in
    passed_on c.from_residual.result c.in_err-all-in-Call.field-0.0 _ _ c.from_residual.ensures.1
    (args_within v fs env es c.args.expr.now c.in-Call.name c.in-Call.args c.deref.result.now c.in-Call.is c.deref.ensures.value)
    c.in_err-all-in-Call.ensures.limit

pub make_innermost-returns-in_err-all-in-Cat-clause-limit : goal.make_innermost-returns-in_err-all-in-Cat-clause-limit
make_innermost-returns-in_err-all-in-Cat-clause-limit t c =
    let items = c.args.items.now in
    let s = c.args.statics.now in
    let v = visible_in items s in
    let env = streams_in c.args.env.now in
    let es = shapes_in c.args.ledger in
    passed_on c.from_residual-in_err-all-in-Cat.result c.in_err-all-in-Cat.field-0.0 _ _ c.from_residual-in_err-all-in-Cat.ensures.1
    (parts_within v env es c.args.expr.now c.in-Cat.parts c.deref-in-Cat.result.now c.in-Cat.is c.deref-in-Cat.ensures.value)
    c.in_err-all-in-Cat.ensures.limit

pub make_innermost-returns-in_err-all-in-Call-clause-value : goal.make_innermost-returns-in_err-all-in-Call-clause-value
make_innermost-returns-in_err-all-in-Call-clause-value t c = IfOk-from_err _ _ c.from_residual.ensures.0

pub make_innermost-returns-in_err-all-in-Call-clause-names : goal.make_innermost-returns-in_err-all-in-Call-clause-names
make_innermost-returns-in_err-all-in-Call-clause-names t c = IfOk-from_err _ _ c.from_residual.ensures.0

pub make_innermost-returns-in_err-all-in-Cat-clause-value : goal.make_innermost-returns-in_err-all-in-Cat-clause-value
make_innermost-returns-in_err-all-in-Cat-clause-value t c = IfOk-from_err _ _ c.from_residual-in_err-all-in-Cat.ensures.0

pub make_innermost-returns-in_err-all-in-Cat-clause-names : goal.make_innermost-returns-in_err-all-in-Cat-clause-names
make_innermost-returns-in_err-all-in-Cat-clause-names t c = IfOk-from_err _ _ c.from_residual-in_err-all-in-Cat.ensures.0

pub make_rest-make-requires : goal.make_rest-make-requires
make_rest-make-requires t c = (let h = second_lighter c.args.expr.now c.deref-in-None.result.now c.in-Binary.op _ c.in-Binary.second c.in-Binary.is c.deref-in-None.ensures in omega (arith, c.decreases, h), c.requires)

pub make_rest-make-requires-in-Choose : goal.make_rest-make-requires-in-Choose
make_rest-make-requires-in-Choose t c = (let h = chosen_lighter c.args.expr.now c.deref-in-Choose.result.now _ c.in-Choose.first c.in-Choose.second c.in-Choose.is c.deref-in-Choose.ensures in omega (arith, c.decreases, h), c.requires)

pub make_rest-make-requires-in-Choose-2 : goal.make_rest-make-requires-in-Choose-2
make_rest-make-requires-in-Choose-2 t c = (let h = other_lighter c.args.expr.now c.deref-in-Choose-2.result.now _ c.in-Choose.first c.in-Choose.second c.in-Choose.is c.deref-in-Choose-2.ensures in let k = weight_kept c.args.items.now c.args.statics.now c.make-in-Choose.new.statics c.in_ok-a-in-Choose.ensures.names in omega (arith, c.decreases, h, k), scene_kept c.args.items.now c.args.statics.now c.make-in-Choose.new.statics c.in_ok-a-in-Choose.ensures.names c.requires)

pub make_rest-returns-in-Some-clause-value : goal.make_rest-returns-in-Some-clause-value
make_rest-returns-in-Some-clause-value t c =
    let v = visible_in c.args.items.now c.args.statics.now in
    let env = streams_in c.args.env.now in
    let x = made_of c.args.made in
    let by : Some c.in-Some.by ≡ constant_shift c.in-Binary.op c.amount.result = sym c.in-Some.is ∙ c.shift.ensures in
    let e = shift_is v env c.args.expr.now c.deref.result.now c.in-Binary.op _ c.in-Binary.second x c.in-Some.by c.amount.result c.in-Binary.is c.deref.ensures c.amount.ensures by in
    subst (λ (z : Expanded). IfOk c.one-in-Some.result (λ m. made_of m ≡ z)) e c.one-in-Some.ensures.value

pub make_rest-returns-in-Some-clause-limit : goal.make_rest-returns-in-Some-clause-limit
make_rest-returns-in-Some-clause-limit t c =
    let v = visible_in c.args.items.now c.args.statics.now in
    let env = streams_in c.args.env.now in
    let x = made_of c.args.made in
    let by : Some c.in-Some.by ≡ constant_shift c.in-Binary.op c.amount.result = sym c.in-Some.is ∙ c.shift.ensures in
    let e = shift_is v env c.args.expr.now c.deref.result.now c.in-Binary.op _ c.in-Binary.second x c.in-Some.by c.amount.result c.in-Binary.is c.deref.ensures c.amount.ensures by in
    subst (λ (z : Expanded). IfErr c.one-in-Some.result (λ s. IsPast s z.equations)) e c.one-in-Some.ensures.limit

pub make_rest-returns-in_ok-b-in-None-clause-value : goal.make_rest-returns-in_ok-b-in-None-clause-value
make_rest-returns-in_ok-b-in-None-clause-value t c =
    let v = visible_in c.args.items.now c.args.statics.now in
    let env = streams_in c.args.env.now in
    let x = made_of c.args.made in
    let none : None ≡ constant_shift c.in-Binary.op c.amount.result = sym c.in-None.is ∙ c.shift.ensures in
    let e = two_is v env c.args.expr.now c.deref.result.now c.deref-in-None.result.now c.in-Binary.op _ c.in-Binary.second x (made_of c.in_ok-b-in-None.b) c.op_of.result c.amount.result c.in-Binary.is c.deref.ensures c.deref-in-None.ensures c.amount.ensures none c.op_of.ensures c.in_ok-b-in-None.ensures.value in
    subst (λ (z : Expanded). IfOk c.two.result (λ m. made_of m ≡ z)) e c.two.ensures.value

pub make_rest-returns-in_ok-b-in-None-clause-limit : goal.make_rest-returns-in_ok-b-in-None-clause-limit
make_rest-returns-in_ok-b-in-None-clause-limit t c =
    let v = visible_in c.args.items.now c.args.statics.now in
    let env = streams_in c.args.env.now in
    let x = made_of c.args.made in
    let none : None ≡ constant_shift c.in-Binary.op c.amount.result = sym c.in-None.is ∙ c.shift.ensures in
    let e = two_is v env c.args.expr.now c.deref.result.now c.deref-in-None.result.now c.in-Binary.op _ c.in-Binary.second x (made_of c.in_ok-b-in-None.b) c.op_of.result c.amount.result c.in-Binary.is c.deref.ensures c.deref-in-None.ensures c.amount.ensures none c.op_of.ensures c.in_ok-b-in-None.ensures.value in
    subst (λ (z : Expanded). IfErr c.two.result (λ s. IsPast s z.equations)) e c.two.ensures.limit

pub make_rest-returns-in_ok-b-in-Choose-clause-value : goal.make_rest-returns-in_ok-b-in-Choose-clause-value
make_rest-returns-in_ok-b-in-Choose-clause-value t c =
    let v = visible_in c.args.items.now c.args.statics.now in
    let env = streams_in c.args.env.now in
    let x = made_of c.args.made in
    let s = c.args.statics.now in
    let e = three_is v (visible_in c.args.items.now c.make-in-Choose.new.statics) env c.args.expr.now c.deref-in-Choose.result.now c.deref-in-Choose-2.result.now _ c.in-Choose.first c.in-Choose.second x (made_of c.in_ok-a-in-Choose.a) (made_of c.in_ok-b-in-Choose.b) c.in-Choose.is c.deref-in-Choose.ensures c.deref-in-Choose-2.ensures (visible_kept c.args.items.now s c.make-in-Choose.new.statics c.in_ok-a-in-Choose.ensures.names) c.in_ok-a-in-Choose.ensures.value c.in_ok-b-in-Choose.ensures.value in
    subst (λ (z : Expanded). IfOk c.choose.result (λ m. made_of m ≡ z)) e c.choose.ensures.value

pub make_rest-returns-in_ok-b-in-Choose-clause-limit : goal.make_rest-returns-in_ok-b-in-Choose-clause-limit
make_rest-returns-in_ok-b-in-Choose-clause-limit t c =
    let v = visible_in c.args.items.now c.args.statics.now in
    let env = streams_in c.args.env.now in
    let x = made_of c.args.made in
    let s = c.args.statics.now in
    let e = three_is v (visible_in c.args.items.now c.make-in-Choose.new.statics) env c.args.expr.now c.deref-in-Choose.result.now c.deref-in-Choose-2.result.now _ c.in-Choose.first c.in-Choose.second x (made_of c.in_ok-a-in-Choose.a) (made_of c.in_ok-b-in-Choose.b) c.in-Choose.is c.deref-in-Choose.ensures c.deref-in-Choose-2.ensures (visible_kept c.args.items.now s c.make-in-Choose.new.statics c.in_ok-a-in-Choose.ensures.names) c.in_ok-a-in-Choose.ensures.value c.in_ok-b-in-Choose.ensures.value in
    subst (λ (z : Expanded). IfErr c.choose.result (λ s. IsPast s z.equations)) e c.choose.ensures.limit

pub make_rest-returns-in_err-a-in-Choose-clause-limit : goal.make_rest-returns-in_err-a-in-Choose-clause-limit
make_rest-returns-in_err-a-in-Choose-clause-limit t c =
    let items = c.args.items.now in
    let s = c.args.statics.now in
    passed_on c.from_residual-in_err-a-in-Choose.result c.in_err-a-in-Choose.field-0.0 _ _ c.from_residual-in_err-a-in-Choose.ensures.1
    (chosen_within (visible_in items s) (scene_appends items s c.requires) (streams_in c.args.env.now) c.args.expr.now c.deref-in-Choose.result.now _ c.in-Choose.first c.in-Choose.second (made_of c.args.made) c.in-Choose.is c.deref-in-Choose.ensures)
    c.in_err-a-in-Choose.ensures.limit

pub make_rest-returns-in_err-b-in-Choose-clause-limit : goal.make_rest-returns-in_err-b-in-Choose-clause-limit
make_rest-returns-in_err-b-in-Choose-clause-limit t c =
    let items = c.args.items.now in
    let s = c.args.statics.now in
    passed_on c.from_residual-in_err-b-in-Choose.result c.in_err-b-in-Choose.field-0.0 _ _ c.from_residual-in_err-b-in-Choose.ensures.1
    (other_within (visible_in items s) (visible_in items c.make-in-Choose.new.statics) (streams_in c.args.env.now) c.args.expr.now c.deref-in-Choose.result.now c.deref-in-Choose-2.result.now _ c.in-Choose.first c.in-Choose.second (made_of c.args.made) (made_of c.in_ok-a-in-Choose.a) c.in-Choose.is c.deref-in-Choose.ensures c.deref-in-Choose-2.ensures (visible_kept items s c.make-in-Choose.new.statics c.in_ok-a-in-Choose.ensures.names) c.in_ok-a-in-Choose.ensures.value)
    c.in_err-b-in-Choose.ensures.limit

pub make_stmts-loop-stmt-preserved : goal.make_stmts-loop-stmt-preserved
make_stmts-loop-stmt-preserved t c =
    let items = c.args.items.now in
    let v = visible_in items c.args.statics.now in
    record {
      names = names_on c.loop-stmt.invariant.names c.in_ok-at.ensures.names;
      rest = stmts_step v (visible_in items c.loop-stmt.statics) (progress_of c.loop-stmt.at) (progress_of c.in_ok-at.at) _ c.args.stmts.now c.loop-stmt.stmt-index c.stmt-item.result (omega arith) c.stmt-item.is (visible_kept items c.args.statics.now c.loop-stmt.statics c.loop-stmt.invariant.names) c.in_ok-at.ensures.value c.loop-stmt.invariant.rest;
    }

pub make_all-make-requires : goal.make_all-make-requires
make_all-make-requires t c = (let h = one_of c.args.exprs.now c.loop-expr.expr-index c.expr-item.result c.loop-expr-test.true c.expr-item.is in let k = weight_kept c.args.items.now c.args.statics.now c.loop-expr.statics c.loop-expr.invariant.names in omega (arith, c.decreases, h, k), scene_kept c.args.items.now c.args.statics.now c.loop-expr.statics c.loop-expr.invariant.names c.requires)

pub make_rec-make_body-requires-2 : goal.make_rec-make_body-requires-2
make_rec-make_body-requires-2 t c = (let k = weight_kept c.args.items.now c.args.statics.now c.make_body.new.statics c.in_ok-counted.ensures.names in omega (arith, c.decreases, k), scene_kept c.args.items.now c.args.statics.now c.make_body.new.statics c.in_ok-counted.ensures.names c.requires)

pub make_rec-settle-requires : goal.make_rec-settle-requires
make_rec-settle-requires t c = (let k = weight_kept c.args.items.now c.args.statics.now c.make_body-2.new.statics (names_on c.in_ok-counted.ensures.names c.in_ok-made.ensures.names) in omega (arith, c.decreases, k), scene_kept c.args.items.now c.args.statics.now c.make_body-2.new.statics (names_on c.in_ok-counted.ensures.names c.in_ok-made.ensures.names) c.requires)

pub make_stmts-make_stmt-requires : goal.make_stmts-make_stmt-requires
make_stmts-make_stmt-requires t c = (let h = stmt_of c.args.stmts.now c.loop-stmt.stmt-index c.stmt-item.result c.loop-stmt-test.true c.stmt-item.is in let k = weight_kept c.args.items.now c.args.statics.now c.loop-stmt.statics c.loop-stmt.invariant.names in omega (arith, c.decreases, h, k), scene_kept c.args.items.now c.args.statics.now c.loop-stmt.statics c.loop-stmt.invariant.names c.requires)

pub make_turns-make_turn-requires : goal.make_turns-make_turn-requires
make_turns-make_turn-requires t c = (let k = weight_kept c.args.items.now c.args.statics.now c.loop-at.statics c.loop-at.invariant.names in omega (arith, c.decreases, k), scene_kept c.args.items.now c.args.statics.now c.loop-at.statics c.loop-at.invariant.names c.requires)

pub run-make_assigned-requires : goal.run-make_assigned-requires
run-make_assigned-requires t c = (let k = weight_kept c.args.items.now c.args.statics.now c.make_stmts.new.statics c.in_ok-env.ensures.names in omega (arith, c.decreases, k), scene_kept c.args.items.now c.args.statics.now c.make_stmts.new.statics c.in_ok-env.ensures.names c.requires)

pub make_turn-make_stmts-requires : goal.make_turn-make_stmts-requires
make_turn-make_stmts-requires t c =
    let s = c.args.statics.now in
    let put = c.in_ok-was.ensures in
    let k : weight_in c.args.items.now c.swap_index.new.self ≡ weight_in c.args.items.now s = ap (weight_up_to c.args.items.now) put.horizon in
    (omega (arith, c.decreases, k), scene_index c.args.items.now s c.swap_index.new.self c.args.turn.now.index.now c.args.turn.now.at put.entries put.horizon (known_swapped s c.swap_index.new.self c.args.turn.now.index.now c.args.turn.now.at put.entries put.horizon put.indices) c.requires)

pub make_turn-returns-clause-names : goal.make_turn-returns-clause-names
make_turn-returns-clause-names t c =
    let put = c.in_ok-was.ensures in
    let out = c.in_ok-_turn.ensures in
    index_back c.args.statics.now c.swap_index.new.self c.make_stmts.new.statics c.swap_index-2.new.self c.args.turn.now.index.now (Index c.args.turn.now.at) c.in_ok-was.was' put.was put.indices put.entries put.horizon c.in_ok-ended.ensures.names out.indices out.entries out.horizon

pub make_turn-returns-clause-value : goal.make_turn-returns-clause-value
make_turn-returns-clause-value t c =
    let s = c.args.statics.now in
    let put = c.in_ok-was.ensures in
    let known = known_swapped s c.swap_index.new.self c.args.turn.now.index.now c.args.turn.now.at put.entries put.horizon put.indices in
    c.in_ok-ended.ensures.value ∙ (λ i. changes_of c.args.body.now (record { known = known i; functions = functions_before c.args.items.now (put.horizon i) }) (progress_of c.args.begun))

pub make_all-loop-expr-preserved : goal.make_all-loop-expr-preserved
make_all-loop-expr-preserved t c =
    let items = c.args.items.now in
    let v = visible_in items c.args.statics.now in
    record {
      names = names_on c.loop-expr.invariant.names c.in_ok-part.ensures.names;
      rest = parts_step v (visible_in items c.loop-expr.statics) (streams_in c.args.env.now) (shapes_in c.loop-expr.ledger) c.loop-expr.given.items c.push.new.self.items c.args.exprs.now c.loop-expr.expr-index c.expr-item.result (made_of c.in_ok-part.part) _ c.loop-expr-test.true c.expr-item.is (visible_kept items c.args.statics.now c.loop-expr.statics c.loop-expr.invariant.names) c.in_ok-part.ensures.value c.in-Ok.ensures.items c.loop-expr.invariant.rest;
    }

pub make_turns-loop-at-preserved : goal.make_turns-loop-at-preserved
make_turns-loop-at-preserved t c =
    let items = c.args.items.now in
    let v = visible_in items c.args.statics.now in
    let f : ℕ → Progress → Progress = λ at. changes_of c.args.body.now (with_index c.args.span.now.index.now at v) in
    let now = progress_of c.loop-at.now in
    let step : progress_of c.in_ok-now.now ≡ f c.loop-at.at now = c.in_ok-now.ensures.value ∙ ap (λ (u : Visible). changes_of c.args.body.now (with_index c.args.span.now.index.now c.loop-at.at u) now) (visible_kept items c.args.statics.now c.loop-at.statics c.loop-at.invariant.names) in
    record {
      names = names_on c.loop-at.invariant.names c.in_ok-now.ensures.names;
      rest = turns_step f c.args.span.now.to c.loop-at.at now (progress_of c.in_ok-now.now) _ c.loop-at-test.true step c.loop-at.invariant.rest;
    }

pub run-returns-clause-value : goal.run-returns-clause-value
run-returns-clause-value t c =
    let items = c.args.items.now in
    let v = visible_in items c.args.statics.now in
    let w = visible_in items c.make_stmts.new.statics in
    let body : progress_of c.in_ok-env.field-0 ≡ changes_of c.args.body.now v (progress_of c.args.begun) = c.in_ok-env.ensures.value in
    let same : w ≡ v = visible_kept items c.args.statics.now c.make_stmts.new.statics c.in_ok-env.ensures.names in
    subst (λ (z : Expanded). IfOk c.make_assigned.result (λ m. made_of m ≡ z)) (λ i. assigned c.args.last.now.width c.args.last.now.expr.now (same i) (body i).streams (body i).equations) c.make_assigned.ensures.value

pub call-call_item-requires : goal.call-call_item-requires
call-call_item-requires t c =
    let known = callee_known (known_in c.args.statics.now c.args.name.now) c.in-Some.callee c.in-Some.ensures.value in
    (let h = weight_entered c.args.items.now c.args.statics.now c.enter-frame.new.self c.args.name.now c.in-Some.callee c.in-Some-item.item _ c.requires known c.in-Some-item.is c.enter-frame.ensures.inside c.item_at.ensures in omega (arith, c.decreases, h), entered c.args.items.now c.args.statics.now c.enter-frame.new.self c.args.name.now c.in-Some.callee c.in-Some-item.item known c.in-Some-item.is c.enter-frame.ensures.entries c.enter-frame.ensures.inside c.enter-frame.ensures.known c.requires)

pub call-returns-in_ok-made-in-Some-item-clause-value : goal.call-returns-in_ok-made-in-Some-item-clause-value
call-returns-in_ok-made-in-Some-item-clause-value t c =
    let items = c.args.items.now in
    let known = callee_known (known_in c.args.statics.now c.args.name.now) c.in-Some.callee c.in-Some.ensures.value in
    c.in_ok-made-in-Some-item.ensures.value ∙ called_is items c.args.statics.now c.enter-frame.new.self c.args.name.now c.in-Some.callee c.in-Some-item.item _ (all_of c.args.all) known c.in-Some-item.is c.enter-frame.ensures.inside c.enter-frame.ensures.known c.requires c.item_at.ensures

pub make_rec-returns-clause-value : goal.make_rec-returns-clause-value
make_rec-returns-clause-value t c =
    let items = c.args.items.now in
    let s = c.args.statics.now in
    let v = visible_in items s in
    let begun = progress_of c.args.begun in
    let name = c.args.stmt.now.target.now.name in
    let width = c.args.stmt.now.body.width in
    let e = c.args.stmt.now.body.expr.now in
    let p = place c.args.stmt.now.target.now (known_in s) in
    let at = c.place_at-at.result in
    let declared = lawful width in
    let grown = body-appends v (scene_appends items s c.requires) name p width e 0 begun in
    let n = number_after name p width e v begun in
    let counts = counted_as v name width e begun p at declared (streams_in c.set.new.self) (made_of c.in_ok-counted.counted) c.place_at-at.ensures refl c.in_ok-set.ensures.stands c.in_ok-counted.ensures.value in
    let length_is = counted_number c.in_ok-counted.counted.ledger.equations.items c.len-number.result (omega arith) in
    let first_is = counted_number c.args.begun.ledger.equations.items c.len-first.result (omega arith) in
    let start = cut_shapes c.cut-ledger.result.equations.items c.in_ok-counted.counted.ledger.equations.items c.args.begun.ledger.equations.items c.len-first.result (omega arith) c.cut-ledger.ensures in
    let kept = visible_kept items s c.make_body.new.statics c.in_ok-counted.ensures.names in
    let body = body_as v (visible_in items c.make_body.new.statics) name width e begun p at declared c.len-number.result (streams_in c.set.new.self) (streams_in c.set-2.new.self) (made_of c.in_ok-counted.counted) (made_of c.in_ok-made.made) (shapes_in c.cut-ledger.result) grown.more c.place_at-at.ensures refl c.in_ok-set.ensures.stands c.in_ok-counted.ensures.value length_is start c.in_ok-set-2.ensures.stands kept c.in_ok-made.ensures.value grown.is in
    let again = body-appends v (scene_appends items s c.requires) name p width e n begun in
    let number_is : c.len-number.result ≡ n = length_is ∙ ap (λ (m : Expanded). length m.equations) counts in
    let one : streams_in c.set.new.self ≡ with_standing name p (Own 0) begun.streams = c.in_ok-set.ensures.stands ∙ (λ i. with_standing name (c.place_at-at.ensures i) (Own 0) begun.streams) in
    let two : streams_in c.set-2.new.self ≡ with_standing name p (Own n) begun.streams = c.in_ok-set-2.ensures.stands ∙ ((λ i. with_standing name (c.place_at-at.ensures i) (Own (number_is i)) (one i)) ∙ twice name p (Own 0) (Own n) begun.streams) in
    let other = visible_kept items s c.make_body-2.new.statics (names_on c.in_ok-counted.ensures.names c.in_ok-made.ensures.names) in
    let stands = stands_as v (visible_in items c.make_body-2.new.statics) name width e begun p at declared c.len-number.result c.len-first.result (streams_in c.set-2.new.self) (streams_in c.set-3.new.self) (made_of c.in_ok-made.made) _ (made_of c.in_ok-made-2.made) again.more c.place_at-at.ensures refl number_is first_is body two c.in_ok-set-3.ensures.stands other refl c.in_ok-made-2.ensures.value again.is in
    let three : streams_in c.set-3.new.self ≡ with_standing name p (Own 0) begun.streams = c.in_ok-set-3.ensures.stands ∙ ((λ i. with_standing name (c.place_at-at.ensures i) (Own 0) (two i)) ∙ twice name p (Own n) (Own 0) begun.streams) in
    let whole = rec_as v c.args.stmt.now.target.now width c.args.stmt.now.init.now e begun at c.value_of-init.result c.declared-width.result (streams_in c.set-3.new.self) _ (made_of c.in_ok-made-2.made) (made_of c.in_ok-made-3.made)
    c.place_at-at.ensures c.value_of-init.ensures c.declared-width.ensures
    (λ x. (λ i. with_standing name p x (three i)) ∙ twice name p (Own 0) x begun.streams) stands
    (rec_last _ _ _ _ _ c.len-first.result (length begun.equations) first_is c.in_ok-made-3.ensures.value)
    refl in
    subst (λ (z : Progress). IfOk c.stands.result (λ p. progress_of p ≡ z)) whole c.stands.ensures.value

pub make_rec-returns-in_err-counted-clause-limit : goal.make_rec-returns-in_err-counted-clause-limit
make_rec-returns-in_err-counted-clause-limit t c =
    let v = visible_in c.args.items.now c.args.statics.now in
    let begun = progress_of c.args.begun in
    passed_on c.from_residual-in_err-counted.result c.in_err-counted.field-0.0 _ _ c.from_residual-in_err-counted.ensures.1
    (counted_within v c.args.stmt.now.target.now c.args.stmt.now.body.width c.args.stmt.now.init.now c.args.stmt.now.body.expr.now begun _ (counted_as v c.args.stmt.now.target.now.name c.args.stmt.now.body.width c.args.stmt.now.body.expr.now begun (place c.args.stmt.now.target.now (known_in c.args.statics.now)) c.place_at-at.result (lawful c.args.stmt.now.body.width) (streams_in c.set.new.self) _ c.place_at-at.ensures refl c.in_ok-set.ensures.stands refl))
    c.in_err-counted.ensures.limit

pub make_rec-returns-in_err-made-clause-limit : goal.make_rec-returns-in_err-made-clause-limit
make_rec-returns-in_err-made-clause-limit t c =
    let items = c.args.items.now in
    let s = c.args.statics.now in
    let v = visible_in items s in
    let begun = progress_of c.args.begun in
    let name = c.args.stmt.now.target.now.name in
    let width = c.args.stmt.now.body.width in
    let e = c.args.stmt.now.body.expr.now in
    let p = place c.args.stmt.now.target.now (known_in s) in
    let at = c.place_at-at.result in
    let declared = lawful width in
    let grown = body-appends v (scene_appends items s c.requires) name p width e 0 begun in
    let n = number_after name p width e v begun in
    let counts = counted_as v name width e begun p at declared (streams_in c.set.new.self) (made_of c.in_ok-counted.counted) c.place_at-at.ensures refl c.in_ok-set.ensures.stands c.in_ok-counted.ensures.value in
    let length_is = counted_number c.in_ok-counted.counted.ledger.equations.items c.len-number.result (omega arith) in
    let first_is = counted_number c.args.begun.ledger.equations.items c.len-first.result (omega arith) in
    let start = cut_shapes c.cut-ledger.result.equations.items c.in_ok-counted.counted.ledger.equations.items c.args.begun.ledger.equations.items c.len-first.result (omega arith) c.cut-ledger.ensures in
    let kept = visible_kept items s c.make_body.new.statics c.in_ok-counted.ensures.names in
    passed_on c.from_residual-in_err-made.result c.in_err-made.field-0.0 _ _ c.from_residual-in_err-made.ensures.1
    (body_within v c.args.stmt.now.target.now width c.args.stmt.now.init.now e begun _ (body_as v (visible_in items c.make_body.new.statics) name width e begun p at declared c.len-number.result (streams_in c.set.new.self) (streams_in c.set-2.new.self) (made_of c.in_ok-counted.counted) _ (shapes_in c.cut-ledger.result) grown.more c.place_at-at.ensures refl c.in_ok-set.ensures.stands c.in_ok-counted.ensures.value length_is start c.in_ok-set-2.ensures.stands kept refl grown.is))
    c.in_err-made.ensures.limit

pub make_rec-returns-in_err-made-2-clause-limit : goal.make_rec-returns-in_err-made-2-clause-limit
make_rec-returns-in_err-made-2-clause-limit t c =
    let items = c.args.items.now in
    let s = c.args.statics.now in
    let v = visible_in items s in
    let begun = progress_of c.args.begun in
    let name = c.args.stmt.now.target.now.name in
    let width = c.args.stmt.now.body.width in
    let e = c.args.stmt.now.body.expr.now in
    let p = place c.args.stmt.now.target.now (known_in s) in
    let at = c.place_at-at.result in
    let declared = lawful width in
    let grown = body-appends v (scene_appends items s c.requires) name p width e 0 begun in
    let n = number_after name p width e v begun in
    let counts = counted_as v name width e begun p at declared (streams_in c.set.new.self) (made_of c.in_ok-counted.counted) c.place_at-at.ensures refl c.in_ok-set.ensures.stands c.in_ok-counted.ensures.value in
    let length_is = counted_number c.in_ok-counted.counted.ledger.equations.items c.len-number.result (omega arith) in
    let first_is = counted_number c.args.begun.ledger.equations.items c.len-first.result (omega arith) in
    let start = cut_shapes c.cut-ledger.result.equations.items c.in_ok-counted.counted.ledger.equations.items c.args.begun.ledger.equations.items c.len-first.result (omega arith) c.cut-ledger.ensures in
    let kept = visible_kept items s c.make_body.new.statics c.in_ok-counted.ensures.names in
    let body = body_as v (visible_in items c.make_body.new.statics) name width e begun p at declared c.len-number.result (streams_in c.set.new.self) (streams_in c.set-2.new.self) (made_of c.in_ok-counted.counted) (made_of c.in_ok-made.made) (shapes_in c.cut-ledger.result) grown.more c.place_at-at.ensures refl c.in_ok-set.ensures.stands c.in_ok-counted.ensures.value length_is start c.in_ok-set-2.ensures.stands kept c.in_ok-made.ensures.value grown.is in
    let again = body-appends v (scene_appends items s c.requires) name p width e n begun in
    let number_is : c.len-number.result ≡ n = length_is ∙ ap (λ (m : Expanded). length m.equations) counts in
    let one : streams_in c.set.new.self ≡ with_standing name p (Own 0) begun.streams = c.in_ok-set.ensures.stands ∙ (λ i. with_standing name (c.place_at-at.ensures i) (Own 0) begun.streams) in
    let two : streams_in c.set-2.new.self ≡ with_standing name p (Own n) begun.streams = c.in_ok-set-2.ensures.stands ∙ ((λ i. with_standing name (c.place_at-at.ensures i) (Own (number_is i)) (one i)) ∙ twice name p (Own 0) (Own n) begun.streams) in
    let other = visible_kept items s c.make_body-2.new.statics (names_on c.in_ok-counted.ensures.names c.in_ok-made.ensures.names) in
    passed_on c.from_residual-in_err-made-2.result c.in_err-made-2.field-0.0 _ _ c.from_residual-in_err-made-2.ensures.1
    (stands_within v c.args.stmt.now.target.now width c.args.stmt.now.init.now e begun _ (stands_as v (visible_in items c.make_body-2.new.statics) name width e begun p at declared c.len-number.result c.len-first.result (streams_in c.set-2.new.self) (streams_in c.set-3.new.self) (made_of c.in_ok-made.made) _ _ again.more c.place_at-at.ensures refl number_is first_is body two c.in_ok-set-3.ensures.stands other refl refl again.is))
    c.in_err-made-2.ensures.limit

pub make_rec-returns-in_err-made-3-clause-limit : goal.make_rec-returns-in_err-made-3-clause-limit
make_rec-returns-in_err-made-3-clause-limit t c =
    let items = c.args.items.now in
    let s = c.args.statics.now in
    let v = visible_in items s in
    let begun = progress_of c.args.begun in
    let name = c.args.stmt.now.target.now.name in
    let width = c.args.stmt.now.body.width in
    let e = c.args.stmt.now.body.expr.now in
    let p = place c.args.stmt.now.target.now (known_in s) in
    let at = c.place_at-at.result in
    let declared = lawful width in
    let grown = body-appends v (scene_appends items s c.requires) name p width e 0 begun in
    let n = number_after name p width e v begun in
    let counts = counted_as v name width e begun p at declared (streams_in c.set.new.self) (made_of c.in_ok-counted.counted) c.place_at-at.ensures refl c.in_ok-set.ensures.stands c.in_ok-counted.ensures.value in
    let length_is = counted_number c.in_ok-counted.counted.ledger.equations.items c.len-number.result (omega arith) in
    let first_is = counted_number c.args.begun.ledger.equations.items c.len-first.result (omega arith) in
    let start = cut_shapes c.cut-ledger.result.equations.items c.in_ok-counted.counted.ledger.equations.items c.args.begun.ledger.equations.items c.len-first.result (omega arith) c.cut-ledger.ensures in
    let kept = visible_kept items s c.make_body.new.statics c.in_ok-counted.ensures.names in
    let body = body_as v (visible_in items c.make_body.new.statics) name width e begun p at declared c.len-number.result (streams_in c.set.new.self) (streams_in c.set-2.new.self) (made_of c.in_ok-counted.counted) (made_of c.in_ok-made.made) (shapes_in c.cut-ledger.result) grown.more c.place_at-at.ensures refl c.in_ok-set.ensures.stands c.in_ok-counted.ensures.value length_is start c.in_ok-set-2.ensures.stands kept c.in_ok-made.ensures.value grown.is in
    let again = body-appends v (scene_appends items s c.requires) name p width e n begun in
    let number_is : c.len-number.result ≡ n = length_is ∙ ap (λ (m : Expanded). length m.equations) counts in
    let one : streams_in c.set.new.self ≡ with_standing name p (Own 0) begun.streams = c.in_ok-set.ensures.stands ∙ (λ i. with_standing name (c.place_at-at.ensures i) (Own 0) begun.streams) in
    let two : streams_in c.set-2.new.self ≡ with_standing name p (Own n) begun.streams = c.in_ok-set-2.ensures.stands ∙ ((λ i. with_standing name (c.place_at-at.ensures i) (Own (number_is i)) (one i)) ∙ twice name p (Own 0) (Own n) begun.streams) in
    let other = visible_kept items s c.make_body-2.new.statics (names_on c.in_ok-counted.ensures.names c.in_ok-made.ensures.names) in
    let stands = stands_as v (visible_in items c.make_body-2.new.statics) name width e begun p at declared c.len-number.result c.len-first.result (streams_in c.set-2.new.self) (streams_in c.set-3.new.self) (made_of c.in_ok-made.made) _ (made_of c.in_ok-made-2.made) again.more c.place_at-at.ensures refl number_is first_is body two c.in_ok-set-3.ensures.stands other refl c.in_ok-made-2.ensures.value again.is in
    let three : streams_in c.set-3.new.self ≡ with_standing name p (Own 0) begun.streams = c.in_ok-set-3.ensures.stands ∙ ((λ i. with_standing name (c.place_at-at.ensures i) (Own 0) (two i)) ∙ twice name p (Own n) (Own 0) begun.streams) in
    let last = with_equation (op.Rec c.value_of-init.result c.len-first.result) (c.in_ok-made-2.made.given ∷ []) c.declared-width.result (shapes_in c.in_ok-made-2.made.ledger) in
    let whole = rec_as v c.args.stmt.now.target.now width c.args.stmt.now.init.now e begun at c.value_of-init.result c.declared-width.result (streams_in c.set-3.new.self) _ (made_of c.in_ok-made-2.made) last
    c.place_at-at.ensures c.value_of-init.ensures c.declared-width.ensures
    (λ x. (λ i. with_standing name p x (three i)) ∙ twice name p (Own 0) x begun.streams) stands
    (rec_last _ _ _ _ _ c.len-first.result (length begun.equations) first_is refl)
    refl in
    passed_on c.from_residual-in_err-made-3.result c.in_err-made-3.field-0.0 _ _ c.from_residual-in_err-made-3.ensures.1
    (same_long _ _ whole)
    c.in_err-made-3.ensures.limit

pub make_stmt-make_let-requires : goal.make_stmt-make_let-requires
make_stmt-make_let-requires t c = (let h = let_lighter c.args.stmt.now c.in-Let.target c.in-Let.width c.in-Let.value c.in-Let.is in omega (arith, c.decreases, h), c.requires)

pub make_stmt-make_rec-requires : goal.make_stmt-make_rec-requires
make_stmt-make_rec-requires t c = (let h = rec_lighter c.args.stmt.now c.in-Rec.target c.in-Rec.width c.in-Rec.init c.in-Rec.body c.in-Rec.is in omega (arith, c.decreases, h), c.requires)

pub make_stmt-make_turns-requires : goal.make_stmt-make_turns-requires
make_stmt-make_turns-requires t c = (let h = body_lighter c.args.stmt.now c.in-For.index c.in-For.low c.in-For.high c.in-For.body c.deref.result.now c.in-For.is c.deref.ensures.value in omega (arith, c.decreases, h), c.requires)

pub run-returns-clause-limit : goal.run-returns-clause-limit
run-returns-clause-limit t c =
    let items = c.args.items.now in
    let v = visible_in items c.args.statics.now in
    let w = visible_in items c.make_stmts.new.statics in
    let body : progress_of c.in_ok-env.field-0 ≡ changes_of c.args.body.now v (progress_of c.args.begun) = c.in_ok-env.ensures.value in
    let same : w ≡ v = visible_kept items c.args.statics.now c.make_stmts.new.statics c.in_ok-env.ensures.names in
    subst (λ (z : Expanded). IfErr c.make_assigned.result (λ s. IsPast s z.equations)) (λ i. assigned c.args.last.now.width c.args.last.now.expr.now (same i) (body i).streams (body i).equations) c.make_assigned.ensures.limit

pub call_item-returns-in_err-begun-in-Function-clause-limit : goal.call_item-returns-in_err-begun-in-Function-clause-limit
call_item-returns-in_err-begun-in-Function-clause-limit t c =
    let items = c.args.items.now in
    let s = c.args.statics.now in
    let v = visible_in items s in
    let fs = scene_appends items s c.requires in
    passed_on c.from_residual.result c.in_err-begun-in-Function.field-0.0 _ _ c.from_residual.ensures.1
    (begun_within _ c.in-Some.item.now c.in-Function.name c.in-Function.params c.in-Function.width c.in-Function.body c.in-Function.result c.deref.result.now v fs c.args.all.given.items (shapes_in c.args.all.ledger) (ap (option_map (λ i. i.now)) c.in-Some.is) c.in-Function.is c.deref.ensures.value)
    c.in_err-begun-in-Function.ensures.limit

pub make_all-returns-in_err-part-clause-limit : goal.make_all-returns-in_err-part-clause-limit
make_all-returns-in_err-part-clause-limit t c =
    let items = c.args.items.now in
    let s = c.args.statics.now in
    let v = visible_in items s in
    let fs = scene_appends items s c.requires in
    passed_on c.from_residual.result c.in_err-part.field-0.0 _ _ c.from_residual.ensures.1
    (part_within v (visible_in items c.loop-expr.statics) fs (streams_in c.args.env.now) (shapes_in c.loop-expr.ledger) c.loop-expr.given.items c.args.exprs.now c.loop-expr.expr-index c.expr-item.result _ c.loop-expr-test.true c.expr-item.is (visible_kept items s c.loop-expr.statics c.loop-expr.invariant.names) c.loop-expr.invariant.rest)
    c.in_err-part.ensures.limit

pub make_assigned-returns-in_err-made-clause-limit : goal.make_assigned-returns-in_err-made-clause-limit
make_assigned-returns-in_err-made-clause-limit t c =
    passed_on c.from_residual.result c.in_err-made.field-0.0 _ _ c.from_residual.ensures.1
    (assigned_within c.args.value.now.width c.args.value.now.expr.now (visible_in c.args.items.now c.args.statics.now) (streams_in c.args.env.now) (shapes_in c.args.ledger))
    c.in_err-made.ensures.limit

pub make_body-returns-in_err-made-clause-limit : goal.make_body-returns-in_err-made-clause-limit
make_body-returns-in_err-made-clause-limit t c =
    passed_on c.from_residual.result c.in_err-made.field-0.0 _ _ c.from_residual.ensures.1
    (operator_within (plan_of c.args.body.now.expr.now).is_operator (lawful c.args.body.now.width) ((plan_of c.args.body.now.expr.now).making (visible_in c.args.items.now c.args.statics.now) (streams_in c.args.env.now) (shapes_in c.args.ledger)))
    c.in_err-made.ensures.limit

pub make_stmts-returns-in_err-at-clause-limit : goal.make_stmts-returns-in_err-at-clause-limit
make_stmts-returns-in_err-at-clause-limit t c =
    let items = c.args.items.now in
    let s = c.args.statics.now in
    let v = visible_in items s in
    let fs = scene_appends items s c.requires in
    passed_on c.from_residual.result c.in_err-at.field-0.0 _ _ c.from_residual.ensures.1
    (stmt_within v (visible_in items c.loop-stmt.statics) fs (progress_of c.loop-stmt.at) _ c.args.stmts.now c.loop-stmt.stmt-index c.stmt-item.result c.loop-stmt-test.true c.stmt-item.is (visible_kept items s c.loop-stmt.statics c.loop-stmt.invariant.names) c.loop-stmt.invariant.rest)
    c.in_err-at.ensures.limit

pub make_turns-returns-in_err-now-clause-limit : goal.make_turns-returns-in_err-now-clause-limit
make_turns-returns-in_err-now-clause-limit t c =
    let items = c.args.items.now in
    let s = c.args.statics.now in
    let v = visible_in items s in
    let fs = scene_appends items s c.requires in
    passed_on c.from_residual.result c.in_err-now.field-0.0 _ _ c.from_residual.ensures.1
    (turn_within v (visible_in items c.loop-at.statics) fs c.args.span.now.index.now c.args.body.now c.args.span.now.to c.loop-at.at (progress_of c.loop-at.now) _ c.loop-at-test.true (visible_kept items s c.loop-at.statics c.loop-at.invariant.names) c.loop-at.invariant.rest)
    c.in_err-now.ensures.limit

pub make_turn-returns-in_err-ended-clause-limit : goal.make_turn-returns-in_err-ended-clause-limit
make_turn-returns-in_err-ended-clause-limit t c =
    let items = c.args.items.now in
    let s = c.args.statics.now in
    let put = c.in_ok-was.ensures in
    let known = known_swapped s c.swap_index.new.self c.args.turn.now.index.now c.args.turn.now.at put.entries put.horizon put.indices in
    passed_on c.from_residual-in_err-ended.result c.in_err-ended.field-0.0 _ _ c.from_residual-in_err-ended.ensures.1
    (same_long _ _ (λ i. changes_of c.args.body.now (record { known = known i; functions = functions_before items (put.horizon i) }) (progress_of c.args.begun)))
    c.in_err-ended.ensures.limit

pub run-returns-in_err-env-clause-limit : goal.run-returns-in_err-env-clause-limit
run-returns-in_err-env-clause-limit t c =
    let items = c.args.items.now in
    let s = c.args.statics.now in
    let v = visible_in items s in
    passed_on c.from_residual.result c.in_err-env.field-0.0 _ _ c.from_residual.ensures.1
    (let ended = changes_of c.args.body.now v (progress_of c.args.begun) in appends-length ended.equations _ (assigned-appends v (scene_appends items s c.requires) c.args.last.now.width c.args.last.now.expr.now ended.streams ended.equations))
    c.in_err-env.ensures.limit

pub make_stmt-returns-in-For-clause-limit : goal.make_stmt-returns-in-For-clause-limit
make_stmt-returns-in-For-clause-limit t c =
    let v = visible_in c.args.items.now c.args.statics.now in
    let e = for_is c.args.stmt.now c.in-For.index c.in-For.low c.in-For.high c.in-For.body c.deref.result.now v (progress_of c.args.begun) c.value_of-from.result c.value_of-to.result c.in-For.is c.deref.ensures.value c.value_of-from.ensures c.value_of-to.ensures in
    subst (λ (z : Progress). IfErr c.make_turns.result (λ s. IsPast s z.equations)) (sym e) c.make_turns.ensures.limit

pub settle-returns-clause-value : goal.settle-returns-clause-value
settle-returns-clause-value t c =
    let v = visible_in c.args.items.now c.args.statics.now in
    let made_on : List EquationShape → Expanded = λ es. declared_at_operator (plan_of c.args.counted.now.body.expr.now).is_operator (lawful c.args.counted.now.body.width) ((plan_of c.args.counted.now.body.expr.now).making v (streams_in c.args.env.now) es) in
    let es = c.args.made.ledger.equations.items in
    let cut_is = shapes_cut c.cut-ledger.result.equations.items es c.args.counted.now.first c.cut-ledger.ensures in
    let less : c.len.result < c.args.counted.now.number = omega (arith, c.if-counted-len.false) in
    let is : made_on (shapes_in c.cut-ledger.result) ≡ longer c.args.counted.now.number (made_on (take c.args.counted.now.first (shapes_in c.args.made.ledger))) (made_of c.args.made) = ap made_on cut_is ∙ sym (longer_counted c.args.counted.now.number c.len.result (made_on (take c.args.counted.now.first (shapes_of es))) es c.args.made.given less (omega arith)) in
    subst (λ (x : Expanded). IfOk c.make_body.result (λ m. made_of m ≡ x)) is c.make_body.ensures.value

pub settle-returns-clause-limit : goal.settle-returns-clause-limit
settle-returns-clause-limit t c =
    let v = visible_in c.args.items.now c.args.statics.now in
    let made_on : List EquationShape → Expanded = λ es. declared_at_operator (plan_of c.args.counted.now.body.expr.now).is_operator (lawful c.args.counted.now.body.width) ((plan_of c.args.counted.now.body.expr.now).making v (streams_in c.args.env.now) es) in
    let es = c.args.made.ledger.equations.items in
    let cut_is = shapes_cut c.cut-ledger.result.equations.items es c.args.counted.now.first c.cut-ledger.ensures in
    let less : c.len.result < c.args.counted.now.number = omega (arith, c.if-counted-len.false) in
    let is : made_on (shapes_in c.cut-ledger.result) ≡ longer c.args.counted.now.number (made_on (take c.args.counted.now.first (shapes_in c.args.made.ledger))) (made_of c.args.made) = ap made_on cut_is ∙ sym (longer_counted c.args.counted.now.number c.len.result (made_on (take c.args.counted.now.first (shapes_of es))) es c.args.made.given less (omega arith)) in
    subst (λ (x : Expanded). IfErr c.make_body.result (λ s. IsPast s x.equations)) is c.make_body.ensures.limit

pub call-returns-in-None-item-clause-value : goal.call-returns-in-None-item-clause-value
call-returns-in-None-item-clause-value t c =
    let known = callee_known (known_in c.args.statics.now c.args.name.now) c.in-Some.callee c.in-Some.ensures.value in
    c.signed.ensures ∙ signed_is c.args.items.now c.args.statics.now c.args.name.now c.in-Some.callee (all_of c.args.all) known c.in-None-item.is c.requires

pub call-returns-in_err-made-in-Some-item-clause-limit : goal.call-returns-in_err-made-in-Some-item-clause-limit
call-returns-in_err-made-in-Some-item-clause-limit t c =
    let known = callee_known (known_in c.args.statics.now c.args.name.now) c.in-Some.callee c.in-Some.ensures.value in
    let is = called_is c.args.items.now c.args.statics.now c.enter-frame.new.self c.args.name.now c.in-Some.callee c.in-Some-item.item _ (all_of c.args.all) known c.in-Some-item.is c.enter-frame.ensures.inside c.enter-frame.ensures.known c.requires c.item_at.ensures in
    let long = ap (λ (m : Expanded). length m.equations) is in
    passed_on c.from_residual.result c.in_err-made-in-Some-item.field-0.0 _ _ c.from_residual.ensures.1 (omega (arith, long)) c.in_err-made-in-Some-item.ensures.limit

pub make_rec-returns-clause-limit : goal.make_rec-returns-clause-limit
make_rec-returns-clause-limit t c = c.stands.ensures.limit _

pub make_stmt-returns-in-For-clause-value : goal.make_stmt-returns-in-For-clause-value
make_stmt-returns-in-For-clause-value t c =
    let v = visible_in c.args.items.now c.args.statics.now in
    let e = for_is c.args.stmt.now c.in-For.index c.in-For.low c.in-For.high c.in-For.body c.deref.result.now v (progress_of c.args.begun) c.value_of-from.result c.value_of-to.result c.in-For.is c.deref.ensures.value c.value_of-from.ensures c.value_of-to.ensures in
    subst (λ (z : Progress). IfOk c.make_turns.result (λ p. progress_of p ≡ z)) (sym e) c.make_turns.ensures.value

pub make_turn-returns-in_err-was-clause-value : goal.make_turn-returns-in_err-was-clause-value
make_turn-returns-in_err-was-clause-value t c = IfOk-from_err _ _ c.from_residual.ensures.0

pub make_turn-returns-in_err-was-clause-names : goal.make_turn-returns-in_err-was-clause-names
make_turn-returns-in_err-was-clause-names t c = IfOk-from_err _ _ c.from_residual.ensures.0

pub make_turn-returns-in_err-ended-clause-value : goal.make_turn-returns-in_err-ended-clause-value
make_turn-returns-in_err-ended-clause-value t c = IfOk-from_err _ _ c.from_residual-in_err-ended.ensures.0

pub make_turn-returns-in_err-ended-clause-names : goal.make_turn-returns-in_err-ended-clause-names
make_turn-returns-in_err-ended-clause-names t c = IfOk-from_err _ _ c.from_residual-in_err-ended.ensures.0

pub make_turn-returns-in_err-_turn-clause-value : goal.make_turn-returns-in_err-_turn-clause-value
make_turn-returns-in_err-_turn-clause-value t c = IfOk-from_err _ _ c.from_residual-in_err-_turn.ensures.0

pub make_turn-returns-in_err-_turn-clause-names : goal.make_turn-returns-in_err-_turn-clause-names
make_turn-returns-in_err-_turn-clause-names t c = IfOk-from_err _ _ c.from_residual-in_err-_turn.ensures.0

pub make_rec-returns-in_err-set-clause-value : goal.make_rec-returns-in_err-set-clause-value
make_rec-returns-in_err-set-clause-value t c = IfOk-from_err _ _ c.from_residual.ensures.0

pub make_rec-returns-in_err-set-clause-names : goal.make_rec-returns-in_err-set-clause-names
make_rec-returns-in_err-set-clause-names t c = IfOk-from_err _ _ c.from_residual.ensures.0

pub make_rec-returns-in_err-counted-clause-value : goal.make_rec-returns-in_err-counted-clause-value
make_rec-returns-in_err-counted-clause-value t c = IfOk-from_err _ _ c.from_residual-in_err-counted.ensures.0

pub make_rec-returns-in_err-counted-clause-names : goal.make_rec-returns-in_err-counted-clause-names
make_rec-returns-in_err-counted-clause-names t c = IfOk-from_err _ _ c.from_residual-in_err-counted.ensures.0

pub make_rec-returns-in_err-set-2-clause-value : goal.make_rec-returns-in_err-set-2-clause-value
make_rec-returns-in_err-set-2-clause-value t c = IfOk-from_err _ _ c.from_residual-in_err-set-2.ensures.0

pub make_rec-returns-in_err-set-2-clause-names : goal.make_rec-returns-in_err-set-2-clause-names
make_rec-returns-in_err-set-2-clause-names t c = IfOk-from_err _ _ c.from_residual-in_err-set-2.ensures.0

pub make_rec-returns-in_err-made-clause-value : goal.make_rec-returns-in_err-made-clause-value
make_rec-returns-in_err-made-clause-value t c = IfOk-from_err _ _ c.from_residual-in_err-made.ensures.0

pub make_rec-returns-in_err-made-clause-names : goal.make_rec-returns-in_err-made-clause-names
make_rec-returns-in_err-made-clause-names t c = IfOk-from_err _ _ c.from_residual-in_err-made.ensures.0

pub make_rec-returns-in_err-set-3-clause-value : goal.make_rec-returns-in_err-set-3-clause-value
make_rec-returns-in_err-set-3-clause-value t c = IfOk-from_err _ _ c.from_residual-in_err-set-3.ensures.0

pub make_rec-returns-in_err-set-3-clause-names : goal.make_rec-returns-in_err-set-3-clause-names
make_rec-returns-in_err-set-3-clause-names t c = IfOk-from_err _ _ c.from_residual-in_err-set-3.ensures.0

pub make_rec-returns-in_err-made-2-clause-value : goal.make_rec-returns-in_err-made-2-clause-value
make_rec-returns-in_err-made-2-clause-value t c = IfOk-from_err _ _ c.from_residual-in_err-made-2.ensures.0

pub make_rec-returns-in_err-made-2-clause-names : goal.make_rec-returns-in_err-made-2-clause-names
make_rec-returns-in_err-made-2-clause-names t c = IfOk-from_err _ _ c.from_residual-in_err-made-2.ensures.0

pub make_rec-returns-in_err-made-3-clause-value : goal.make_rec-returns-in_err-made-3-clause-value
make_rec-returns-in_err-made-3-clause-value t c = IfOk-from_err _ _ c.from_residual-in_err-made-3.ensures.0

pub make_rec-returns-in_err-made-3-clause-names : goal.make_rec-returns-in_err-made-3-clause-names
make_rec-returns-in_err-made-3-clause-names t c = IfOk-from_err _ _ c.from_residual-in_err-made-3.ensures.0

pub make_all-returns-in_err-part-clause-value : goal.make_all-returns-in_err-part-clause-value
make_all-returns-in_err-part-clause-value t c = IfOk-from_err _ _ c.from_residual.ensures.0

pub make_all-returns-in_err-part-clause-names : goal.make_all-returns-in_err-part-clause-names
make_all-returns-in_err-part-clause-names t c = IfOk-from_err _ _ c.from_residual.ensures.0

pub call-returns-in_err-made-in-Some-item-clause-value : goal.call-returns-in_err-made-in-Some-item-clause-value
call-returns-in_err-made-in-Some-item-clause-value t c = IfOk-from_err _ _ c.from_residual.ensures.0

pub call-returns-in_err-made-in-Some-item-clause-names : goal.call-returns-in_err-made-in-Some-item-clause-names
call-returns-in_err-made-in-Some-item-clause-names t c = IfOk-from_err _ _ c.from_residual.ensures.0

pub call_item-returns-in_err-begun-in-Function-clause-value : goal.call_item-returns-in_err-begun-in-Function-clause-value
call_item-returns-in_err-begun-in-Function-clause-value t c = IfOk-from_err _ _ c.from_residual.ensures.0

pub call_item-returns-in_err-begun-in-Function-clause-names : goal.call_item-returns-in_err-begun-in-Function-clause-names
call_item-returns-in_err-begun-in-Function-clause-names t c = IfOk-from_err _ _ c.from_residual.ensures.0

pub run-returns-in_err-env-clause-value : goal.run-returns-in_err-env-clause-value
run-returns-in_err-env-clause-value t c = IfOk-from_err _ _ c.from_residual.ensures.0

pub run-returns-in_err-env-clause-names : goal.run-returns-in_err-env-clause-names
run-returns-in_err-env-clause-names t c = IfOk-from_err _ _ c.from_residual.ensures.0

pub make_assigned-returns-in_err-made-clause-value : goal.make_assigned-returns-in_err-made-clause-value
make_assigned-returns-in_err-made-clause-value t c = IfOk-from_err _ _ c.from_residual.ensures.0

pub make_assigned-returns-in_err-made-clause-names : goal.make_assigned-returns-in_err-made-clause-names
make_assigned-returns-in_err-made-clause-names t c = IfOk-from_err _ _ c.from_residual.ensures.0

pub make_stmts-returns-in_err-at-clause-value : goal.make_stmts-returns-in_err-at-clause-value
make_stmts-returns-in_err-at-clause-value t c = IfOk-from_err _ _ c.from_residual.ensures.0

pub make_stmts-returns-in_err-at-clause-names : goal.make_stmts-returns-in_err-at-clause-names
make_stmts-returns-in_err-at-clause-names t c = IfOk-from_err _ _ c.from_residual.ensures.0

pub make_turns-returns-in_err-now-clause-value : goal.make_turns-returns-in_err-now-clause-value
make_turns-returns-in_err-now-clause-value t c = IfOk-from_err _ _ c.from_residual.ensures.0

pub make_turns-returns-in_err-now-clause-names : goal.make_turns-returns-in_err-now-clause-names
make_turns-returns-in_err-now-clause-names t c = IfOk-from_err _ _ c.from_residual.ensures.0

pub make_let-returns-in_err-made-clause-value : goal.make_let-returns-in_err-made-clause-value
make_let-returns-in_err-made-clause-value t c = IfOk-from_err _ _ c.from_residual.ensures.0

pub make_let-returns-in_err-made-clause-names : goal.make_let-returns-in_err-made-clause-names
make_let-returns-in_err-made-clause-names t c = IfOk-from_err _ _ c.from_residual.ensures.0

pub make_body-returns-in_err-made-clause-value : goal.make_body-returns-in_err-made-clause-value
make_body-returns-in_err-made-clause-value t c = IfOk-from_err _ _ c.from_residual.ensures.0

pub make_body-returns-in_err-made-clause-names : goal.make_body-returns-in_err-made-clause-names
make_body-returns-in_err-made-clause-names t c = IfOk-from_err _ _ c.from_residual.ensures.0
