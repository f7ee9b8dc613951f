use Rattle.std.proofs.Common.{◌≡◌, ◌∙◌, ap, ap₂, sym, map}
use Rattle.std.proofs.lemmas.Result.{IfOk-from_err, on_ok_weaker}
use Rattle.pr_lang.specs.Tree as tree
use Rattle.pr_lang.specs.Is.{name_tree, number_tree}
use Rattle.pr_lang.specs.Shape.{expr_shape, fixed_shape, param_shape, stmt_shape, item_shape, width_tree, listed, comma_listed}
use Rattle.pr_parse_print.proofs.Puts.{then_put, word_put, shaped}
use Rattle.pr_parse_print.proofs.items.put_item.Goals as goal

pub returns-in_ok-put_width-in-Input : goal.returns-in_ok-put_width-in-Input
returns-in_ok-put_width-in-Input c =
    let e : item_shape c.args.item.now ≡ tree.input (name_tree c.in-Input.name) (number_tree c.in-Input.width) = ap item_shape c.in-Input.is in
    on_ok_weaker c.put_symbol.result (λ h. shaped e (then_put c.in_ok-put_named-in-Input.ensures (then_put c.in_ok-put_width-in-Input.ensures h))) c.put_symbol.ensures

pub returns-in_ok-put_width-in-Output : goal.returns-in_ok-put_width-in-Output
returns-in_ok-put_width-in-Output c =
    let e : item_shape c.args.item.now ≡ tree.output (name_tree c.in-Output.name) (width_tree c.in-Output.width) (expr_shape c.in-Output.value) = ap item_shape c.in-Output.is in
    on_ok_weaker c.put_value.result (λ h. shaped e (then_put c.in_ok-put_named-in-Output.ensures (then_put c.in_ok-put_width-in-Output.ensures h))) c.put_value.ensures

pub returns-in_ok-put_fixed-in-Const : goal.returns-in_ok-put_fixed-in-Const
returns-in_ok-put_fixed-in-Const c =
    let e : item_shape c.args.item.now ≡ tree.const (name_tree c.in-Const.name) (fixed_shape c.in-Const.value) = ap item_shape c.in-Const.is in
    on_ok_weaker c.put_symbol-in-Const-2.result (λ h. shaped e (then_put c.in_ok-put_named-in-Const.ensures (word_put c.in_ok-put_symbol-in-Const.ensures (then_put c.in_ok-put_fixed-in-Const.ensures h)))) c.put_symbol-in-Const-2.ensures

pub returns-in-Table : goal.returns-in-Table
returns-in-Table c =
    let e : item_shape c.args.item.now ≡ tree.const (name_tree c.in-Table.name) (tree.table (comma_listed (map fixed_shape c.deref.result.now))) = ap item_shape c.in-Table.is ∙ ap (λ l. tree.const (name_tree c.in-Table.name) (tree.table (comma_listed (map fixed_shape l)))) (sym c.deref.ensures.value) in
    on_ok_weaker c.put_table.result (λ h. shaped e h) c.put_table.ensures

pub returns-in-Function : goal.returns-in-Function
returns-in-Function c =
    let e : item_shape c.args.item.now ≡ tree.function (name_tree c.in-Function.name) (comma_listed (map param_shape c.deref-in-Function.result.now)) (width_tree c.in-Function.width) (listed (map stmt_shape c.deref-in-Function-2.result.now)) (expr_shape c.in-Function.result) = ap item_shape c.in-Function.is ∙ ap₂ (λ ps b. tree.function (name_tree c.in-Function.name) (comma_listed (map param_shape ps)) (width_tree c.in-Function.width) (listed (map stmt_shape b)) (expr_shape c.in-Function.result)) (sym c.deref-in-Function.ensures.value) (sym c.deref-in-Function-2.ensures.value) in
    on_ok_weaker c.put_function.result (λ h. shaped e h) c.put_function.ensures

pub returns-in_err-put_named-in-Input : goal.returns-in_err-put_named-in-Input
returns-in_err-put_named-in-Input c = IfOk-from_err _ _ c.from_residual.ensures.0

pub returns-in_err-put_width-in-Input : goal.returns-in_err-put_width-in-Input
returns-in_err-put_width-in-Input c = IfOk-from_err _ _ c.from_residual-in_err-put_width-in-Input.ensures.0

pub returns-in_err-put_named-in-Output : goal.returns-in_err-put_named-in-Output
returns-in_err-put_named-in-Output c = IfOk-from_err _ _ c.from_residual-in_err-put_named-in-Output.ensures.0

pub returns-in_err-put_width-in-Output : goal.returns-in_err-put_width-in-Output
returns-in_err-put_width-in-Output c = IfOk-from_err _ _ c.from_residual-in_err-put_width-in-Output.ensures.0

pub returns-in_err-put_named-in-Const : goal.returns-in_err-put_named-in-Const
returns-in_err-put_named-in-Const c = IfOk-from_err _ _ c.from_residual-in_err-put_named-in-Const.ensures.0

pub returns-in_err-put_symbol-in-Const : goal.returns-in_err-put_symbol-in-Const
returns-in_err-put_symbol-in-Const c = IfOk-from_err _ _ c.from_residual-in_err-put_symbol-in-Const.ensures.0

pub returns-in_err-put_fixed-in-Const : goal.returns-in_err-put_fixed-in-Const
returns-in_err-put_fixed-in-Const c = IfOk-from_err _ _ c.from_residual-in_err-put_fixed-in-Const.ensures.0
