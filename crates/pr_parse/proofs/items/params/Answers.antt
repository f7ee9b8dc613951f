use Rattle.std.proofs.Common.{[], ◌∷◌, refl, sym, ap, ◌∙◌}
use Rattle.std.proofs.lemmas.Result.{IfOk-weaker}
use Rattle.pr_lang.specs.Grammar.{Params}
use Rattle.pr_lang.specs.Tree as tree
use Rattle.pr_parse.proofs.Begins.{begins_then_param}
use Rattle.pr_parse.proofs.Steps.{begun, open_rule, open_then, absent, made, maybe_list}
use Rattle.pr_parse.specs.Kinds.{starts_param}
use Rattle.pr_parse.proofs.Steps.{maybe_list_passed}
use Rattle.pr_parse.proofs.items.params.Goals as goal

pub returns-then-not-begins_param-clause-ok : goal.returns-then-not-begins_param-clause-ok
returns-then-not-begins_param-clause-ok c = rw c.new.ensures.items (absent (begins_then_param _ c.args.text.now c.args.tokens.now ∙ ap starts_param (sym c.next_kind.ensures) ∙ sym c.begins_param.ensures ∙ c.if-not-begins_param.true) (made (tree.none ∷ []) (λ ts. refl) (open_then (open_rule begun))))

pub returns-clause-ok : goal.returns-clause-ok
returns-clause-ok c = IfOk-weaker _ _ _ (λ x r. maybe_list (begins_then_param _ c.args.text.now c.args.tokens.now ∙ ap starts_param (sym c.next_kind.ensures) ∙ sym c.begins_param.ensures ∙ c.if-not-begins_param.false) r) c.some_params.ensures.ok

pub returns-clause-err : goal.returns-clause-err
returns-clause-err c = maybe_list_passed Params c.args.text.now c.args.tokens.now c.some_params.result (begins_then_param _ c.args.text.now c.args.tokens.now ∙ ap starts_param (sym c.next_kind.ensures) ∙ sym c.begins_param.ensures ∙ c.if-not-begins_param.false) c.some_params.ensures.err
