use Rattle.std.proofs.Common.{◌≡◌, ◌∙◌, true, None, ap, sym, rules}
use Rattle.std.proofs.lemmas.Bool.{cond-true}
use Rattle.pr_scope_names.specs.Amounts.{Amount}
use Rattle.pr_scope_names.specs.Names.{known_in}
use Rattle.pr_scope.specs.Expressions.{is_shift, reading}
use Rattle.pr_scope.proofs.Walks.{reading_amount}
use Rattle.pr_scope.proofs.expressions.shift_amount.Goals as goal

pub returns-then-shifts : goal.returns-then-shifts
returns-then-shifts c =
    let shift : is_shift c.args.op ≡ true = search rules in
    c.amount.ensures ∙
    (ap (λ (f : Amount). f (known_in c.args.statics.now)) (sym (reading_amount c.args.right.now)) ∙
    sym (cond-true (is_shift c.args.op) ((reading c.args.right.now).amount (known_in c.args.statics.now)) None shift))
