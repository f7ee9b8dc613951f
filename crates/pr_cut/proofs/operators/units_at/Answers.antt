use Rattle.std.proofs.Common.{◌≡◌, List, ◌++◌, length, subst, sym, ◌∙◌, arith}
use Rattle.std.proofs.lemmas.Result.{IfOk-from_err}
use Rattle.pr_flat.specs.declared.equations.Op.{Op}
use Rattle.pr_cut_units.specs.Widening.{Argument}
use Rattle.pr_cut_units.specs.Table.{units_at}
use Rattle.pr_cut.specs.Operators.{arguments_of}
use Rattle.pr_cut.proofs.ItemLemmas.{one_argument, two_arguments, three_arguments, is_choice}
use Rattle.pr_cut.proofs.operators.units_at.Goals as goal

pub returns-in_ok-all-in-len1-clause-slices : goal.returns-in_ok-all-in-len1-clause-slices
returns-in_ok-all-in-len1-clause-slices c =
    let one = one_argument c.args.args.now c.a-item.result (omega (arith, c.in-len1)) c.a-item.is in
    subst (λ (xs : List Argument). c.in_ok-all-in-len1.all.items ≡ (units_at c.args.w c.args.op xs (length c.args.units.now.items)).slices) (sym one) c.in_ok-all-in-len1.ensures.slices

pub returns-in_ok-all-in-len2-clause-slices : goal.returns-in_ok-all-in-len2-clause-slices
returns-in_ok-all-in-len2-clause-slices c =
    let two = two_arguments c.args.args.now c.a-item-then-args-lt3.result c.b-item.result (omega (arith, c.in-len2)) c.a-item-then-args-lt3.is c.b-item.is in
    subst (λ (xs : List Argument). c.in_ok-all-in-len2.all.items ≡ (units_at c.args.w c.args.op xs (length c.args.units.now.items)).slices) (sym two) c.in_ok-all-in-len2.ensures.slices

pub returns-in_ok-all-in-len3-clause-units : goal.returns-in_ok-all-in-len3-clause-units
returns-in_ok-all-in-len3-clause-units c =
    let three = three_arguments c.args.args.now c.c-item.result c.a-item-then-args-lt4.result c.b-item-then-args-lt4.result (omega (arith, c.in-len3)) c.c-item.is c.a-item-then-args-lt4.is c.b-item-then-args-lt4.is in
    let op : c.args.op ≡ Op.Choose = is_choice c.args.op (sym c.requires.count ∙ omega (arith, c.in-len3)) in
    subst (λ (o : Op). c.units_choice.new.units.items ≡ c.args.units.now.items ++ (units_at c.args.w o (arguments_of c.args.args.now) (length c.args.units.now.items)).units) (sym op)
    (subst (λ (xs : List Argument). c.units_choice.new.units.items ≡ c.args.units.now.items ++ (units_at c.args.w Op.Choose xs (length c.args.units.now.items)).units) (sym three) c.in_ok-all-in-len3.ensures.units)

pub returns-in_ok-all-in-len3-clause-slices : goal.returns-in_ok-all-in-len3-clause-slices
returns-in_ok-all-in-len3-clause-slices c =
    let three = three_arguments c.args.args.now c.c-item.result c.a-item-then-args-lt4.result c.b-item-then-args-lt4.result (omega (arith, c.in-len3)) c.c-item.is c.a-item-then-args-lt4.is c.b-item-then-args-lt4.is in
    let op : c.args.op ≡ Op.Choose = is_choice c.args.op (sym c.requires.count ∙ omega (arith, c.in-len3)) in
    subst (λ (o : Op). c.in_ok-all-in-len3.all.items ≡ (units_at c.args.w o (arguments_of c.args.args.now) (length c.args.units.now.items)).slices) (sym op)
    (subst (λ (xs : List Argument). c.in_ok-all-in-len3.all.items ≡ (units_at c.args.w Op.Choose xs (length c.args.units.now.items)).slices) (sym three) c.in_ok-all-in-len3.ensures.slices)

pub returns-in_err-all-in-len1 : goal.returns-in_err-all-in-len1
returns-in_err-all-in-len1 c = let h = c.from_residual.ensures.0 in record { units = IfOk-from_err _ _ h; slices = IfOk-from_err _ _ h }

pub returns-in_err-all-in-len2 : goal.returns-in_err-all-in-len2
returns-in_err-all-in-len2 c = let h = c.from_residual-in_err-all-in-len2.ensures.0 in record { units = IfOk-from_err _ _ h; slices = IfOk-from_err _ _ h }

pub returns-in_err-all-in-len3 : goal.returns-in_err-all-in-len3
returns-in_err-all-in-len3 c = let h = c.from_residual-in_err-all-in-len3.ensures.0 in record { units = IfOk-from_err _ _ h; slices = IfOk-from_err _ _ h }
