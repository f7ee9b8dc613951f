use Rattle.std.proofs.Common.{arith, [], ◌∷◌, Some, sym, ◌∙◌, ap}
use Rattle.std.specs.Option.{option_map}
use Rattle.pr_flat.specs.Values.{operator_number}
use Rattle.pr_width.proofs.OperandLemmas.{arity-le}
use Rattle.pr_narrow.proofs.BodyLemmas.{points_none, points_one, points_three, points_two, steady_some, takes_known}
use Rattle.pr_narrow.proofs.known.number_by.Goals as goal

pub returns-in_err-first : goal.returns-in_err-first
returns-in_err-first c = let some = steady_some c.args.equation.now.op c.requires.steady in let few = arity-le c.args.equation.now.op in c.from_residual.ensures ∙ ap (option_map (operator_number c.args.width.bits c.args.equation.now.op)) (sym (points_none c.args.widths.now c.args.known.now c.args.equation.now.args.items c.args.equation.now.kinds.items 0 (omega (arith, some, few, c.args.equation.now.args.ok.0, c.requires.args)) (omega (arith, some, few, c.args.equation.now.args.ok.0, c.args.equation.now.kinds.ok.0, c.requires.args, c.requires.kinds)) c.in_err-first.ensures.point))

pub operate-requires-clause-takes : goal.operate-requires-clause-takes
operate-requires-clause-takes c = let some = steady_some c.args.equation.now.op c.requires.steady in let few = arity-le c.args.equation.now.op in takes_known c.args.widths.now c.args.known.now c.args.equation.now.op c.args.equation.now.args.items c.args.equation.now.kinds.items (c.in_ok-first.first ∷ []) (omega (arith, c.args.equation.now.args.ok.0, c.args.equation.now.kinds.ok.0, c.requires.args, c.requires.kinds)) (points_one c.args.widths.now c.args.known.now c.args.equation.now.args.items c.args.equation.now.kinds.items c.in_ok-first.first (omega (arith, some, few, c.args.equation.now.args.ok.0, c.requires.args, c.len.ensures, c.if-len-eq1.true)) (omega (arith, some, few, c.args.equation.now.args.ok.0, c.args.equation.now.kinds.ok.0, c.requires.args, c.requires.kinds, c.len.ensures, c.if-len-eq1.true)) c.in_ok-first.ensures.point) c.requires.takes

pub returns-then-len-eq1 : goal.returns-then-len-eq1
returns-then-len-eq1 c = let some = steady_some c.args.equation.now.op c.requires.steady in let few = arity-le c.args.equation.now.op in ap Some c.operate.ensures ∙ ap (option_map (operator_number c.args.width.bits c.args.equation.now.op)) (sym (points_one c.args.widths.now c.args.known.now c.args.equation.now.args.items c.args.equation.now.kinds.items c.in_ok-first.first (omega (arith, some, few, c.args.equation.now.args.ok.0, c.requires.args, c.len.ensures, c.if-len-eq1.true)) (omega (arith, some, few, c.args.equation.now.args.ok.0, c.args.equation.now.kinds.ok.0, c.requires.args, c.requires.kinds, c.len.ensures, c.if-len-eq1.true)) c.in_ok-first.ensures.point))

pub returns-in_err-second : goal.returns-in_err-second
returns-in_err-second c = let some = steady_some c.args.equation.now.op c.requires.steady in let few = arity-le c.args.equation.now.op in c.from_residual-in_err-second.ensures ∙ ap (option_map (operator_number c.args.width.bits c.args.equation.now.op)) (sym (points_none c.args.widths.now c.args.known.now c.args.equation.now.args.items c.args.equation.now.kinds.items 1 (omega (arith, some, few, c.args.equation.now.args.ok.0, c.requires.args, c.len.ensures, c.if-len-eq1.false)) (omega (arith, some, few, c.args.equation.now.args.ok.0, c.args.equation.now.kinds.ok.0, c.requires.args, c.requires.kinds, c.len.ensures, c.if-len-eq1.false)) c.in_err-second.ensures.point))

pub returns-then-len-eq2 : goal.returns-then-len-eq2
returns-then-len-eq2 c = let some = steady_some c.args.equation.now.op c.requires.steady in let few = arity-le c.args.equation.now.op in ap Some c.operate-then-len-eq2.ensures ∙ ap (option_map (operator_number c.args.width.bits c.args.equation.now.op)) (sym (points_two c.args.widths.now c.args.known.now c.args.equation.now.args.items c.args.equation.now.kinds.items c.in_ok-first.first c.in_ok-second.second (omega (arith, some, few, c.args.equation.now.args.ok.0, c.requires.args, c.len.ensures, c.if-len-eq1.false, c.len-2.ensures, c.if-len-eq2.true)) (omega (arith, some, few, c.args.equation.now.args.ok.0, c.args.equation.now.kinds.ok.0, c.requires.args, c.requires.kinds, c.len.ensures, c.if-len-eq1.false, c.len-2.ensures, c.if-len-eq2.true)) c.in_ok-first.ensures.point c.in_ok-second.ensures.point))

pub returns-in_err-third : goal.returns-in_err-third
returns-in_err-third c = let some = steady_some c.args.equation.now.op c.requires.steady in let few = arity-le c.args.equation.now.op in c.from_residual-in_err-third.ensures ∙ ap (option_map (operator_number c.args.width.bits c.args.equation.now.op)) (sym (points_none c.args.widths.now c.args.known.now c.args.equation.now.args.items c.args.equation.now.kinds.items 2 (omega (arith, some, few, c.args.equation.now.args.ok.0, c.requires.args, c.len.ensures, c.if-len-eq1.false, c.len-2.ensures, c.if-len-eq2.false)) (omega (arith, some, few, c.args.equation.now.args.ok.0, c.args.equation.now.kinds.ok.0, c.requires.args, c.requires.kinds, c.len.ensures, c.if-len-eq1.false, c.len-2.ensures, c.if-len-eq2.false)) c.in_err-third.ensures.point))

pub operate-requires-2-clause-takes : goal.operate-requires-2-clause-takes
operate-requires-2-clause-takes c = let some = steady_some c.args.equation.now.op c.requires.steady in let few = arity-le c.args.equation.now.op in takes_known c.args.widths.now c.args.known.now c.args.equation.now.op c.args.equation.now.args.items c.args.equation.now.kinds.items (c.in_ok-first.first ∷ c.in_ok-second.second ∷ c.in_ok-third.third ∷ []) (omega (arith, c.args.equation.now.args.ok.0, c.args.equation.now.kinds.ok.0, c.requires.args, c.requires.kinds)) (points_three c.args.widths.now c.args.known.now c.args.equation.now.args.items c.args.equation.now.kinds.items c.in_ok-first.first c.in_ok-second.second c.in_ok-third.third (omega (arith, some, few, c.args.equation.now.args.ok.0, c.requires.args, c.len.ensures, c.if-len-eq1.false, c.len-2.ensures, c.if-len-eq2.false)) (omega (arith, some, few, c.args.equation.now.args.ok.0, c.args.equation.now.kinds.ok.0, c.requires.args, c.requires.kinds, c.len.ensures, c.if-len-eq1.false, c.len-2.ensures, c.if-len-eq2.false)) c.in_ok-first.ensures.point c.in_ok-second.ensures.point c.in_ok-third.ensures.point) c.requires.takes

pub returns : goal.returns
returns c = let some = steady_some c.args.equation.now.op c.requires.steady in let few = arity-le c.args.equation.now.op in ap Some c.operate-2.ensures ∙ ap (option_map (operator_number c.args.width.bits c.args.equation.now.op)) (sym (points_three c.args.widths.now c.args.known.now c.args.equation.now.args.items c.args.equation.now.kinds.items c.in_ok-first.first c.in_ok-second.second c.in_ok-third.third (omega (arith, some, few, c.args.equation.now.args.ok.0, c.requires.args, c.len.ensures, c.if-len-eq1.false, c.len-2.ensures, c.if-len-eq2.false)) (omega (arith, some, few, c.args.equation.now.args.ok.0, c.args.equation.now.kinds.ok.0, c.requires.args, c.requires.kinds, c.len.ensures, c.if-len-eq1.false, c.len-2.ensures, c.if-len-eq2.false)) c.in_ok-first.ensures.point c.in_ok-second.ensures.point c.in_ok-third.ensures.point))
