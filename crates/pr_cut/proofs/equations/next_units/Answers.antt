use Rattle.std.proofs.Common.{◌≡◌, Bool, false, true, ◌||◌, length, get_or, subst, sym, ap, ◌∙◌, arith}
use Rattle.std.proofs.lemmas.Result.{IfOk-from_err}
use Rattle.std.proofs.lemmas.List.{length-map}
use Rattle.pr_cut_units.specs.Reached.{reached}
use Rattle.pr_cut_cells.specs.Arguments.{argument_of}
use Rattle.pr_cut.specs.Operators.{arguments_of}
use Rattle.pr_flat.specs.Facts.{arity, is_input}
use Rattle.pr_flat.specs.Shape.{EquationShape, equation_shape}
use Rattle.pr_cut_units.proofs.CountNets.{length-arguments}
use Rattle.pr_cut.specs.Sources.{equations_in, plan_in}
use Rattle.pr_cut.proofs.ReadyLemmas.{operands_ready, units_few}
use Rattle.pr_cut.proofs.EquationLemmas.{takes_own, holds_few, rec_not_input}
use Rattle.pr_cut.proofs.equations.next_units.Goals as goal

pub equation_units-requires-clause-count : goal.equation_units-requires-clause-count
equation_units-requires-clause-count c =
    let s = c.args.source.now in
    let number = c.args.turn.now.number in
    let e : EquationShape = equation_shape c.args.turn.now.equation.now in
    let there = c.requires.turn.there in
    let flat = s.flat.now.lawful in
    ap length c.deref.ensures.value ∙ sym (length-map c.in_ok-args.args.items argument_of) ∙ ap length c.in_ok-args.ensures ∙ length-arguments (plan_in s) c.args.values.now e.args e.kinds (arity e.op) (flat.args number e there) (flat.kinds number e there)

pub equation_units-requires-clause-takes : goal.equation_units-requires-clause-takes
equation_units-requires-clause-takes c =
    let s = c.args.source.now in
    let e : EquationShape = equation_shape c.args.turn.now.equation.now in
    λ o. takes_own (equations_in s) s.flat.now.outputs.items s.widths.now c.args.turn.now.number e c.args.values.now (arguments_of c.deref.result.now) c.requires.planned.widths c.requires.turn.there (ap arguments_of c.deref.ensures.value ∙ c.in_ok-args.ensures) o

pub equation_units-requires-clause-holds : goal.equation_units-requires-clause-holds
equation_units-requires-clause-holds c =
    let s = c.args.source.now in
    let number = c.args.turn.now.number in
    let e : EquationShape = equation_shape c.args.turn.now.equation.now in
    let there = c.requires.turn.there in
    let p = c.requires.planned in
    λ r. (let has : (is_input e.op || get_or (reached (equations_in s) s.flat.now.outputs.items) number false) ≡ true = sym c.has_units.ensures ∙ c.if-has_units.true in
    let counts : get_or (reached (equations_in s) s.flat.now.outputs.items) number false ≡ true = subst (λ (b : Bool). (b || get_or (reached (equations_in s) s.flat.now.outputs.items) number false) ≡ true) (rec_not_input e.op r) has in
    let few = holds_few (equations_in s) s.flat.now.outputs.items s.widths.now number e s.flat.now.lawful p.widths p.few there counts r in
    omega (arith, few, p.plan.counts number e there r))

pub equation_units-requires-clause-few : goal.equation_units-requires-clause-few
equation_units-requires-clause-few c =
    let few = units_few (plan_in c.args.source.now) c.args.turn.now.number c.args.units.now.items c.args.values.now c.requires.cut in
    omega (arith, few, c.requires.planned.few)

pub arguments-requires : goal.arguments-requires
arguments-requires c =
    let s = c.args.source.now in
    let number = c.args.turn.now.number in
    let e : EquationShape = equation_shape c.args.turn.now.equation.now in
    let there = c.requires.turn.there in
    let p = c.requires.planned in
    let flat = s.flat.now.lawful in
    record {
      planned = p;
      ready = operands_ready (equations_in s) s.flat.now.outputs.items s.widths.now number c.args.units.now.items c.args.values.now e flat p.widths p.few c.requires.cut there (sym c.has_units.ensures ∙ c.if-has_units.true);
      kinds = omega (arith, flat.args number e there, flat.kinds number e there, c.args.turn.now.equation.now.args.ok.0, c.args.turn.now.equation.now.kinds.ok.0);
    }

pub returns-in_err-args : goal.returns-in_err-args
returns-in_err-args c = let h = c.from_residual.ensures.0 in record { units = IfOk-from_err _ _ h; slices = IfOk-from_err _ _ h }

pub returns-in_err-all : goal.returns-in_err-all
returns-in_err-all c = let h = c.from_residual-in_err-all.ensures.0 in record { units = IfOk-from_err _ _ h; slices = IfOk-from_err _ _ h }
