use Rattle.std.proofs.Common.{get_or, ap, sym, ◌∙◌, arith}
use Rattle.std.specs.List.{list_all}
use Rattle.std.proofs.lemmas.List.{get_or_default, take_all}
use Rattle.pr_flat.specs.declared.equations.Operand.TheVariants.{Const}
use Rattle.pr_source.specs.Keeping.{is_near}
use Rattle.pr_source.proofs.Whole.{all_more, all_parts, max_of, most_within}
use Rattle.pr_source.proofs.evaluator.slots_of_operands.Goals as goal

pub loop-operand-preserved : goal.loop-operand-preserved
loop-operand-preserved c =
    let operands = c.args.operands.now in
    let i = c.loop-operand.operand-index in
    let m = max_of c.loop-operand.slots c.slots_of_operand.result c.max-slots.result c.max-slots.ensures in
    let a = get_or operands i (Const 0) in
    record {
      some = omega (arith, c.slots_of_operand.ensures.some, m);
      least = λ n one all. (let p = all_parts (is_near n) operands i a (omega arith) (get_or_default operands i (Const 0) a (omega arith)) all in most_within c.loop-operand.slots c.slots_of_operand.result c.max-slots.result n c.max-slots.ensures (c.loop-operand.invariant.least n one p.0) (c.slots_of_operand.ensures.least n one p.1));
      near = λ n more. all_more (is_near n) operands i a (omega arith) (get_or_default operands i (Const 0) a (omega arith)) (c.loop-operand.invariant.near n (omega (arith, m, more))) (c.slots_of_operand.ensures.near n (omega (arith, m, more)));
    }

pub returns-clause-near : goal.returns-clause-near
returns-clause-near c n more =
    let operands = c.args.operands.now in
    ap (list_all (is_near n)) (sym (take_all c.loop-operand.operand-index operands (omega arith))) ∙ c.loop-operand.invariant.near n more

pub returns-clause-least : goal.returns-clause-least
returns-clause-least c n one all =
    let operands = c.args.operands.now in
    c.loop-operand.invariant.least n one (ap (list_all (is_near n)) (take_all c.loop-operand.operand-index operands (omega arith)) ∙ all)
