use Rattle.std.proofs.Common.{◌≡◌, List, arith, get_or, subst}
use Rattle.pr_flat.specs.declared.equations.Equation.{Equation}
use Rattle.pr_lens_shares.proofs.CountLemmas.{inputs_step}
use Rattle.pr_lens_shares.proofs.owners.put_inputs.Goals as goal

pub loop-number-preserved : goal.loop-number-preserved
loop-number-preserved c =
    let loop = c.loop-number in
    let e = c.equation-item.result in
    let es = c.args.flat.now.equations.items in
    let there : e ≡ get_or es loop.number e = subst (λ (l : List Equation). e ≡ get_or l loop.number e) c.deref-equation-items.ensures.value c.equation-item.is in
    inputs_step c.args.operands.now es loop.number e loop.owners.items c.put_input.new.owners.items _ (omega arith) there c.in_ok-put_input.ensures loop.invariant
