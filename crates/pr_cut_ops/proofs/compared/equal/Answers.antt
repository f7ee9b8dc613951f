use Rattle.pr_cut_ops.proofs.compared.equal.Goals as goal

pub returns : goal.returns
returns c = rw c.compared_width-m.ensures.width at c.both_equal.ensures
