use Rattle.std.proofs.Common.{◌≡◌, ◌∙◌}
use Rattle.pr_cut_units.specs.Counts.{product_count}
use Rattle.pr_cut_units.proofs.CountTable.{takes_product}
use Rattle.pr_cutmul.proofs.rows.rows_of.Goals as goal

pub returns-clause-is : goal.returns-clause-is
returns-clause-is c = λ a b u.
    (let e : product_count c.args.bits c.args.wa c.args.wb ≡ c.product_count.result = cc (c.product_count.ensures.is, c.from.ensures, c.from-2.ensures, c.from-3.ensures) in
    (takes_product c.args.bits a c.args.wa b c.args.wb).at u ∙ e)
