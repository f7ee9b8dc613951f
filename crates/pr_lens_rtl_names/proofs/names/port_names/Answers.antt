use Rattle.pr_lens_rtl_names.proofs.NameLemmas.{names_more}
use Rattle.pr_lens_rtl_names.proofs.names.port_names.Goals as goal

pub loop-item-preserved : goal.loop-item-preserved
loop-item-preserved c = rw c.in_ok-add_name.ensures (names_more c.args.side c.args.items.now c.loop-item.item-index _ c.item-item.result _ c.loop-item-test.true c.item-item.is c.loop-item.invariant)
