use Rattle.pr_lang.specs.Shape.{fixed_shape}
use Rattle.pr_parse_print.proofs.Puts.{no_put}
use Rattle.pr_parse_print.proofs.Lists.{element_put}
use Rattle.pr_parse_print.proofs.fixed.put_fixed_list.Goals as goal

pub loop-i-init : goal.loop-i-init
loop-i-init c = no_put

pub loop-i-preserved : goal.loop-i-preserved
loop-i-preserved c = element_put fixed_shape c.args.list.now c.loop-i.i c.index-list-i.result c.index-list-i.is c.loop-i-test.true c.loop-i.invariant c.in_ok-put_comma.ensures c.in_ok-put_fixed.ensures
