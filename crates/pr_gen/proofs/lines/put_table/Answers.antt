use Rattle.std.proofs.Common.{arith, append_assoc}
use Rattle.pr_gen.proofs.TextsLemmas.{table_text-one, table_text-more}
use Rattle.pr_gen.proofs.lines.put_table.Goals as goal

pub loop-i-init : goal.loop-i-init
loop-i-init c = rw table_text-one c.in_ok-put_entry.ensures

pub loop-i-preserved : goal.loop-i-preserved
loop-i-preserved c =
    let more = table_text-more c.loop-i.i (omega arith) in
    rw more (grind (arith, append_assoc))
