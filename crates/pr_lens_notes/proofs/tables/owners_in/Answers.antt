use Rattle.std.proofs.Common.{◌∙◌, arith, rules}
use Rattle.std.proofs.lemmas.Nat.{mul-add-lt}
use Rattle.pr_lens_notes.proofs.TableLemmas.{one_more}
use Rattle.pr_lens_notes.proofs.tables.owners_in.Goals as goal

pub loop-unit-preserved : goal.loop-unit-preserved
loop-unit-preserved c = record {
  long = c.put_unit.ensures.long ∙ c.loop-unit.invariant.long;
  owned = λ stage col below low.
      one_more c.args.placement.now c.args.owners.now c.loop-unit.unit stage col c.index.result.now (omega arith) (search rules) c.owner_at.ensures (c.loop-unit.invariant.owned stage col below low)
      (c.put_unit.ensures.put stage col low (omega (arith, mul-add-lt stage c.args.columns col c.args.placement.now.stages below low, c.loop-unit.invariant.long)));
}
