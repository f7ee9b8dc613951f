use Rattle.std.proofs.Common.{◌-◌, arith}
use Rattle.pr_lens_rtl_names.proofs.NameLemmas.{stem_empty, stem_found, stem_more}
use Rattle.pr_lens_rtl_names.proofs.names.stem.Goals as goal
use Rattle.pr_lens_rtl_names.proofs.names.stem.Goals.{then-loop-end-test+else-name-end-eq95, else-loop-end-test}

pub loop-end-preserved : goal.loop-end-preserved
loop-end-preserved c = record {
  within = omega (arith, c.loop-end.invariant.within);
  same = stem_more c.args.name.now _ c.loop-end.end (c.loop-end.end - 1) _ (omega (arith, c.loop-end-test.true)) c.loop-end.invariant.within c.if-name-end-eq95.true c.loop-end.invariant.same;
}

pub returns : goal.returns
returns c = elim c.loop-end-test.branch [
  | then-loop-end-test+else-name-end-eq95 w ↦ stem_found c.args.name.now c.loop-end.end (c.loop-end.end - 1) _ (omega (arith, w.loop-end-test.true)) c.loop-end.invariant.within w.if-name-end-eq95.false c.loop-end.invariant.same
  | else-loop-end-test w ↦ stem_empty c.args.name.now c.loop-end.end w.loop-end-test.false c.loop-end.invariant.same
]
