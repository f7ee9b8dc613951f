use Rattle.std.proofs.Common.{arith}
use Rattle.std.proofs.lemmas.Result.{IfOk-from_err}
use Rattle.pr_place.proofs.Sets.{noted_more}
use Rattle.pr_place.proofs.starts.summary.Goals.{then-ready-group-lt64, else-ready-group-lt64}
use Rattle.pr_place.proofs.starts.summary.Goals as goal

pub loop-group-preserved : goal.loop-group-preserved
loop-group-preserved c = elim c.if-ready-group-lt64.branch [
  | then-ready-group-lt64 w ↦
      (let blocks = c.loop-group.invariant.blocks in
      let long = w.note_class.ensures.long in
      rw w.summary-is (record {
        blocks = omega (arith, blocks, long);
        covered = noted_more c.args.ready.now c.loop-group.summary.items w.note_class.new.sets.items c.loop-group.group w.note_class.ensures.keeps (λ _. (w.note_class.ensures.block, w.note_class.ensures.part)) c.loop-group.invariant.covered;
      }))
  | else-ready-group-lt64 w ↦
      rw w.summary-is (record {
        blocks = c.loop-group.invariant.blocks;
        covered = noted_more c.args.ready.now c.loop-group.summary.items c.loop-group.summary.items c.loop-group.group (λ i k h. h) (λ small. (let high = w.if-ready-group-lt64.false in absurd (omega (arith, small, high)))) c.loop-group.invariant.covered;
      })
]

pub returns-in_err-summary : goal.returns-in_err-summary
returns-in_err-summary c = let h = c.from_residual.ensures.0 in record { blocks = IfOk-from_err _ _ h; covered = IfOk-from_err _ _ h }
