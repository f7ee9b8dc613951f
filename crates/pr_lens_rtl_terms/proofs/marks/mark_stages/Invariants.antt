use Rattle.std.proofs.Common.{◌≡◌, ◌≤◌, length, map, take}
use Rattle.pr_conf.specs.Configuration.{pes_of}
use Rattle.pr_lens_rtl.specs.Kept.{stages_needed}
use Rattle.pr_lens_rtl_terms.proofs.marks.mark_stages.Given as goal

abbrev pub invariant-loop-left : goal.invariant-loop-left
invariant-loop-left g l = record {
  within : l.left ≤ length l.stages;
  marked : stages_needed l.columns l.registers 0 (map pes_of (take l.left l.stages)) l.marks ≡ stages_needed l.columns l.registers 0 (map pes_of l.stages) l.fn.marks;
}

abbrev pub decreases-loop-left : goal.decreases-loop-left
decreases-loop-left g l = l.left
