use Rattle.std.proofs.Common.{◌≡◌, true, take}
use Rattle.std.specs.List.{list_all}
use Rattle.pr_conf.specs.declared.stages.Stage.{Stage}
use Rattle.pr_code.specs.Spelling.{has_pe_bytes}
use Rattle.pr_lens_rtl_text.proofs.bytes.see_stages.Given as goal

abbrev pub invariant-loop-stage : goal.invariant-loop-stage
invariant-loop-stage g l = list_all (λ (s : Stage g.row.N). list_all has_pe_bytes s.pes.items) (take l.stage-index l.stages) ≡ true
