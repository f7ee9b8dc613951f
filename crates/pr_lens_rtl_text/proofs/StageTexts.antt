-- The lines of stages, one more each time.
use Rattle.std.proofs.Common.{ℕ, suc, Bool, List, map}
use Rattle.pr_conf.specs.declared.stages.Stage.{Stage}
use Rattle.pr_conf.specs.Configuration.{pes_of}
use Rattle.pr_lens_rtl.specs.Module.{pes_wires, stage_registers, stages_registers, stages_wires}
use Rattle.pr_lens_rtl_text.specs.declared.lines.Way.{Way}
use Rattle.pr_lens_rtl_text.specs.Notes.{Comments}
use Rattle.pr_lens_rtl_text.specs.Printed.{kept_text}
use Rattle.pr_lens_rtl_text.proofs.TextLemmas.{text_both, text_none}
use Rattle.pr_lens_rtl_terms.proofs.WalkLemmas.{Walks}

pub registers_walk : (note : Comments) (way : Way) (marks : List Bool) (K N P : ℕ)
    → Walks {X = Stage K} {Y = ℕ} (λ i xs. kept_text note way marks (stages_registers N P i (map pes_of xs))) (λ i x. kept_text note way marks (stage_registers N P i (pes_of x)))
registers_walk note way marks K N P = record {
  none = λ i. text_none note way marks;
  more = λ i x xs. text_both note way marks (stage_registers N P i (pes_of x)) (stages_registers N P (suc i) (map pes_of xs));
}

pub wires_walk : (note : Comments) (way : Way) (marks : List Bool) (K N : ℕ)
    → Walks {X = Stage K} {Y = ℕ} (λ i xs. kept_text note way marks (stages_wires N i (map pes_of xs))) (λ i x. kept_text note way marks (pes_wires N i 0 (pes_of x)))
wires_walk note way marks K N = record {
  none = λ i. text_none note way marks;
  more = λ i x xs. text_both note way marks (pes_wires N i 0 (pes_of x)) (stages_wires N (suc i) (map pes_of xs));
}
