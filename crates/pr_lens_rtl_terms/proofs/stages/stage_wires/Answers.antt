use Rattle.std.proofs.Common.{arith, refl}
use Rattle.pr_lens_rtl.specs.Module.{pe_wires, pes_wires}
use Rattle.pr_lens_rtl_terms.specs.Terms.{assigns_of}
use Rattle.pr_lens_rtl_terms.proofs.StageLemmas.{pes_walk}
use Rattle.pr_lens_rtl_terms.proofs.WalkLemmas.{walk_done, walk_more}
use Rattle.pr_lens_rtl_terms.proofs.stages.stage_wires.Goals as goal

pub loop-col-preserved : goal.loop-col-preserved
loop-col-preserved c =
    rw c.in_ok-add_element.ensures
    (walk_more (λ i xs. pes_wires c.args.columns c.args.stage i xs) (λ i x. pe_wires c.args.columns c.args.stage i x) (pes_walk c.args.columns c.args.stage)
    (assigns_of c.loop-col.lines.items) _ c.args.pes.now c.loop-col.col _ _ c.loop-col-test.true refl c.loop-col.invariant)

pub returns : goal.returns
returns c =
    walk_done (λ i xs. pes_wires c.args.columns c.args.stage i xs) (λ i x. pe_wires c.args.columns c.args.stage i x) (pes_walk c.args.columns c.args.stage)
    (assigns_of c.loop-col.lines.items) _ c.args.pes.now c.loop-col.col (omega arith) c.loop-col.invariant
