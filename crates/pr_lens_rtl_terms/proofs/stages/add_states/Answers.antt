use Rattle.std.proofs.Common.{◌∷◌, [], arith, refl}
use Rattle.pr_lens_rtl.specs.Module.{state_register, state_registers}
use Rattle.pr_lens_rtl_terms.specs.Terms.{assigns_of}
use Rattle.pr_lens_rtl_terms.proofs.StageLemmas.{states_walk}
use Rattle.pr_lens_rtl_terms.proofs.WalkLemmas.{walk_done, walk_more}
use Rattle.pr_lens_rtl_terms.proofs.stages.add_states.Goals as goal

pub loop-col-preserved : goal.loop-col-preserved
loop-col-preserved c =
    rw (c.in_ok-add.ensures, c.state_line.ensures)
    (walk_more (λ i xs. state_registers c.args.stage i xs) (λ i x. state_register c.args.stage i x ∷ []) (states_walk c.args.stage)
    (assigns_of c.loop-col.lines.items) _ c.args.pes.now c.loop-col.col _ _ c.loop-col-test.true refl c.loop-col.invariant)

pub returns : goal.returns
returns c =
    walk_done (λ i xs. state_registers c.args.stage i xs) (λ i x. state_register c.args.stage i x ∷ []) (states_walk c.args.stage)
    (assigns_of c.loop-col.lines.items) _ c.args.pes.now c.loop-col.col (omega arith) c.loop-col.invariant
