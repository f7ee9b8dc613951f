use Rattle.std.proofs.Common.{◌≡◌, ◌++◌, ◌+◌, ◌∷◌, [], ◌∙◌, arith, refl, ap}
use Rattle.pr_lens_rtl.specs.declared.vectors.Part.{Part}
use Rattle.pr_lens_rtl.specs.declared.vectors.Net.{Net}
use Rattle.pr_lens_rtl.specs.Module.{enabled, passed_expr, passed_registers}
use Rattle.pr_lens_rtl_terms.specs.Terms.{assigns_of}
use Rattle.pr_lens_rtl_terms.proofs.StageLemmas.{bank_walk}
use Rattle.pr_lens_rtl_terms.proofs.WalkLemmas.{walk_done, walk_more}
use Rattle.pr_lens_rtl_terms.proofs.stages.add_bank.Goals as goal

pub loop-col-preserved : goal.loop-col-preserved
loop-col-preserved c =
    rw (c.in_ok-add.ensures, c.row_line.ensures)
    (walk_more (λ i xs. passed_registers c.args.stage c.args.reg i (c.args.place + i) xs)
    (λ i x. enabled (Net.Of Part.Row c.args.stage (c.args.place + i)) (passed_expr c.args.stage c.args.reg i (c.args.place + i) x) ∷ []) (bank_walk c.args.stage c.args.reg c.args.place)
    (assigns_of c.loop-col.lines.items) _ c.args.pes.now c.loop-col.col _ _ c.loop-col-test.true refl c.loop-col.invariant)

pub returns : goal.returns
returns c =
    walk_done (λ i xs. passed_registers c.args.stage c.args.reg i (c.args.place + i) xs)
    (λ i x. enabled (Net.Of Part.Row c.args.stage (c.args.place + i)) (passed_expr c.args.stage c.args.reg i (c.args.place + i) x) ∷ []) (bank_walk c.args.stage c.args.reg c.args.place)
    (assigns_of c.loop-col.lines.items) _ c.args.pes.now c.loop-col.col (omega arith) c.loop-col.invariant
    ∙ ap (λ n. assigns_of c.args.lines.now.items ++ passed_registers c.args.stage c.args.reg 0 n c.args.pes.now) (let e : c.args.place + 0 ≡ c.args.place = omega arith in e)
