use Rattle.std.proofs.Common.{◌≡◌, ◌++◌, ◌+◌, ◌∷◌, [], ◌∙◌, arith, refl, ap}
use Rattle.pr_lens_rtl.specs.Module.{tap_wires}
use Rattle.pr_lens_rtl_terms.specs.Terms.{assigns_of, out_wire}
use Rattle.pr_lens_rtl_terms.proofs.StageLemmas.{taps_walk}
use Rattle.pr_lens_rtl_terms.proofs.WalkLemmas.{walk_done, walk_more}
use Rattle.pr_lens_rtl_terms.proofs.edges.add_output.Goals as goal

pub loop-i-preserved : goal.loop-i-preserved
loop-i-preserved c =
    rw (c.in_ok-add.ensures, c.out_line.ensures)
    (walk_more (λ i xs. tap_wires c.args.columns c.args.last (c.args.place + i) xs) (λ i x. out_wire c.args.columns c.args.last (c.args.place + i) x ∷ []) (taps_walk c.args.columns c.args.last c.args.place)
    (assigns_of c.loop-i.lines.items) _ c.args.taps.now c.loop-i.i _ _ c.loop-i-test.true refl c.loop-i.invariant)

pub returns : goal.returns
returns c =
    walk_done (λ i xs. tap_wires c.args.columns c.args.last (c.args.place + i) xs) (λ i x. out_wire c.args.columns c.args.last (c.args.place + i) x ∷ []) (taps_walk c.args.columns c.args.last c.args.place)
    (assigns_of c.loop-i.lines.items) _ c.args.taps.now c.loop-i.i (omega arith) c.loop-i.invariant
    ∙ ap (λ n. assigns_of c.args.lines.now.items ++ tap_wires c.args.columns c.args.last n c.args.taps.now) (let e : c.args.place + 0 ≡ c.args.place = omega arith in e)
