use Rattle.std.proofs.Common.{◌≡◌, ◌≢◌, ◌∙◌, subst, refl, inl, inr}
use Rattle.std.specs.Prelude.{⊤}
use Rattle.pr_base.specs.declared.caps.Cap.{Cap}
use Rattle.pr_edge.specs.Files.{Told}
use Rattle.pr_tool_modes.specs.Calls.{call, IsOrderly}
use Rattle.pr_tool_modes.specs.Files.{IsUnread}
use Rattle.pr_tool_modes.specs.Evaluations.{HasLines}
use Rattle.pr_tool_modes.proofs.EvalVerdicts.{file_end, put_end, evaluated}
use Rattle.pr_tool_modes.proofs.FileLemmas.{shown_earlier}
use Rattle.pr_tool_modes.proofs.OrderLemmas.{order_once, orderly_one, orderly_after}
use Rattle.pr_tool_modes.proofs.evaluations.eval.Goals as goal

-- the program is refused
pub returns-in-Err-clause-ended : goal.returns-in-Err-clause-ended
returns-in-Err-clause-ended g c = inl (record { cause = c.in-Err.ensures.refused; unwritten = refl; unread = c.load_program.ensures.others; shown = c.in-Err.ensures.shown })

pub returns-clause-ended : goal.returns-clause-ended
returns-clause-ended g c =
    let k = call (g.S.Shelf.view c.args.shelf.now) (g.S.Shelf.view c.results_of.new.shelf) (g.K.Sink.view c.args.out.now) (g.K.Sink.view c.args.out.now) in
    let refused = subst (λ (t : Told). IsUnread 16777216 Cap.SampleBytes t c.args.samples.now (g.S.Shelf.view c.load_program.new.shelf).faults (g.S.Shelf.view c.results_of.new.shelf).faults c.in-Err-results_of.answer) c.load_program.ensures.same c.in-Err-results_of.ensures.refused in
    evaluated c.args.program.now c.args.samples.now c.in-Ok.front k c.in-Err-results_of.answer c.in-Ok.ensures.loaded
    (file_end c.args.samples.now c.in-Ok.front.scoped.program k (g.S.Shelf.view c.load_program.new.shelf).faults c.in-Err-results_of.answer c.load_program.ensures.later refused refl)
    (shown_earlier _ _ _ _ c.in-Ok.ensures.steady c.in-Err-results_of.ensures.shown)

pub returns-in-Ok-results_of-clause-ended : goal.returns-in-Ok-results_of-clause-ended
returns-in-Ok-results_of-clause-ended g c =
    let k = call (g.S.Shelf.view c.args.shelf.now) (g.S.Shelf.view c.results_of.new.shelf) (g.K.Sink.view c.args.out.now) (g.K.Sink.view c.put_results.new.out) in
    let program = c.in-Ok.front.scoped.program in
    let lines = subst (λ (t : Told). HasLines t c.args.samples.now program c.in-Ok-results_of.results.text.items c.in-Ok-results_of.results.end) c.load_program.ensures.same c.in-Ok-results_of.ensures.results in
    evaluated c.args.program.now c.args.samples.now c.in-Ok.front k c.put_results.result c.in-Ok.ensures.loaded
    (put_end c.args.samples.now program lines.bytes c.in-Ok-results_of.results.text.items c.in-Ok-results_of.results.end k c.put_results.result lines.file lines.short lines.results c.put_results.ensures.put)
    (inr (c.in-Ok-results_of.ensures.steady ∙ c.in-Ok.ensures.steady))

pub returns-in-Err-clause-orderly : goal.returns-in-Err-clause-orderly
returns-in-Err-clause-orderly g c =
    let first = c.args.program.now in
    let second = c.args.samples.now in
    orderly_one (λ q. q ≡ first → q ≢ second) (λ q. (q ≢ first) × (q ≢ second)) (g.S.Shelf.view c.args.shelf.now) (g.S.Shelf.view c.load_program.new.shelf) first
    c.load_program.ensures.same (order_once _ _ _ c.load_program.ensures.once) c.load_program.ensures.others c.load_program.ensures.later (λ q other. other.0)

pub returns-clause-orderly : goal.returns-clause-orderly
returns-clause-orderly g c =
    let first = c.args.program.now in
    let second = c.args.samples.now in
    let mid = g.S.Shelf.view c.load_program.new.shelf in
    let now = g.S.Shelf.view c.results_of.new.shelf in
    let next : IsOrderly (λ q. ⊤) (λ q. q ≢ second) mid now = orderly_one (λ q. ⊤) (λ q. q ≢ second) mid now second
    c.results_of.ensures.same c.results_of.ensures.once c.results_of.ensures.others c.results_of.ensures.later (λ q other. other) in
    orderly_after (λ q. q ≡ first → q ≢ second) (λ q. (q ≢ first) × (q ≢ second)) (λ q. ⊤) (λ q. q ≢ second) (g.S.Shelf.view c.args.shelf.now) mid now _ first
    c.load_program.ensures.same c.load_program.ensures.once c.load_program.ensures.others c.load_program.ensures.later next (λ q once. (once, tt)) (λ q other. other)

pub returns-in-Ok-results_of-clause-orderly : goal.returns-in-Ok-results_of-clause-orderly
returns-in-Ok-results_of-clause-orderly g c =
    let first = c.args.program.now in
    let second = c.args.samples.now in
    let mid = g.S.Shelf.view c.load_program.new.shelf in
    let now = g.S.Shelf.view c.results_of.new.shelf in
    let next : IsOrderly (λ q. ⊤) (λ q. q ≢ second) mid now = orderly_one (λ q. ⊤) (λ q. q ≢ second) mid now second
    c.results_of.ensures.same c.results_of.ensures.once c.results_of.ensures.others c.results_of.ensures.later (λ q other. other) in
    orderly_after (λ q. q ≡ first → q ≢ second) (λ q. (q ≢ first) × (q ≢ second)) (λ q. ⊤) (λ q. q ≢ second) (g.S.Shelf.view c.args.shelf.now) mid now _ first
    c.load_program.ensures.same c.load_program.ensures.once c.load_program.ensures.others c.load_program.ensures.later next (λ q once. (once, tt)) (λ q other. other)
