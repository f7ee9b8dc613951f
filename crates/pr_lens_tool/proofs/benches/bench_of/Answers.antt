use Rattle.std.proofs.Common.{◌∙◌}
use Rattle.std.proofs.lemmas.Result.{IfErr-weaker, IfOk-weaker, on_ok_weaker}
use Rattle.pr_tool_modes.proofs.OrderLemmas.{order_after, order_once, order_one}
use Rattle.pr_lens_bench.specs.Benches.{IsBench}
use Rattle.pr_lens_tool.specs.Asked.{target_in}
use Rattle.pr_lens_tool.proofs.BenchLemmas.{bench_made, bench_unmade}
use Rattle.pr_lens_tool.proofs.FaultLemmas.{plain_shown, shown_behind}
use Rattle.pr_lens_tool.proofs.benches.bench_of.Goals as goal

pub returns-clause-made : goal.returns-clause-made
returns-clause-made g c =
    let told = (g.S.Shelf.view c.args.shelf.now).told in
    IfOk-weaker c.tried.result _ _ (λ o h.
    bench_made told _ (target_in c.args.target.now) c.args.samples.now c.args.name.now c.args.seed c.in-Ok.text.items c.in_ok-trial.trial c.in-Ok.ensures.text c.in-Ok.ensures.short (rw c.deref.ensures.value at c.in_ok-trial.ensures.planned)
    c.read_file.ensures.same (λ t samples program design. IsBench t samples program design o.text.items) h) c.tried.ensures.made

pub returns-clause-refused : goal.returns-clause-refused
returns-clause-refused g c =
    let told = (g.S.Shelf.view c.args.shelf.now).told in
    IfErr-weaker c.tried.result _ _ (λ o h.
    bench_unmade told _ (target_in c.args.target.now) c.args.samples.now c.args.name.now c.args.seed c.in-Ok.text.items c.in_ok-trial.trial c.in-Ok.ensures.text c.in-Ok.ensures.short (rw c.deref.ensures.value at c.in_ok-trial.ensures.planned)
    c.read_file.ensures.same _ _ _ o c.read_file.ensures.later h) c.tried.ensures.refused

pub returns-clause-steady : goal.returns-clause-steady
returns-clause-steady g c = on_ok_weaker c.tried.result (λ same. same ∙ c.in-Ok.ensures.steady) c.tried.ensures.steady

pub returns-clause-shown : goal.returns-clause-shown
returns-clause-shown g c = IfErr-weaker c.tried.result _ _ (λ o shown. shown_behind _ _ _ o c.in-Ok.ensures.steady shown) c.tried.ensures.shown

pub returns-in-Err-clause-shown : goal.returns-in-Err-clause-shown
returns-in-Err-clause-shown g c = plain_shown _ _ c.in-Err.answer c.in-Err.ensures.shown

pub returns-in-Err-clause-once : goal.returns-in-Err-clause-once
returns-in-Err-clause-once g c = λ q once. order_one (g.S.Shelf.view c.args.shelf.now).reach (g.S.Shelf.view c.read_file.new.shelf).reach c.args.target.now.file.now q (order_once _ _ _ c.read_file.ensures.once) c.read_file.ensures.others

pub returns-in_err-trial-clause-once : goal.returns-in_err-trial-clause-once
returns-in_err-trial-clause-once g c = λ q once. order_one (g.S.Shelf.view c.args.shelf.now).reach (g.S.Shelf.view c.read_file.new.shelf).reach c.args.target.now.file.now q (order_once _ _ _ c.read_file.ensures.once) c.read_file.ensures.others

pub returns-clause-once : goal.returns-clause-once
returns-clause-once g c = λ q once. order_after (g.S.Shelf.view c.args.shelf.now).reach (g.S.Shelf.view c.read_file.new.shelf).reach (g.S.Shelf.view c.tried.new.shelf).reach _ c.args.target.now.file.now q c.read_file.ensures.once c.read_file.ensures.others
    (λ e. c.tried.ensures.others q (once e)) (order_one (g.S.Shelf.view c.read_file.new.shelf).reach (g.S.Shelf.view c.tried.new.shelf).reach c.args.samples.now q c.tried.ensures.once c.tried.ensures.others)
