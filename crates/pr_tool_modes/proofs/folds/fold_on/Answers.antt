use Rattle.std.proofs.Common.{◌∙◌, ◌-◌, ◌^◌, ℕ, List, sym, subst, ap, inl, inr}
use Rattle.std.proofs.lemmas.Result.{IfOk-weaker, IfErr-weaker, err_from_is_err_and}
use Rattle.pr_conf.specs.Configuration.{shape_of}
use Rattle.pr_machine.specs.Stands.{conf_of, stripes_of}
use Rattle.pr_run_script.specs.Script.{Held}
use Rattle.pr_run.specs.Setting.{stall_turns}
use Rattle.pr_samples.specs.Feed.{name_of, most_of}
use Rattle.pr_tool_modes.specs.Folds.{HasMarked, IsUnmarked}
use Rattle.pr_tool_modes.specs.Jobs.{job_on, stall_in}
use Rattle.pr_tool_modes.specs.Runs.{Course}
use Rattle.pr_tool_modes.specs.Stalls.{HasStall}
use Rattle.pr_tool_modes.proofs.FoldLemmas.{run_for, unasked_for}
use Rattle.pr_tool_modes.specs.Files.{IsInOrder}
use Rattle.pr_tool_modes.proofs.OrderLemmas.{orderly_some, orderly_both}
use Rattle.pr_tool_modes.proofs.folds.fold_on.Goals as goal

pub returns-in_err-stall-clause-refused : goal.returns-in_err-stall-clause-refused
returns-in_err-stall-clause-refused g c = λ source count. (
    let before = g.S.Shelf.view c.args.shelf.now in
    let now = g.S.Shelf.view c.read_stall.new.shelf in
    let r = c.from_residual in
    unasked_for r.result _ (shape_of c.args.conf) (job_on source c.args.run.now) before now (err_from_is_err_and r.result r.ensures.1) (record { cause = inl c.in_err-stall.ensures.refused; unread = c.read_stall.ensures.others; shown = c.in_err-stall.ensures.shown }))

pub returns-in_err-ready-clause-refused : goal.returns-in_err-ready-clause-refused
returns-in_err-ready-clause-refused g c = λ source count. (
    let before = g.S.Shelf.view c.args.shelf.now in
    let now = g.S.Shelf.view c.read_stall.new.shelf in
    let r = c.from_residual-in_err-ready in
    unasked_for r.result _ (shape_of c.args.conf) (job_on source c.args.run.now) before now (err_from_is_err_and r.result r.ensures.1) (record { cause = inr c.in_err-ready.ensures.refused; unread = c.read_stall.ensures.others; shown = inr c.in_ok-stall.ensures.steady }))

pub returns-clause-marked : goal.returns-clause-marked
returns-clause-marked g c = λ source count. (
    let made = c.in_ok-ready in
    let before = g.S.Shelf.view c.args.shelf.now in
    let start = g.S.Shelf.view c.read_stall.new.shelf in
    let now = g.S.Shelf.view c.fold_all.new.shelf in
    let stall = subst (λ (ts : List Held). HasStall before.told (stall_in c.args.run.now) ts) (sym made.ensures.turns) c.in_ok-stall.ensures.stall in
    let bound = made.ensures.ready.opened.bound ∙ ap (λ (n : ℕ). 2 ^ 40 - n) (sym count) in
    IfOk-weaker c.fold_all.result _ _ (λ v marked. run_for (λ (r : Course). HasMarked g.row.N g.row.P r c.args.before v.items) (shape_of c.args.conf) (conf_of made.ready.machine) (job_on source c.args.run.now)
    (stripes_of made.ready.machine) (most_of made.ready.feed) (name_of made.ready.feed) (stall_turns made.ready.stall) before start now
    made.ensures.conf made.ensures.stripes bound made.ensures.ready.opened.file stall
    (record { told = c.read_stall.ensures.same; faults = c.in_ok-stall.ensures.steady; reach = c.read_stall.ensures.others }) marked) c.fold_all.ensures.marked)

pub returns-clause-refused : goal.returns-clause-refused
returns-clause-refused g c = λ source count. (
    let made = c.in_ok-ready in
    let before = g.S.Shelf.view c.args.shelf.now in
    let start = g.S.Shelf.view c.read_stall.new.shelf in
    let now = g.S.Shelf.view c.fold_all.new.shelf in
    let stall = subst (λ (ts : List Held). HasStall before.told (stall_in c.args.run.now) ts) (sym made.ensures.turns) c.in_ok-stall.ensures.stall in
    let bound = made.ensures.ready.opened.bound ∙ ap (λ (n : ℕ). 2 ^ 40 - n) (sym count) in
    IfErr-weaker c.fold_all.result _ _ (λ a unmarked. inr (run_for (λ (r : Course). IsUnmarked r a) (shape_of c.args.conf) (conf_of made.ready.machine) (job_on source c.args.run.now)
    (stripes_of made.ready.machine) (most_of made.ready.feed) (name_of made.ready.feed) (stall_turns made.ready.stall) before start now
    made.ensures.conf made.ensures.stripes bound made.ensures.ready.opened.file stall
    (record { told = c.read_stall.ensures.same; faults = c.in_ok-stall.ensures.steady; reach = c.read_stall.ensures.others }) unmarked)) c.fold_all.ensures.unmarked)

pub returns-in_err-stall-clause-orderly : goal.returns-in_err-stall-clause-orderly
returns-in_err-stall-clause-orderly g c =
    orderly_some (g.S.Shelf.view c.args.shelf.now) (g.S.Shelf.view c.read_stall.new.shelf) _ (stall_in c.args.run.now) c.args.run.now.samples.now
    c.read_stall.ensures.same c.read_stall.ensures.once c.read_stall.ensures.others c.read_stall.ensures.later

pub returns-in_err-ready-clause-orderly : goal.returns-in_err-ready-clause-orderly
returns-in_err-ready-clause-orderly g c =
    orderly_some (g.S.Shelf.view c.args.shelf.now) (g.S.Shelf.view c.read_stall.new.shelf) _ (stall_in c.args.run.now) c.args.run.now.samples.now
    c.read_stall.ensures.same c.read_stall.ensures.once c.read_stall.ensures.others c.read_stall.ensures.later

pub returns-clause-orderly : goal.returns-clause-orderly
returns-clause-orderly g c =
    let mid = g.S.Shelf.view c.read_stall.new.shelf in
    let now = g.S.Shelf.view c.fold_all.new.shelf in
    let file = c.in_ok-ready.ensures.ready.opened.file in
    let samples = subst (λ (n : List ℕ). IsInOrder (mid.reach n) (now.reach n)) file c.fold_all.ensures.once in
    orderly_both (g.S.Shelf.view c.args.shelf.now) mid _ (stall_in c.args.run.now) c.args.run.now.samples.now
    c.read_stall.ensures.same c.read_stall.ensures.once c.read_stall.ensures.others c.read_stall.ensures.later
    now c.fold_all.ensures.told samples (λ p other. c.fold_all.ensures.others p (λ e. other (e ∙ file))) c.fold_all.ensures.later
