use lib.Dec.{eqb}
use mathlib.Core.Bool.{not}
use Rattle.std.proofs.lemmas.Bool.{ne_eqb}
use Rattle.std.proofs.Common.{◌++◌, ◌∷◌, [], ap, ◌∙◌, arith, cond}
use Rattle.pr_machine_account.specs.Account.{Cycle}
use Rattle.pr_machine.specs.Stands.{account_of}
use Rattle.pr_run_script.specs.Text.{log_line}
use Rattle.pr_run.proofs.CycleLines.{cycle_line}
use Rattle.pr_samples.proofs.ResultLemmas.{on_ok, on_err}
use Rattle.pr_run.proofs.Lines.{done_cycle, begun_cycle, nothing_appended}
use Rattle.pr_run.proofs.cycling.cycle_step.Goals as goal

pub returns-then-not-this-clause-done : goal.returns-then-not-this-clause-done
returns-then-not-this-clause-done g c = λ s h set is done.
    let line = log_line g.row.N g.row.P s.conf s.stripes (account_of s.conf s.stripes h) in
    done_cycle s c.args.machine.now c.cycle-turn.new.self _ _ h [] done (c.cycle-turn.ensures.stands s.conf s.stripes h done.stands) (ap (λ b. cond b line []) (is ∙ ap (λ n. not (eqb n 0)) c.if-not-this.true)) (nothing_appended _)

pub returns-clause-done : goal.returns-clause-done
returns-clause-done g c = λ s h set is done.
    let line = log_line g.row.N g.row.P s.conf s.stripes (account_of s.conf s.stripes h) in
    let stands = c.cycle-turn.ensures.stands s.conf s.stripes h done.stands in
    let told = cycle_line g.row.N g.row.P s.conf s.stripes h c.cycle-turn.result c.time-time.result c.saved_row.result.now set.some (omega (arith, set.two))
    (c.cycle-turn.ensures.turn s.conf s.stripes h done.stands) (c.time-time.ensures.told s.conf s.stripes h done.stands)
    (λ stage e inside away. c.saved_row.ensures.row s.conf s.stripes (h ++ Cycle ∷ []) stage stands e inside away) in
    on_ok c.write_line.result _ _ (λ more. done_cycle s c.args.machine.now c.cycle-turn.new.self _ _ h line done stands (ap (λ b. cond b line []) (is ∙ ap not (ne_eqb g.row.LOG 0 c.if-not-this.false)))
    (rw told at more)) c.write_line.ensures.all

pub returns-clause-begun : goal.returns-clause-begun
returns-clause-begun g c = λ s h set is done.
    let line = log_line g.row.N g.row.P s.conf s.stripes (account_of s.conf s.stripes h) in
    let stands = c.cycle-turn.ensures.stands s.conf s.stripes h done.stands in
    let told = cycle_line g.row.N g.row.P s.conf s.stripes h c.cycle-turn.result c.time-time.result c.saved_row.result.now set.some (omega (arith, set.two))
    (c.cycle-turn.ensures.turn s.conf s.stripes h done.stands) (c.time-time.ensures.told s.conf s.stripes h done.stands)
    (λ stage e inside away. c.saved_row.ensures.row s.conf s.stripes (h ++ Cycle ∷ []) stage stands e inside away) in
    on_err c.write_line.result _ _ (λ more. begun_cycle s c.args.machine.now c.cycle-turn.new.self _ _ h line done stands (ap (λ b. cond b line []) (is ∙ ap not (ne_eqb g.row.LOG 0 c.if-not-this.false)))
    (rw told at more)) c.write_line.ensures.front
