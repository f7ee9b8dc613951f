use Rattle.std.proofs.Common.{◌≡◌, append-nil, arith}
use Rattle.pr_machine_account.specs.Account.{account}
use Rattle.pr_run_script.specs.Script.{waiting}
use Rattle.pr_run.specs.Setting.{stages_of}
use Rattle.pr_run.proofs.writing.write_step.Goals as goal

pub returns-then-waiting_out-eq0-clause-done : goal.returns-then-waiting_out-eq0-clause-done
returns-then-waiting_out-eq0-clause-done g c = λ s h done.
    let all = waiting (stages_of s) (account (stages_of s) s.stripes h) in
    let none : all ≡ 0 = omega (arith, c.waiting_out.ensures.told s.conf s.stripes h done.stands, c.if-waiting_out-eq0.true) in
    rw (c.if-held.false, none, append-nil) done
