use Rattle.std.proofs.Common.{◌≡◌, ℕ, ◌+◌, ◌++◌, replicate, arith, ap, sym, ◌∙◌, subst}
use Rattle.pr_machine_account.specs.Account.{Take, account}
use Rattle.pr_conf.specs.declared.configurations.Configuration.{Configuration}
use Rattle.pr_conf.specs.Configuration.{shape_of}
use Rattle.pr_conf.specs.Rules.{bytes_in}
use Rattle.pr_conf.specs.Through.{output_widths}
use Rattle.pr_machine.specs.Stands.{History}
use Rattle.pr_run_script.specs.Script.{waiting}
use Rattle.pr_run.specs.Setting.{stages_of}
use Rattle.pr_run.specs.Turns.{HasDone}
use Rattle.pr_run.proofs.Lines.{takes_more, takes_front, begun_within, kept_on}
use Rattle.pr_run.proofs.writing.write_waiting.Goals as goal

pub write_one-requires : goal.write_one-requires
write_one-requires g c =
    let inv = c.loop.invariant in
    let conf = sym inv.kept.conf in (
      omega arith,
      (
        omega arith,
        (
          c.requires.widths ∙ ap (λ (k : Configuration g.row.N g.row.P). output_widths (shape_of k)) conf,
          (
            inv.size ∙ (c.requires.bytes ∙ ap (λ (k : Configuration g.row.N g.row.P). bytes_in (output_widths (shape_of k))) conf),
            omega (arith, inv.left, c.loop-test.true, c.waiting_out-end.ensures.is),
          ),
        ),
      ),
    )

pub returns-in-Err-clause-begun : goal.returns-in-Err-clause-begun
returns-in-Err-clause-begun g c = λ s h done.
    let n = c.loop.counter in
    let all = waiting (stages_of s) (account (stages_of s) s.stripes h) in
    let told : c.waiting_out-end.result ≡ all = c.waiting_out-end.ensures.told s.conf s.stripes h done.stands in
    let begun = c.in-Err.ensures.begun s (h ++ replicate n Take) (c.loop.invariant.done s h done) in
    begun_within s _ _ _ _ begun (rw (takes_more h n) (takes_front h (n + 1) all (omega (arith, told, c.loop-test.true))))

pub loop-preserved : goal.loop-preserved
loop-preserved g c = record {
  done = λ s h done. subst (λ (e : History). HasDone s c.write_one.new.machine (g.K.Sink.view c.write_one.new.out).told e) (takes_more h c.loop.counter) (c.in-Ok.ensures.done s (h ++ replicate c.loop.counter Take) (c.loop.invariant.done s h done));
  kept = kept_on c.args.machine.now c.loop.machine c.write_one.new.machine c.loop.invariant.kept c.write_one.ensures.kept;
  left = omega (arith, c.loop.invariant.left, c.write_one.ensures.fewer);
  size = c.write_one.ensures.length ∙ c.loop.invariant.size;
  later = omega (arith, c.loop.invariant.later, c.write_one.ensures.later);
}

pub returns-clause-done : goal.returns-clause-done
returns-clause-done g c = λ s h done.
    let all = waiting (stages_of s) (account (stages_of s) s.stripes h) in
    let told : c.waiting_out-end.result ≡ all = c.waiting_out-end.ensures.told s.conf s.stripes h done.stands in
    let end : c.loop.counter ≡ all = omega (arith, told, c.loop-test.false, c.loop.auto.counter-end) in
    subst (λ (n : ℕ). HasDone s c.loop.machine (g.K.Sink.view c.loop.out).told (h ++ replicate n Take)) end (c.loop.invariant.done s h done)
