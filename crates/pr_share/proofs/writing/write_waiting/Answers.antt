use Rattle.std.proofs.Common.{◌≡◌, ℕ, List, ◌++◌, replicate, arith, ap, sym, ◌∙◌, subst, append-nil, refl}
use Rattle.pr_machine_account.specs.Account.{Take, account}
use Rattle.pr_edge.specs.Tape.{AppendsFront}
use Rattle.pr_conf.specs.declared.configurations.Configuration.{Configuration}
use Rattle.pr_conf.specs.Configuration.{shape_of}
use Rattle.pr_conf.specs.Rules.{bytes_in}
use Rattle.pr_conf.specs.Through.{output_widths, result_numbers}
use Rattle.pr_machine.specs.Stands.{History}
use Rattle.pr_run.proofs.Lines.{takes_more, kept_on}
use Rattle.pr_run_script.specs.Script.{waiting}
use Rattle.pr_share_text.specs.Text.{marked}
use Rattle.pr_share.specs.Turns.{HasShown, stages_of}
use Rattle.pr_share.proofs.writing.write_waiting.Goals as goal

pub loop-init : goal.loop-init
loop-init g c = record {
  shown = λ s h number shown. rw append-nil shown;
  offered = λ s h number shown. ap (λ (e : History). (account (stages_of s) s.stripes e).offered) (append-nil h);
  kept = record { conf = refl; places = refl; store = refl; plan = refl; entered = refl; left = refl };
  left = omega arith;
  size = refl;
  later = omega arith;
}

pub write_one-requires : goal.write_one-requires
write_one-requires g c =
    let inv = c.loop.invariant in
    let conf = sym inv.kept.conf in (
      omega arith,
      (
        omega arith,
        (
          c.requires.widths ∙ ap (λ (k : Configuration g.row.N g.row.P). output_widths (shape_of k)) conf,
          (
            c.requires.number,
            (
              inv.size ∙ (c.requires.bytes ∙ ap (λ (k : Configuration g.row.N g.row.P). bytes_in (output_widths (shape_of k))) conf),
              omega (arith, inv.left, c.loop-test.true, c.waiting_out-end.ensures.is),
            ),
          ),
        ),
      ),
    )

pub returns-in-Err-clause-front : goal.returns-in-Err-clause-front
returns-in-Err-clause-front g c = λ s h number shown.
    let inv = c.loop.invariant in
    subst (λ (xs : List (List ℕ)). AppendsFront s.tape (g.K.Sink.view c.write_one.new.out).told (marked s.number (result_numbers g.row.N g.row.P s.conf xs))) (inv.offered s h number shown)
    (c.in-Err.ensures.front s (h ++ replicate c.loop.counter Take) number (inv.shown s h number shown))

pub loop-preserved : goal.loop-preserved
loop-preserved g c =
    let inv = c.loop.invariant in
    record {
      shown = λ s h number shown. subst (λ (e : History). HasShown s c.write_one.new.machine (g.K.Sink.view c.write_one.new.out).told e) (takes_more h c.loop.counter) (c.in-Ok.ensures.shown s (h ++ replicate c.loop.counter Take) number (inv.shown s h number shown));
      offered = λ s h number shown.
          ap (λ (e : History). (account (stages_of s) s.stripes e).offered) (sym (takes_more h c.loop.counter))
          ∙ (c.write_one.ensures.offered s (h ++ replicate c.loop.counter Take) (inv.shown s h number shown) ∙ inv.offered s h number shown);
      kept = kept_on c.args.machine.now c.loop.machine c.write_one.new.machine inv.kept c.write_one.ensures.kept;
      left = omega (arith, inv.left, c.write_one.ensures.fewer);
      size = c.write_one.ensures.length ∙ inv.size;
      later = omega (arith, inv.later, c.write_one.ensures.later);
    }

pub returns-clause-shown : goal.returns-clause-shown
returns-clause-shown g c = λ s h number shown.
    let all = waiting (stages_of s) (account (stages_of s) s.stripes h) in
    let told : c.waiting_out-end.result ≡ all = c.waiting_out-end.ensures.told s.conf s.stripes h shown.stands in
    let end : c.loop.counter ≡ all = omega (arith, told, c.loop-test.false, c.loop.auto.counter-end) in
    subst (λ (n : ℕ). HasShown s c.loop.machine (g.K.Sink.view c.loop.out).told (h ++ replicate n Take)) end (c.loop.invariant.shown s h number shown)
