use Rattle.std.proofs.Common.{◌≡◌, List, [], ℕ, refl, sym, ap, ◌∙◌, arith}
use Rattle.pr_samples.specs.Feed.{name_of}
use Rattle.pr_conf.specs.declared.configurations.Configuration.{Configuration}
use Rattle.pr_conf.specs.Configuration.{shape_of}
use Rattle.pr_conf.specs.Through.{output_widths}
use Rattle.pr_run_script.specs.Script.{Run, free, fed, begun, turns}
use Rattle.pr_run.proofs.NextSamples.{same_file}
use Rattle.pr_share.specs.Turns.{stages_of}
use Rattle.pr_share.proofs.Steps.{turn_begin, time_start, set_of, few_turns, given_setting, given_begins, turn_written, turn_cycle, turn_over, turn_cut, gone_ended, cause_on, cause_as, kept_time, kept_stripes}
use Rattle.pr_share.proofs.turns.Walk.run_turn.Goals as goal

pub loop-init : goal.loop-init
loop-init g c = record {
  on = λ s b. turn_begin s c.args.machine.now c.args.feed.now (g.S.Shelf.view c.args.shelf.now).told (g.K.Sink.view c.args.out.now).told c.args.self.now.number b c.requires.resumed;
  count = omega arith;
  spent = λ e. absurd (cc);
  fault = λ e. absurd (cc);
  steady = λ other. refl;
  cause = λ e. absurd (cc);
  inputs = c.requires.inputs;
  file = record { name = refl; widths = refl; limit = refl; most = refl };
  conf = refl;
  stripes = refl;
  time = (let t = time_start c.args.machine.now _ _ c.requires.resumed in omega (arith, t));
  told = refl;
  others = λ q other. refl;
  shelf_later = omega arith;
  out_later = omega arith;
}

pub write_step-requires : goal.write_step-requires
write_step-requires g c =
    let inv = c.loop.invariant in
    let conf = sym (c.feed_step-used.ensures.kept.conf ∙ inv.conf) in
    (omega arith, (omega arith, (c.requires.outputs ∙ ap (λ (k : Configuration g.row.N g.row.P). output_widths (shape_of k)) conf, (c.requires.number, omega arith))))

pub returns-in-Err-clause-cut : goal.returns-in-Err-clause-cut
returns-in-Err-clause-cut g c = λ s b.
    let inv = c.loop.invariant in
    let hv = (set_of s c.args.machine.now b.conf b.stripes).some in
    let runs : List (List ℕ) → Run (List ℕ) = λ xs. turns (stages_of s) s.stripes [] c.loop.counter (begun xs) in
    let on = c.feed_step-used.ensures.turning s runs (g.K.Sink.view c.loop.out).told hv (inv.on s b) in
    turn_cut s (λ xs. fed (stages_of s) s.stripes free (runs xs)) c.feed_step-used.new.machine c.feed_step-used.new.feed (g.S.Shelf.view c.feed_step-used.new.shelf).told (g.K.Sink.view c.loop.out).told c.feed_step-used.result on
    (g.K.Sink.view c.write_step.new.out).told c.args.self.now.quota (g.S.Shelf.view c.args.shelf.now).faults (g.S.Shelf.view c.feed_step-used.new.shelf).faults c.feed_step-used.ensures.quota (λ h shown. c.in-Err.ensures.front s h b.number_is shown)
    (λ e. cause_as (g.S.Shelf.view c.args.shelf.now).told (g.S.Shelf.view c.feed_step-used.new.shelf).told (name_of c.args.feed.now) (name_of s.first) _ _ (sym (c.feed_step-used.ensures.told ∙ inv.told)) b.fed.file.name
    (cause_on (g.S.Shelf.view c.args.shelf.now).told (g.S.Shelf.view c.loop.shelf).told (name_of c.args.feed.now) (name_of c.loop.feed) (g.S.Shelf.view c.args.shelf.now).faults (g.S.Shelf.view c.loop.shelf).faults (g.S.Shelf.view c.feed_step-used.new.shelf).faults c.loop.used.last c.feed_step-used.result.last
    inv.told inv.file.name inv.shelf_later c.feed_step-used.ensures.later inv.cause c.feed_step-used.ensures.cause e))

pub returns-then-is_over-clause-turned : goal.returns-then-is_over-clause-turned
returns-then-is_over-clause-turned g c = λ s b.
    let inv = c.loop.invariant in
    let hv = (set_of s c.args.machine.now b.conf b.stripes).some in
    let runs : List (List ℕ) → Run (List ℕ) = λ xs. turns (stages_of s) s.stripes [] c.loop.counter (begun xs) in
    let on = c.feed_step-used.ensures.turning s runs (g.K.Sink.view c.loop.out).told hv (inv.on s b) in
    let written = turn_written s (λ xs. fed (stages_of s) s.stripes free (runs xs)) c.feed_step-used.new.machine c.feed_step-used.new.feed (g.S.Shelf.view c.feed_step-used.new.shelf).told (g.K.Sink.view c.loop.out).told c.feed_step-used.result on
    c.write_step.new.machine (g.K.Sink.view c.write_step.new.out).told hv (λ h shown. c.in-Ok.ensures.shown s h b.number_is shown) in
    let gone = sym (c.is_over.ensures.test s written.history written.shown.stands) ∙ c.if-is_over.true in
    turn_over s c.loop.counter c.write_step.new.machine c.feed_step-used.new.feed (g.S.Shelf.view c.feed_step-used.new.shelf).told (g.K.Sink.view c.write_step.new.out).told c.feed_step-used.result hv written c.args.self.now.quota gone c.feed_step-used.ensures.quota
    (c.feed_step-used.ensures.spent (gone_ended s c.feed_step-used.result.ended written.history gone))

pub cycle-turn-requires : goal.cycle-turn-requires
cycle-turn-requires g c =
    let inv = c.loop.invariant in
    let q = c.requires.fed in
    let s0 = given_setting c.args.machine.now c.args.self.now.number (g.K.Sink.view c.args.out.now).told q.0 q.1.0 in
    let b0 = given_begins c.args.machine.now c.args.feed.now (g.S.Shelf.view c.args.shelf.now).told (g.K.Sink.view c.args.out.now).told c.args.self.now.number q.0 q.1.0 q.1.1 in
    let few = few_turns s0 c.loop.counter c.loop.machine c.loop.feed (g.S.Shelf.view c.loop.shelf).told (g.K.Sink.view c.loop.out).told c.loop.used (set_of s0 c.args.machine.now refl refl) (omega (arith, inv.count)) (inv.on s0 b0) in
    let t1 = kept_time c.loop.machine c.feed_step-used.new.machine c.feed_step-used.ensures.kept in
    let t2 = kept_time c.feed_step-used.new.machine c.write_step.new.machine c.write_step.ensures.kept in
    (omega arith, (omega arith, omega (arith, few, t1, t2, inv.time)))

pub loop-preserved : goal.loop-preserved
loop-preserved g c =
    let inv = c.loop.invariant in
    let k1 = c.feed_step-used.ensures.kept in
    let k2 = c.write_step.ensures.kept in
    let conf : c.cycle-turn.new.self.parts.conf ≡ c.args.machine.now.parts.conf = c.cycle-turn.ensures.conf ∙ (k2.conf ∙ (k1.conf ∙ inv.conf)) in
    let file = same_file c.args.feed.now c.loop.feed c.feed_step-used.new.feed inv.file c.feed_step-used.ensures.file in
    record {
      on = λ s b.
          (let hv = (set_of s c.args.machine.now b.conf b.stripes).some in
          let runs : List (List ℕ) → Run (List ℕ) = λ xs. turns (stages_of s) s.stripes [] c.loop.counter (begun xs) in
          let on = c.feed_step-used.ensures.turning s runs (g.K.Sink.view c.loop.out).told hv (inv.on s b) in
          let written = turn_written s (λ xs. fed (stages_of s) s.stripes free (runs xs)) c.feed_step-used.new.machine c.feed_step-used.new.feed (g.S.Shelf.view c.feed_step-used.new.shelf).told (g.K.Sink.view c.loop.out).told c.feed_step-used.result on
          c.write_step.new.machine (g.K.Sink.view c.write_step.new.out).told hv (λ h shown. c.in-Ok.ensures.shown s h b.number_is shown) in
          turn_cycle s c.loop.counter c.write_step.new.machine c.feed_step-used.new.feed (g.S.Shelf.view c.feed_step-used.new.shelf).told (g.K.Sink.view c.write_step.new.out).told c.feed_step-used.result hv written c.cycle-turn.new.self
          (sym (c.is_over.ensures.test s written.history written.shown.stands) ∙ c.if-is_over.false) (c.cycle-turn.ensures.stands s.conf s.stripes written.history written.shown.stands));
      count = c.feed_step-used.ensures.quota;
      spent = c.feed_step-used.ensures.spent;
      fault = c.feed_step-used.ensures.fault;
      steady = λ other. (let e = c.feed_step-used.ensures.steady other in e.1 ∙ inv.steady e.0);
      cause = cause_on (g.S.Shelf.view c.args.shelf.now).told (g.S.Shelf.view c.loop.shelf).told (name_of c.args.feed.now) (name_of c.loop.feed) (g.S.Shelf.view c.args.shelf.now).faults (g.S.Shelf.view c.loop.shelf).faults (g.S.Shelf.view c.feed_step-used.new.shelf).faults c.loop.used.last c.feed_step-used.result.last
          inv.told inv.file.name inv.shelf_later c.feed_step-used.ensures.later inv.cause c.feed_step-used.ensures.cause;
      inputs = file.widths ∙ (c.requires.inputs ∙ ap (λ (k : Configuration g.row.N g.row.P). (shape_of k).inputs) (sym conf));
      file = file;
      conf = conf;
      stripes = c.cycle-turn.ensures.stripes ∙ (kept_stripes c.feed_step-used.new.machine c.write_step.new.machine k2 ∙ (kept_stripes c.loop.machine c.feed_step-used.new.machine k1 ∙ inv.stripes));
      time = (let t1 = kept_time c.loop.machine c.feed_step-used.new.machine k1 in let t2 = kept_time c.feed_step-used.new.machine c.write_step.new.machine k2 in omega (arith, inv.time, t1, t2, c.cycle-turn.ensures.time));
      told = c.feed_step-used.ensures.told ∙ inv.told;
      others = λ q other. c.feed_step-used.ensures.others q (λ e. other (e ∙ inv.file.name)) ∙ inv.others q other;
      shelf_later = omega (arith, inv.shelf_later, c.feed_step-used.ensures.later);
      out_later = omega (arith, inv.out_later, c.write_step.ensures.later);
    }

pub unreachable-requires : goal.unreachable-requires
unreachable-requires g c =
    let inv = c.loop.invariant in
    let q = c.requires.fed in
    let s0 = given_setting c.args.machine.now c.args.self.now.number (g.K.Sink.view c.args.out.now).told q.0 q.1.0 in
    let b0 = given_begins c.args.machine.now c.args.feed.now (g.S.Shelf.view c.args.shelf.now).told (g.K.Sink.view c.args.out.now).told c.args.self.now.number q.0 q.1.0 q.1.1 in
    let few = few_turns s0 c.loop.counter c.loop.machine c.loop.feed (g.S.Shelf.view c.loop.shelf).told (g.K.Sink.view c.loop.out).told c.loop.used (set_of s0 c.args.machine.now refl refl) (omega (arith, inv.count)) (inv.on s0 b0) in
    absurd (omega (arith, few, c.loop-test.false))

pub returns-in-Err-clause-others : goal.returns-in-Err-clause-others
returns-in-Err-clause-others g c = λ q other. c.feed_step-used.ensures.others q (λ e. other (e ∙ c.loop.invariant.file.name)) ∙ c.loop.invariant.others q other

pub returns-then-is_over-clause-others : goal.returns-then-is_over-clause-others
returns-then-is_over-clause-others g c = λ q other. c.feed_step-used.ensures.others q (λ e. other (e ∙ c.loop.invariant.file.name)) ∙ c.loop.invariant.others q other

pub returns-then-is_over-clause-steady : goal.returns-then-is_over-clause-steady
returns-then-is_over-clause-steady g c = λ other. (let e = c.feed_step-used.ensures.steady other in e.1 ∙ c.loop.invariant.steady e.0)
