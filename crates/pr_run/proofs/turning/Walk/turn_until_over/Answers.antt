use lib.Dec.{eqb}
use mathlib.Core.Bool.{not}
use Rattle.std.proofs.Common.{◌+◌, ℕ, List, refl, sym, ap, ◌∙◌, subst, arith}
use Rattle.pr_conf.specs.declared.configurations.Configuration.{Configuration}
use Rattle.pr_conf.specs.Configuration.{shape_of}
use Rattle.pr_conf.specs.Through.{output_widths}
use Rattle.pr_samples.specs.declared.feed.Got.{Got}
use Rattle.pr_samples.specs.Stall.{turns_left}
use Rattle.pr_run_script.specs.Script.{Run, begun, turns}
use Rattle.pr_run.specs.Setting.{Setting, IsSet, setting_of, stages_of}
use Rattle.pr_run.specs.Turns.{IsOn, IsCut}
use Rattle.pr_run.specs.Runs.{IsFinished, script_run}
use Rattle.pr_run.proofs.WholeRuns.{set_of, on_start, time_start, turn_now, left_more, few_turns, turns_fit, done_whole, cut_whole}
use Rattle.pr_run.proofs.turning.Walk.turn_until_over.Goals as goal

pub loop-now-init : goal.loop-now-init
loop-now-init g c =
    let s0 = setting_of c.args.machine.now c.args.stall.now c.args.feed.now (g.S.Shelf.view c.args.shelf.now) (g.K.Sink.view c.args.out.now).told (not (eqb g.row.LOG 0)) in
    record {
      on = subst (λ (last : Got). IsOn s0 (λ xs. turns (stages_of s0) s0.stripes s0.stall 0 (begun xs)) c.args.machine.now c.args.feed.now s0.shelf s0.tape last) (sym c.requires.ready.first) (on_start s0 c.args.machine.now c.requires.ready.loaded c.requires.ready.fresh);
      widths = refl;
      left = refl;
      inputs = c.requires.ready.inputs;
      conf = refl;
      stripes = refl;
      time = (let t = time_start c.args.machine.now s0.conf s0.stripes c.requires.ready.loaded in omega (arith, t));
      later = omega arith;
    }

pub turn-requires : goal.turn-requires
turn-requires g c =
    let s0 = setting_of c.args.machine.now c.args.stall.now c.args.feed.now (g.S.Shelf.view c.args.shelf.now) (g.K.Sink.view c.args.out.now).told (not (eqb g.row.LOG 0)) in
    let set : IsSet s0 = set_of c.args.machine.now c.args.stall.now c.args.feed.now _ _ (not (eqb g.row.LOG 0)) c.requires.ready.inputs c.requires.ready.turns c.requires.ready.fresh.few in
    let inv = c.loop-now.invariant in
    let k = c.loop-now.asked in
    let few = few_turns s0 k c.loop-now.machine c.loop-now.feed _ _ c.loop-now.self.last set inv.on in
    let fit = turns_fit s0 set in
    let widths = inv.widths ∙ (c.requires.ready.outputs ∙ ap (λ (k : Configuration g.row.N g.row.P). output_widths (shape_of k)) (sym inv.conf)) in
    (omega arith, (omega arith, (inv.inputs, (widths, omega (arith, inv.time, few, fit)))))

pub returns-in-Over-clause-ended : goal.returns-in-Over-clause-ended
returns-in-Over-clause-ended g c = λ s e.
    let s0 = setting_of c.args.machine.now c.args.stall.now c.args.feed.now (g.S.Shelf.view c.args.shelf.now) (g.K.Sink.view c.args.out.now).told (not (eqb g.row.LOG 0)) in
    let set : IsSet s0 = set_of c.args.machine.now c.args.stall.now c.args.feed.now _ _ (not (eqb g.row.LOG 0)) c.requires.ready.inputs c.requires.ready.turns c.requires.ready.fresh.few in
    let inv = c.loop-now.invariant in
    let k = c.loop-now.asked in
    let first : List (List ℕ) → Run (List ℕ) = λ xs. turns (stages_of s0) s0.stripes s0.stall k (begun xs) in
    let next : List (List ℕ) → Run (List ℕ) = λ xs. turns (stages_of s0) s0.stripes s0.stall (k + 1) (begun xs) in
    let turn = turn_now s0 (turns_left c.args.stall.now) (turns_left c.loop-now.stall) c.next-held.result k refl inv.left c.next-held.ensures.turn in
    let done = c.in-Over.ensures.after s0 first next set refl turn inv.on in
    subst (λ (x : Setting). IsFinished x c.turn.new.machine c.turn.new.feed (g.S.Shelf.view c.turn.new.shelf) (g.K.Sink.view c.turn.new.out).told (record { last = c.in-Over.last; asked = k })) (sym e)
    (done_whole s0 k c.turn.new.machine c.turn.new.feed _ _ c.in-Over.last set done)

pub returns-in-Failed-clause-ended : goal.returns-in-Failed-clause-ended
returns-in-Failed-clause-ended g c = λ s e.
    let s0 = setting_of c.args.machine.now c.args.stall.now c.args.feed.now (g.S.Shelf.view c.args.shelf.now) (g.K.Sink.view c.args.out.now).told (not (eqb g.row.LOG 0)) in
    let set : IsSet s0 = set_of c.args.machine.now c.args.stall.now c.args.feed.now _ _ (not (eqb g.row.LOG 0)) c.requires.ready.inputs c.requires.ready.turns c.requires.ready.fresh.few in
    let inv = c.loop-now.invariant in
    let k = c.loop-now.asked in
    let first : List (List ℕ) → Run (List ℕ) = λ xs. turns (stages_of s0) s0.stripes s0.stall k (begun xs) in
    let next : List (List ℕ) → Run (List ℕ) = λ xs. turns (stages_of s0) s0.stripes s0.stall (k + 1) (begun xs) in
    let turn = turn_now s0 (turns_left c.args.stall.now) (turns_left c.loop-now.stall) c.next-held.result k refl inv.left c.next-held.ensures.turn in
    let cut = c.in-Failed.ensures.after s0 first next set refl turn inv.on in
    subst (λ (x : Setting). IsCut x (script_run x) c.turn.new.machine c.turn.new.feed (g.S.Shelf.view c.turn.new.shelf) (g.K.Sink.view c.turn.new.out).told) (sym e)
    (cut_whole s0 (k + 1) c.turn.new.machine c.turn.new.feed _ _ set cut)

pub overflow_add-asked : goal.overflow_add-asked
overflow_add-asked g c =
    let s0 = setting_of c.args.machine.now c.args.stall.now c.args.feed.now (g.S.Shelf.view c.args.shelf.now) (g.K.Sink.view c.args.out.now).told (not (eqb g.row.LOG 0)) in
    let set : IsSet s0 = set_of c.args.machine.now c.args.stall.now c.args.feed.now _ _ (not (eqb g.row.LOG 0)) c.requires.ready.inputs c.requires.ready.turns c.requires.ready.fresh.few in
    let inv = c.loop-now.invariant in
    let k = c.loop-now.asked in
    let few = few_turns s0 k c.loop-now.machine c.loop-now.feed _ _ c.loop-now.self.last set inv.on in
    let fit = turns_fit s0 set in
    omega (arith, few, fit)

pub loop-now-smaller : goal.loop-now-smaller
loop-now-smaller g c =
    let s0 = setting_of c.args.machine.now c.args.stall.now c.args.feed.now (g.S.Shelf.view c.args.shelf.now) (g.K.Sink.view c.args.out.now).told (not (eqb g.row.LOG 0)) in
    let set : IsSet s0 = set_of c.args.machine.now c.args.stall.now c.args.feed.now _ _ (not (eqb g.row.LOG 0)) c.requires.ready.inputs c.requires.ready.turns c.requires.ready.fresh.few in
    let inv = c.loop-now.invariant in
    let k = c.loop-now.asked in
    let few = few_turns s0 k c.loop-now.machine c.loop-now.feed _ _ c.loop-now.self.last set inv.on in
    omega (arith, few)

pub loop-now-preserved : goal.loop-now-preserved
loop-now-preserved g c =
    let s0 = setting_of c.args.machine.now c.args.stall.now c.args.feed.now (g.S.Shelf.view c.args.shelf.now) (g.K.Sink.view c.args.out.now).told (not (eqb g.row.LOG 0)) in
    let set : IsSet s0 = set_of c.args.machine.now c.args.stall.now c.args.feed.now _ _ (not (eqb g.row.LOG 0)) c.requires.ready.inputs c.requires.ready.turns c.requires.ready.fresh.few in
    let inv = c.loop-now.invariant in
    let k = c.loop-now.asked in
    let first : List (List ℕ) → Run (List ℕ) = λ xs. turns (stages_of s0) s0.stripes s0.stall k (begun xs) in
    let next : List (List ℕ) → Run (List ℕ) = λ xs. turns (stages_of s0) s0.stripes s0.stall (k + 1) (begun xs) in
    let turn = turn_now s0 (turns_left c.args.stall.now) (turns_left c.loop-now.stall) c.next-held.result k refl inv.left c.next-held.ensures.turn in
    record {
      on = c.in-On.ensures.after s0 first next set refl turn inv.on;
      widths = c.turn.ensures.widths ∙ inv.widths;
      left = left_more (turns_left c.args.stall.now) (turns_left c.loop-now.stall) (turns_left c.next-held.new.self) k inv.left c.next-held.ensures.left;
      inputs = c.turn.ensures.inputs ∙ (inv.inputs ∙ ap (λ (x : Configuration g.row.N g.row.P). (shape_of x).inputs) (sym c.turn.ensures.conf));
      conf = c.turn.ensures.conf ∙ inv.conf;
      stripes = c.turn.ensures.stripes ∙ inv.stripes;
      time = (let t = c.in-On.ensures.time in omega (arith, inv.time, t));
      later = omega (arith, inv.later, c.turn.ensures.later);
    }

pub returns-in-Over-clause-turned : goal.returns-in-Over-clause-turned
returns-in-Over-clause-turned g c =
    let s0 = setting_of c.args.machine.now c.args.stall.now c.args.feed.now (g.S.Shelf.view c.args.shelf.now) (g.K.Sink.view c.args.out.now).told (not (eqb g.row.LOG 0)) in
    record {
      last = (returns-in-Over-clause-ended g c s0 refl).ended;
      asked = (let t = c.in-Over.ensures.time in omega (arith, c.loop-now.invariant.time, t));
      conf = c.turn.ensures.conf ∙ c.loop-now.invariant.conf;
      stripes = c.turn.ensures.stripes ∙ c.loop-now.invariant.stripes;
      cause = tt;
      later = omega (arith, c.loop-now.invariant.later, c.turn.ensures.later);
    }

pub returns-in-Failed-clause-turned : goal.returns-in-Failed-clause-turned
returns-in-Failed-clause-turned g c = record {
  last = tt;
  asked = tt;
  conf = c.turn.ensures.conf ∙ c.loop-now.invariant.conf;
  stripes = c.turn.ensures.stripes ∙ c.loop-now.invariant.stripes;
  cause = (let rose = c.in-Failed.ensures.cause refl in omega (arith, c.loop-now.invariant.later, rose));
  later = omega (arith, c.loop-now.invariant.later, c.turn.ensures.later);
}
