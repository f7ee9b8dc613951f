use Rattle.std.proofs.Common.{map, Some, refl, sym, ap, ◌∙◌, ℕ, arith, rules}
use Rattle.pr_run.specs.Setting.{setting_of, held_of}
use Rattle.pr_run.proofs.WholeRuns.{set_of}
use Rattle.pr_run.proofs.Sayings.{says_ends, says_missing, says_read_fault, says_counted}
use Rattle.pr_run.proofs.runs.run.Goals as goal

pub take_turns-end-requires : goal.take_turns-end-requires
take_turns-end-requires g c = (
  omega arith,
  (
    omega arith,
    record {
      loaded = c.requires.loaded;
      fresh = c.requires.fresh;
      inputs = c.requires.inputs;
      outputs = search rules;
      turns = c.requires.turns;
      first = refl;
    },
  ),
)

pub finish-requires : goal.finish-requires
finish-requires g c = (omega arith, (omega arith, (c.take_turns-end.ensures.turned.last, c.take_turns-end.ensures.turned.asked)))

pub returns-clause-ran : goal.returns-clause-ran
returns-clause-ran g c =
    let s0 = setting_of c.args.machine.now c.args.stall.now c.args.feed.now (g.S.Shelf.view c.args.shelf.now) (g.K.Sink.view c.args.out.now).told c.args.log in
    let set = set_of c.args.machine.now c.args.stall.now c.args.feed.now _ _ c.args.log c.requires.inputs c.requires.turns c.requires.fresh.few in
    c.finish.ensures.ran s0 c.take_turns-end.new.feed (g.S.Shelf.view c.take_turns-end.new.shelf) set refl (c.take_turns-end.ensures.ended s0 refl)

-- ---- what follows from it
pub returns-clause-ends : goal.returns-clause-ends
returns-clause-ends g c = λ file tells. says_ends _ _ _ _ _ c.finish.result (returns-clause-ran g c) file tells

pub returns-clause-missing : goal.returns-clause-missing
returns-clause-missing g c = λ lost. says_missing _ _ _ _ _ c.finish.result (returns-clause-ran g c) lost

pub returns-clause-reached : goal.returns-clause-reached
returns-clause-reached g c = λ start. (returns-clause-ran g c).read.reached (start ∙ ap (λ (n : ℕ). Some n) (sym c.requires.fresh.bytes.0))

pub returns-clause-read_fault : goal.returns-clause-read_fault
returns-clause-read_fault g c = λ e. says_read_fault _ _ _ _ _ c.finish.result (returns-clause-ran g c) e

pub returns-clause-write_fault : goal.returns-clause-write_fault
returns-clause-write_fault g c = λ e. c.finish.ensures.cause (g.K.Sink.view c.args.out.now).faults c.take_turns-end.ensures.turned.later c.take_turns-end.ensures.turned.cause e

pub returns-clause-counted : goal.returns-clause-counted
returns-clause-counted g c =
    let set = set_of c.args.machine.now c.args.stall.now c.args.feed.now (g.S.Shelf.view c.args.shelf.now) (g.K.Sink.view c.args.out.now).told c.args.log c.requires.inputs c.requires.turns c.requires.fresh.few in
    λ none. says_counted _ _ _ _ _ c.finish.result set (ap (map held_of) none) (returns-clause-ran g c)

pub returns-clause-conf : goal.returns-clause-conf
returns-clause-conf g c = c.take_turns-end.ensures.turned.conf

pub returns-clause-stripes : goal.returns-clause-stripes
returns-clause-stripes g c = c.take_turns-end.ensures.turned.stripes

pub returns-clause-file : goal.returns-clause-file
returns-clause-file g c = (returns-clause-ran g c).read.file

pub returns-clause-told : goal.returns-clause-told
returns-clause-told g c = (returns-clause-ran g c).read.told

pub returns-clause-others : goal.returns-clause-others
returns-clause-others g c = (returns-clause-ran g c).read.others

pub returns-clause-shelf_later : goal.returns-clause-shelf_later
returns-clause-shelf_later g c = (returns-clause-ran g c).read.later

pub returns-clause-out_later : goal.returns-clause-out_later
returns-clause-out_later g c = omega (arith, c.take_turns-end.ensures.turned.later, c.finish.ensures.later)
