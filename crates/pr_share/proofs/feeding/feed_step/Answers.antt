use Rattle.std.proofs.Common.{◌≡◌, ◌<◌, true, false, length, arith}
use Rattle.pr_machine.specs.Stands.{waiting_samples}
use Rattle.pr_share.proofs.Steps.{turn_ended, turn_full, turn_spent}
use Rattle.pr_share.proofs.feeding.feed_step.Goals as goal

pub returns-then-used-clause-turning : goal.returns-then-used-clause-turning
returns-then-used-clause-turning g c = λ s runs t hv on.
    let e : c.args.used.ended ≡ true = cc in
    turn_ended s runs c.args.machine.now c.args.feed.now (g.S.Shelf.view c.args.shelf.now).told t c.args.used on e

pub returns-then-waiting_in-eq-FULL-clause-turning : goal.returns-then-waiting_in-eq-FULL-clause-turning
returns-then-waiting_in-eq-FULL-clause-turning g c = λ s runs t hv on.
    let e : c.args.used.ended ≡ false = cc in
    let n : length (waiting_samples c.args.machine.now) ≡ 16 = omega (arith, c.waiting_in.ensures.is) in
    turn_full s runs c.args.machine.now c.args.feed.now (g.S.Shelf.view c.args.shelf.now).told t c.args.used on e n

pub returns-then-used-quota-clause-turning : goal.returns-then-used-quota-clause-turning
returns-then-used-quota-clause-turning g c = λ s runs t hv on.
    let e : c.args.used.ended ≡ false = cc in
    let n : length (waiting_samples c.args.machine.now) < 16 = omega (arith, c.waiting_in.ensures.is, c.waiting_in.ensures.few) in
    turn_spent s runs c.args.machine.now c.args.feed.now (g.S.Shelf.view c.args.shelf.now).told t c.args.used on e n

pub read_sample-requires : goal.read_sample-requires
read_sample-requires g c =
    let ended : c.args.used.ended ≡ false = cc in
    let room : length (waiting_samples c.args.machine.now) < 16 = omega (arith, c.waiting_in.ensures.is, c.waiting_in.ensures.few, c.if-waiting_in-eq-FULL.false) in
    let less : c.args.used.count < 4294967295 = omega (arith, c.requires.quota, c.if-used-quota.false, c.ranges.quota.fits) in
    (omega arith, (omega arith, (c.requires.inputs, (omega (arith, c.deref_mut.ensures.len, c.args.room.now.numbers_size), (omega (arith, c.deref_mut-2.ensures.len, c.args.room.now.sample_size), (room, (ended, less)))))))
