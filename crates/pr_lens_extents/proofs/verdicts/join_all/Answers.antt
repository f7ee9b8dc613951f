use Rattle.std.proofs.Common.{◌∙◌, ◌<◌, ◌≤◌, length, length-set, min, sym, arith}
use Rattle.pr_lens_extents.proofs.Joins.{joined_next, joined_none}
use Rattle.pr_lens_extents.proofs.verdicts.join_all.Goals as goal

pub loop-at-preserved : goal.loop-at-preserved
loop-at-preserved c =
    let at = c.loop-at.at in
    let held = c.loop-at.invariant in
    let one : at < length c.loop-at.joins = omega (arith, c.loop-at-test.true, c.min-common.ensures, held.long) in
    let other : at < length c.args.turn.now = omega (arith, c.loop-at-test.true, c.min-common.ensures) in
    record {
      long = length-set c.loop-at.joins at c.joined.result ∙ held.long;
      rest = joined_next at c.loop-at.joins c.args.turn.now c.joined.result _ _ one other c.joined.ensures ∙ held.rest;
    }

pub returns : goal.returns
returns c =
    let past : min (length c.loop-at.joins) (length c.args.turn.now) ≤ c.loop-at.at = omega (arith, c.loop-at-test.false, c.min-common.ensures, c.loop-at.invariant.long) in
    record {
      joined = sym (joined_none c.loop-at.at c.loop-at.joins c.args.turn.now past) ∙ c.loop-at.invariant.rest;
      count = c.loop-at.invariant.long;
    }
