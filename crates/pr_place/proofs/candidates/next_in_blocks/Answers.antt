use Rattle.std.proofs.Common.{sym, ◌∙◌, ◌≤◌, arith}
use Rattle.pr_place.specs.Candidates.{is_allowed}
use Rattle.pr_place.proofs.Searches.{split_some, split_none}
use Rattle.pr_place.proofs.candidates.next_in_blocks.Goals as goal

pub returns-then-is_some : goal.returns-then-is_some
returns-then-is_some c =
    let low : c.loop-at.at ≤ c.min-end.result = omega (arith, c.min-end.ensures, c.loop-at-test.true) in
    let high : c.min-end.result ≤ c.args.to = omega (arith, c.min-end.ensures) in
    split_some (is_allowed c.args.ready.now c.args.allowed) c.loop-at.at c.min-end.result c.args.to c.next_in_block-found.result low high c.next_in_block-found.ensures (sym c.is_some.ensures ∙ c.if-is_some.true) ∙ c.loop-at.invariant.rest

pub loop-at-preserved : goal.loop-at-preserved
loop-at-preserved c =
    let low : c.loop-at.at ≤ c.min-end.result = omega (arith, c.min-end.ensures, c.loop-at-test.true) in
    let high : c.min-end.result ≤ c.args.to = omega (arith, c.min-end.ensures) in
    record {
      rest = split_none (is_allowed c.args.ready.now c.args.allowed) c.loop-at.at c.min-end.result c.args.to c.next_in_block-found.result low high c.next_in_block-found.ensures (sym c.is_some.ensures ∙ c.if-is_some.false) ∙ c.loop-at.invariant.rest;
      inside = high;
    }
