use Rattle.std.proofs.Common.{◌-◌, ◌<◌, ◌≤◌, ◌++◌, arith, sym, ap, ◌∙◌, length}
use Rattle.std.proofs.lemmas.List.{take_rest}
use Rattle.pr_lang.specs.Tokens.{Gap, Whole, Broken}
use Rattle.pr_parse_lex.proofs.Scans.{sized_at, tokens_at, tokens_end, one_more, last_one}
use Rattle.pr_parse_lex.proofs.lexer.tokens.Goals as goal

pub overflow_add-at : goal.overflow_add-at
overflow_add-at c = let s : (0 < c.in-Gap.size) × (c.in-Gap.size ≤ length c.args.text.now - c.loop-at.at) = sized_at c.args.text.now _ c.loop-at.at (Gap c.in-Gap.size) c.loop-at-test.true (take_rest c.args.text.now c.loop-at.at) c.in-Gap.ensures in omega arith

pub loop-at-smaller-in-Gap : goal.loop-at-smaller-in-Gap
loop-at-smaller-in-Gap c = let s : (0 < c.in-Gap.size) × (c.in-Gap.size ≤ length c.args.text.now - c.loop-at.at) = sized_at c.args.text.now _ c.loop-at.at (Gap c.in-Gap.size) c.loop-at-test.true (take_rest c.args.text.now c.loop-at.at) c.in-Gap.ensures in omega arith

pub loop-at-preserved-in-Gap : goal.loop-at-preserved-in-Gap
loop-at-preserved-in-Gap c = let s : (0 < c.in-Gap.size) × (c.in-Gap.size ≤ length c.args.text.now - c.loop-at.at) = sized_at c.args.text.now _ c.loop-at.at (Gap c.in-Gap.size) c.loop-at-test.true (take_rest c.args.text.now c.loop-at.at) c.in-Gap.ensures in
    record {
      within = omega arith;
      rest = ap (λ l. c.loop-at.found.items ++ l) (sym (tokens_at c.args.text.now _ c.loop-at.at (Gap c.in-Gap.size) c.loop-at-test.true (take_rest c.args.text.now c.loop-at.at) c.in-Gap.ensures)) ∙ c.loop-at.invariant.rest;
    }

pub token_at-requires : goal.token_at-requires
token_at-requires c = let s : (0 < c.in-Whole.size) × (c.in-Whole.size ≤ length c.args.text.now - c.loop-at.at) = sized_at c.args.text.now _ c.loop-at.at (Whole c.in-Whole.kind c.in-Whole.size) c.loop-at-test.true (take_rest c.args.text.now c.loop-at.at) c.in-Whole.ensures in omega arith

pub loop-at-smaller : goal.loop-at-smaller
loop-at-smaller c = let s : (0 < c.in-Whole.size) × (c.in-Whole.size ≤ length c.args.text.now - c.loop-at.at) = sized_at c.args.text.now _ c.loop-at.at (Whole c.in-Whole.kind c.in-Whole.size) c.loop-at-test.true (take_rest c.args.text.now c.loop-at.at) c.in-Whole.ensures in omega arith

pub loop-at-preserved : goal.loop-at-preserved
loop-at-preserved c = let s : (0 < c.in-Whole.size) × (c.in-Whole.size ≤ length c.args.text.now - c.loop-at.at) = sized_at c.args.text.now _ c.loop-at.at (Whole c.in-Whole.kind c.in-Whole.size) c.loop-at-test.true (take_rest c.args.text.now c.loop-at.at) c.in-Whole.ensures in
    record {
      within = omega arith;
      rest = one_more c.loop-at.found.items _ _ _ _ c.token_at.result _ c.in_ok-push-in-Whole.ensures.items c.token_at.ensures (tokens_at c.args.text.now _ c.loop-at.at (Whole c.in-Whole.kind c.in-Whole.size) c.loop-at-test.true (take_rest c.args.text.now c.loop-at.at) c.in-Whole.ensures) c.loop-at.invariant.rest;
    }

pub token_at-requires-in-Broken : goal.token_at-requires-in-Broken
token_at-requires-in-Broken c = let s : c.in-Broken.size ≤ length c.args.text.now - c.loop-at.at = sized_at c.args.text.now _ c.loop-at.at (Broken c.in-Broken.size) c.loop-at-test.true (take_rest c.args.text.now c.loop-at.at) c.in-Broken.ensures in omega arith

pub returns-in-Broken : goal.returns-in-Broken
returns-in-Broken c = last_one c.loop-at.found.items _ _ _ c.token_at-in-Broken.result _ c.in_ok-push-in-Broken.ensures.items c.token_at-in-Broken.ensures (tokens_at c.args.text.now _ c.loop-at.at (Broken c.in-Broken.size) c.loop-at-test.true (take_rest c.args.text.now c.loop-at.at) c.in-Broken.ensures) c.loop-at.invariant.rest

pub returns : goal.returns
returns c = last_one c.loop-at.found.items _ _ _ c.token_at-2.result _ c.in_ok-push.ensures.items c.token_at-2.ensures (tokens_end c.args.text.now c.loop-at.at c.loop-at-test.false) c.loop-at.invariant.rest
