use Rattle.std.proofs.Common.{◌∙◌, ◌+◌, ℕ, sym, ap, subst, arith}
use Rattle.pr_lang.specs.declared.tokens.Kind.{Kind}
use Rattle.pr_lens_source.specs.Depths.{depth_after}
use Rattle.pr_lens_names.proofs.BracketLemmas.{IsDeepAt, deep_first, deep_none, deep_closes, deep_more}
use Rattle.pr_lens_names.proofs.brackets.closing_of.Goals as goal

pub loop-at-init : goal.loop-at-init
loop-at-init c = deep_first c.args.source.now.tokens.now c.args.from

pub returns-then-depth-eq0 : goal.returns-then-depth-eq0
returns-then-depth-eq0 c =
    let at = c.loop-at in
    let is_next = c.depth_after-depth.ensures ∙ ap (λ (k : Kind). depth_after at.depth k) c.kind-kind.ensures in
    sym (deep_closes c.args.source.now.tokens.now c.args.from at.at at.depth (omega arith) (omega arith) (omega arith) at.invariant (sym is_next ∙ c.if-depth-eq0.true))

pub loop-at-preserved : goal.loop-at-preserved
loop-at-preserved c =
    let at = c.loop-at in
    let is_next = c.depth_after-depth.ensures ∙ ap (λ (k : Kind). depth_after at.depth k) c.kind-kind.ensures in
    subst (λ (d : ℕ). IsDeepAt c.args.source.now.tokens.now c.args.from (at.at + 1) d) (sym is_next)
    (deep_more c.args.source.now.tokens.now c.args.from at.at at.depth (omega arith) (omega arith) (omega arith) at.invariant (λ none. c.if-depth-eq0.false (is_next ∙ none)))

pub returns : goal.returns
returns c = sym (deep_none c.args.source.now.tokens.now c.args.from c.loop-at.at c.loop-at.depth (omega arith) c.loop-at.invariant)
