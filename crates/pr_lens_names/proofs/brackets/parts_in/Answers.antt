use Rattle.std.proofs.Common.{◌∙◌, ◌&&◌, ◌==◌, sym, ap, arith}
use Rattle.pr_lang.specs.declared.tokens.Kind.{Kind}
use Rattle.pr_lens_source.specs.Depths.{depth_after}
use Rattle.pr_lens_source.specs.Kinds.{is_comma}
use Rattle.pr_lens_source.specs.Ranges.{one_where}
use Rattle.pr_lens_names.proofs.BracketLemmas.{deep_closes, parts_first, parts_step, parts_closed, parts_open}
use Rattle.pr_lens_names.proofs.brackets.parts_in.Goals as goal

pub loop-at-init : goal.loop-at-init
loop-at-init c = parts_first c.args.source.now.tokens.now c.args.from

pub returns-then-depth-eq0 : goal.returns-then-depth-eq0
returns-then-depth-eq0 c =
    let tokens = c.args.source.now.tokens.now in
    let at = c.loop-at in
    let is_next = c.depth_after-depth.ensures ∙ ap (λ (k : Kind). depth_after at.depth k) c.kind-kind.ensures in
    let closes = deep_closes tokens c.args.from at.at at.depth (omega arith) (omega arith) (omega arith) at.invariant.deep (sym is_next ∙ c.if-depth-eq0.true) in
    parts_closed tokens c.args.from at.at at.commas c.parts_of.result closes at.invariant.many c.parts_of.ensures

pub loop-at-preserved : goal.loop-at-preserved
loop-at-preserved c =
    let tokens = c.args.source.now.tokens.now in
    let at = c.loop-at in
    let is_next = c.depth_after-depth.ensures ∙ ap (λ (k : Kind). depth_after at.depth k) c.kind-kind.ensures in
    let is_more = c.part_ends-commas.ensures.value ∙ ap (λ (k : Kind). one_where (is_comma k && (c.depth_after-depth.result == 1))) c.kind-kind.ensures in
    parts_step tokens c.args.from at.at at.depth (omega arith) (omega arith) (omega arith) at.invariant.deep at.commas c.part_ends-commas.result c.depth_after-depth.result at.invariant is_next is_more (λ none. c.if-depth-eq0.false none)

pub returns : goal.returns
returns c =
    let tokens = c.args.source.now.tokens.now in
    let at = c.loop-at in
    parts_open tokens c.args.from at.at at.depth at.commas c.saturating_add.result (omega arith) (omega arith) at.invariant (omega arith) c.saturating_add.ensures
