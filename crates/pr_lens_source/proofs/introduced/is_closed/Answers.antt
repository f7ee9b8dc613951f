use Rattle.std.proofs.Common.{◌≡◌, ◌∙◌, ◌+◌, Bool, cond, max, sym, ap, subst, arith}
use Rattle.pr_lens_source.proofs.IntroducedLemmas.{block_first, block_none, block_closes, block_more}
use Rattle.pr_lens_source.proofs.introduced.is_closed.Goals as goal
use Rattle.pr_lens_source.proofs.introduced.is_closed.Goals.{else-depth-le1-via-then-depth-le1+else-closes, else-depth-le1-via-else-depth-le1}
use Rattle.pr_lens_source.specs.Kinds.{is_close_curly, is_open_curly}

pub loop-token-init : goal.loop-token-init
loop-token-init c = block_first c.args.source.now.tokens.now c.args.from c.args.at

pub returns-then-closes : goal.returns-then-closes
returns-then-closes c =
    let at = c.loop-token in
    block_closes c.args.source.now.tokens.now c.args.from c.args.at at.token at.depth (omega arith) c.loop-token-test.true at.invariant c.if-depth-le1.true
    (ap is_close_curly (sym c.kind-kind.ensures) ∙ (sym c.is_close_curly-closes.ensures ∙ c.if-closes.true))

pub loop-token-preserved : goal.loop-token-preserved
loop-token-preserved c =
    let at = c.loop-token in
    let closes = c.is_close_curly-closes.result in
    block_more c.args.source.now.tokens.now c.args.from c.args.at at.token at.depth (omega arith) c.loop-token-test.true at.invariant c.counted-depth.result closes
    (c.is_close_curly-closes.ensures ∙ ap is_close_curly c.kind-kind.ensures)
    (λ both. elim c.else-depth-le1.branch [
      | else-depth-le1-via-then-depth-le1+else-closes w ↦ (let opposite = sym both.1 ∙ w.if-closes.false in cc)
      | else-depth-le1-via-else-depth-le1 w ↦ omega (arith, both.0, w.if-depth-le1.false)
    ])
    (subst (λ (b : Bool). c.counted-depth.result + cond closes 1 0 ≡ max (at.depth + cond b 1 0) (cond closes 1 0)) (c.is_open_curly.ensures ∙ ap is_open_curly c.kind-kind.ensures) c.counted-depth.ensures)

pub returns : goal.returns
returns c = block_none c.args.source.now.tokens.now c.args.from c.args.at c.loop-token.token c.loop-token.depth c.loop-token-test.false c.loop-token.invariant
