use Rattle.std.proofs.Common.{◌∙◌, ◌-◌, refl, sym, ap}
use Rattle.pr_lens_source.specs.Kinds.{is_close_square, is_open_square, is_semi}
use Rattle.pr_lens_names.proofs.BracketLemmas.{past_first, past_none, past_semi, past_opens, past_more}
use Rattle.pr_lens_names.proofs.brackets.square_around.Goals as goal
use Rattle.pr_lens_names.proofs.brackets.square_around.Goals.{else-closed-eq0-via-then-closed-eq0+else-opens, else-closed-eq0-via-else-closed-eq0}

pub loop-at-init : goal.loop-at-init
loop-at-init c = past_first c.args.source.now.tokens.now c.args.token

pub returns-then-is_semi : goal.returns-then-is_semi
returns-then-is_semi c =
    let at = c.loop-at in
    past_semi c.args.source.now.tokens.now c.args.token at.at at.closed (at.at - 1) c.loop-at-test.true refl at.invariant
    (ap is_semi (sym c.kind-kind.ensures) ∙ (sym c.is_semi.ensures ∙ c.if-is_semi.true))

pub returns-then-opens : goal.returns-then-opens
returns-then-opens c =
    let at = c.loop-at in
    past_opens c.args.source.now.tokens.now c.args.token at.at at.closed (at.at - 1) c.loop-at-test.true refl at.invariant
    (ap is_semi (sym c.kind-kind.ensures) ∙ (sym c.is_semi.ensures ∙ c.if-is_semi.false)) c.if-closed-eq0.true
    (ap is_open_square (sym c.kind-kind.ensures) ∙ (sym c.is_open_square-opens.ensures ∙ c.if-opens.true))

pub loop-at-preserved : goal.loop-at-preserved
loop-at-preserved c =
    let at = c.loop-at in
    let tokens = c.args.source.now.tokens.now in
    let opens = c.is_open_square-opens.ensures ∙ ap is_open_square c.kind-kind.ensures in
    let closes = c.is_close_square.ensures ∙ ap is_close_square c.kind-kind.ensures in
    past_more tokens c.args.token at.at at.closed (at.at - 1) c.loop-at-test.true refl at.invariant c.counted-closed.result
    (ap is_semi (sym c.kind-kind.ensures) ∙ (sym c.is_semi.ensures ∙ c.if-is_semi.false))
    (λ both. elim c.else-closed-eq0.branch [
      | else-closed-eq0-via-then-closed-eq0+else-opens w ↦ (let opposite = sym (opens ∙ both.1) ∙ w.if-opens.false in cc)
      | else-closed-eq0-via-else-closed-eq0 w ↦ w.if-closed-eq0.false both.0
    ])
    (rw (opens, closes) at c.counted-closed.ensures)

pub returns : goal.returns
returns c = past_none c.args.source.now.tokens.now c.args.token c.loop-at.at c.loop-at.closed c.loop-at-test.false c.loop-at.invariant
