use Rattle.std.proofs.Common.{◌≡◌, ℕ, List, length, true, ap, sym, subst, ◌∙◌}
use Rattle.pr_flat.specs.Widths.{operand_width}
use Rattle.pr_width.specs.Reads.{is_within}
use Rattle.pr_lens_signals.proofs.tracks.width_of.Goals as goal

pub operand_width-requires : goal.operand_width-requires
operand_width-requires c =
    let same : c.deref.result.now ≡ c.args.widths.now = cc (c.deref.ensures.value, c.widths.view_is) in
    subst (λ (ws : List ℕ). is_within (length ws) c.args.operand ≡ true) (sym same) c.requires

pub returns : goal.returns
returns c =
    let same : c.deref.result.now ≡ c.args.widths.now = cc (c.deref.ensures.value, c.widths.view_is) in
    c.operand_width.ensures ∙ ap (λ (ws : List ℕ). operand_width ws c.args.operand) same
