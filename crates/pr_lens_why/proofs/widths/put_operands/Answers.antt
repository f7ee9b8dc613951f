use Rattle.std.proofs.Common.{◌∙◌, sym}
use Rattle.std.proofs.lemmas.Result.{on_ok_weaker}
use Rattle.pr_lens_why.proofs.WidthLemmas.{operands_put}
use Rattle.pr_lens_why.proofs.widths.put_operands.Goals as goal

pub returns : goal.returns
returns c =
    on_ok_weaker c.put-2.result (λ h. operands_put c.args.message.now.items c.args.widths.now c.put.new.text.items c.put_extents.new.message.items c.put-2.new.text.items
    (sym c.is_empty.ensures ∙ c.if-is_empty.false) (sym c.has_inside.ensures ∙ c.if-has_inside.false) c.in_ok-put.ensures c.in_ok-put_extents.ensures h) c.put-2.ensures
