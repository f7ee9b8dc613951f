use Rattle.std.proofs.Common.{◌∙◌, ap, drop, subst}
use Rattle.pr_lang.specs.Shape.{item_shape}
use Rattle.pr_lang.specs.Printed.{spelling}
use Rattle.pr_parse_print.specs.Put.{IsPut}
use Rattle.pr_parse_print.proofs.Lists.{line_put}
use Rattle.pr_parse_print.proofs.lines.put_line.Goals as goal

pub returns : goal.returns
returns c = line_put c.args.text.now.items _ _ c.put_item.new.text.items _ _ (subst (λ l. IsPut l (spelling (item_shape c.args.item.now)) c.put_item.new.text.items) c.new-line.ensures.items c.in_ok-put_item.ensures) (c.after_first.ensures ∙ ap (drop 1) c.deref.ensures.value) c.in_ok-extend_from_slice.ensures.items c.in_ok-push.ensures.items
