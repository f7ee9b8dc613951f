use Rattle.std.proofs.Common.{◌++◌, ◌∙◌, ap, codes, decimal, sym}
use Rattle.pr_lens_rtl_text.specs.Printed.{net_text}
use Rattle.pr_lens_rtl_text.proofs.TextLemmas.{change_is, change_pieces_flat}
use Rattle.pr_lens_rtl_text.proofs.lines.put_change.Goals as goal

pub returns : goal.returns
returns c =
    rw (c.in_ok-put-3.ensures, c.in_ok-put_net.ensures, c.in_ok-put-2.ensures, c.in_ok-put_read.ensures, c.in_ok-put.ensures, c.in_ok-put_counted.ensures, c.from.ensures)
    (change_pieces_flat c.args.text.now.items (codes "reset ? 8'd") (decimal c.args.change.first) (codes " : (in_ready ? (")
    (net_text c.args.change.read ++ codes " ? " ++ net_text c.args.change.next ++ codes " : " ++ net_text c.args.change.own) (codes ") : ") (net_text c.args.change.own) (codes ")")
    ∙ ap (λ z. c.args.text.now.items ++ z) (sym (change_is c.args.change)))
