use Rattle.std.proofs.Common.{◌++◌, ◌∙◌, ap, codes, sym}
use Rattle.pr_lens_rtl_text.specs.Printed.{net_text}
use Rattle.pr_lens_rtl_text.proofs.TextLemmas.{flag_is, flag_pieces}
use Rattle.pr_lens_rtl_text.proofs.lines.put_flag.Goals as goal

pub returns : goal.returns
returns c =
    rw (c.in_ok-put-3.ensures, c.in_ok-put_net-2.ensures, c.in_ok-put-2.ensures, c.in_ok-put_net.ensures, c.in_ok-put.ensures)
    (flag_pieces c.args.text.now.items (codes "reset ? 1'b0 : (in_ready ? ") (net_text c.args.read) (codes " : ") (net_text c.args.own) (codes ")")
    ∙ ap (λ z. c.args.text.now.items ++ z) (sym (flag_is c.args.read c.args.own)))
