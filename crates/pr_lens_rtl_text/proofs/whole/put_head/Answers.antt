use Rattle.std.proofs.Common.{codes}
use Rattle.pr_lens_rtl_text.specs.Modules.{head_text}
use Rattle.pr_lens_rtl_text.proofs.WholeLemmas.{three_pieces}
use Rattle.pr_lens_rtl_text.proofs.whole.put_head.Goals as goal

pub returns : goal.returns
unfolding head_text
returns c =
    rw (c.in_ok-put-2.ensures, c.in_ok-put_bytes.ensures, c.in_ok-put.ensures)
    (three_pieces c.args.text.now.items (codes "/* verilator lint_off UNUSED */\nmodule ") c.args.name.now
    (codes "(\n  input clock,\n  input reset,\n  input in_valid,\n  output in_ready,\n  output out_valid,\n  input out_ready"))
