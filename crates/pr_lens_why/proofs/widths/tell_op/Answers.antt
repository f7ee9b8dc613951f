use Rattle.std.proofs.Common.{◌∙◌, ◌++◌, List, ℕ, codes, decimal, refl, sym, ap}
use Rattle.std.proofs.lemmas.Result.{on_ok_weaker}
use Rattle.pr_lens_text.proofs.PutLemmas.{three_put}
use Rattle.pr_lens_why.specs.Widths.{op_text, slice_text}
use Rattle.pr_lens_why.proofs.WidthLemmas.{op_other}
use Rattle.pr_lens_why.proofs.widths.tell_op.Goals as goal

pub returns-in_ok-put_counted-in-Slice : goal.returns-in_ok-put_counted-in-Slice
unfolding op_text
returns-in_ok-put_counted-in-Slice c =
    rw c.in-Slice.is (on_ok_weaker c.tell_slice.result (λ h. three_put c.args.message.now.items (codes "The slice asks for bit ") (decimal c.in-Slice.high) slice_text refl c.in_ok-put_counted-in-Slice.ensures h) c.tell_slice.ensures)

pub returns-in_default : goal.returns-in_default
returns-in_default c =
    on_ok_weaker c.put-in_default.result (λ h. (rw c.other_text.ensures at h) ∙ ap (λ (words : List ℕ). c.args.message.now.items ++ words) (sym (op_other c.args.op.now c.in_default.not-Choose c.in_default.not-Slice c.in_default.not-Rec))) c.put-in_default.ensures
