use Rattle.std.proofs.lemmas.Result.{on_ok_weaker}
use Rattle.pr_lens_bench.specs.declared.pieces.Piece.{Piece}
use Rattle.pr_lens_bench.specs.Pieces.{pieces_text}
use Rattle.pr_lens_bench.specs.Texts.{before_text, begin_text, head_text, module_text}
use Rattle.pr_lens_text.proofs.PutLemmas.{seven_put}
use Rattle.pr_lens_bench.proofs.texts.put_before.Goals as goal

pub returns : goal.returns
unfolding before_text
returns c =
    let design = c.args.design.now in
    let count = c.args.count in
    on_ok_weaker c.put_begin.result (λ h.
    seven_put c.args.text.now.items (head_text design.seed count) (pieces_text Piece.Sample count design.inputs.items) (pieces_text Piece.Wanted count design.outputs.items) (module_text design.name.items)
    (pieces_text Piece.Link count design.inputs.items) (pieces_text Piece.Link count design.outputs.items) begin_text
    c.in_ok-put_head.ensures (rw c.deref.ensures.value at c.in_ok-put_pieces.ensures) (rw c.deref-2.ensures.value at c.in_ok-put_pieces-2.ensures) (rw c.deref-3.ensures.value at c.in_ok-put_module.ensures)
    (rw c.deref-4.ensures.value at c.in_ok-put_pieces-3.ensures) (rw c.deref-5.ensures.value at c.in_ok-put_pieces-4.ensures) h) c.put_begin.ensures
