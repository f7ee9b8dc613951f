use Rattle.std.proofs.lemmas.Result.{on_ok_weaker}
use Rattle.pr_lens_bench.specs.declared.pieces.Piece.{Piece}
use Rattle.pr_lens_bench.specs.Pieces.{pieces_text}
use Rattle.pr_lens_bench.specs.Texts.{behind_text, drive_text, end_text, look_text}
use Rattle.pr_lens_text.proofs.PutLemmas.{five_put}
use Rattle.pr_lens_bench.proofs.texts.put_behind.Goals as goal

pub returns : goal.returns
unfolding behind_text
returns c =
    let design = c.args.design.now in
    on_ok_weaker c.put_end.result (λ h.
    five_put c.args.text.now.items drive_text (pieces_text Piece.Offer 0 design.inputs.items) look_text (pieces_text Piece.Check 0 design.outputs.items) end_text
    c.in_ok-put_drive.ensures (rw c.deref.ensures.value at c.in_ok-put_pieces.ensures) c.in_ok-put_look.ensures (rw c.deref-2.ensures.value at c.in_ok-put_pieces-2.ensures) h) c.put_end.ensures
