use Rattle.std.proofs.Common.{◌∙◌, refl}
use Rattle.pr_gen.proofs.TextsLemmas.{program_text_pieces}
use Rattle.pr_gen.proofs.program_of.Goals as goal

pub returns : goal.returns
returns c =
    let next = c.as_bytes.ensures.value ∙ c.format.ensures.text in
    let last = c.as_bytes-2.ensures.value ∙ c.format-2.ensures.text in
    rw (program_text_pieces c.args.k)
    (rw (c.in_ok-extend_from_slice-5.ensures.items, c.in_ok-extend_from_slice-4.ensures.items, c.in_ok-extend_from_slice-3.ensures.items, c.in_ok-extend_from_slice-2.ensures.items, c.in_ok-extend_from_slice.ensures.items, c.in_ok-put_table.ensures, c.in_ok-text.ensures.items, next, last) refl)
