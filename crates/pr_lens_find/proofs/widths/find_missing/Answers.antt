use Rattle.pr_lens_find.proofs.MissingLemmas.{found_told}
use Rattle.pr_lens_find.proofs.widths.find_missing.Goals as goal

pub returns : goal.returns
returns c =
    let source = c.args.source.now in
    found_told source.text.now source.tokens.now source.spans.now c.args.equation c.in_ok-number.number c.in-Some.item c.missing_of.result c.in_ok-number.ensures (rw c.in-Some.is at c.in_ok-item.ensures) c.missing_of.ensures.stands c.missing_of.ensures.told
