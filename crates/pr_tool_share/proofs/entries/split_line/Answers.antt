use Rattle.std.proofs.Common.{◌∷◌, ◌+◌, take, length, sym, ap, ◌∙◌}
use Rattle.std.proofs.lemmas.List.{take_rest}
use Rattle.pr_tool_share.specs.Entries.{list_lines}
use Rattle.pr_tool_share.proofs.ListLaws.{lines_one, lines_split}
use Rattle.pr_tool_share.proofs.entries.split_line.Goals as goal

pub returns-in-None-clause-lines : goal.returns-in-None-clause-lines
returns-in-None-clause-lines c =
    let text = c.args.text.now in
    lines_one text c.requires (sym c.line_end.ensures.place ∙ c.in-None.is)
    ∙ ap (λ xs. text ∷ list_lines xs) (sym (take_rest text (length text)))

pub returns-in-Some-clause-lines : goal.returns-in-Some-clause-lines
returns-in-Some-clause-lines c =
    let text = c.args.text.now in
    let end = c.in-Some.end in
    lines_split text end (sym c.line_end.ensures.place ∙ c.in-Some.is) c.in-Some.ensures.within
    ∙ ap (λ xs. take end text ∷ list_lines xs) (sym (take_rest text (end + 1)))
