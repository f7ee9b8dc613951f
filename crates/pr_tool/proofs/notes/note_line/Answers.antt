use Rattle.std.proofs.Common.{◌∷◌, [], ◌++◌, refl, sym, ◌∙◌}
use Rattle.pr_tool.proofs.NotesLemmas.{note_of-line, line_bytes}
use Rattle.pr_tool.proofs.notes.note_line.Goals as goal

pub returns-clause-bytes : goal.returns-clause-bytes
returns-clause-bytes c =
    line_bytes c.push_str.new.self.bytes _ _ _ _ _ refl refl c.push_str.ensures.bytes c.put_answer.ensures.bytes c.new-text.ensures
    ∙ sym (note_of-line c.args.bounds.now c.args.answer.now c.in_default.not-Ok)
