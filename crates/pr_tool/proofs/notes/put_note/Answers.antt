use Rattle.std.proofs.Common.{◌≡◌, ◌≤◌, ◌∙◌, ℕ, List, length, subst}
use Rattle.pr_tool.specs.Notes.{note_of}
use Rattle.pr_tool.proofs.notes.put_note.Goals as goal

pub returns-clause-gains : goal.returns-clause-gains
returns-clause-gains g c =
    let line : c.as_bytes.result.now ≡ note_of c.args.bounds.now c.args.answer.now = c.as_bytes.ensures.value ∙ (c.deref.ensures.0 ∙ c.note_line-text.ensures.bytes) in
    rw line at c.put_bytes.ensures.gains

pub returns-clause-short : goal.returns-clause-short
returns-clause-short g c = subst (λ (t : List ℕ). length t ≤ 128) c.note_line-text.ensures.bytes c.note_line-text.ensures.short
