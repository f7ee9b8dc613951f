use Rattle.std.proofs.Common.{◌∙◌, ◌++◌, ap, refl, List, ℕ}
use Rattle.pr_tool.specs.declared.notes.Bounds.{Bounds}
use Rattle.pr_tool.specs.Notes.{note_of}
use Rattle.pr_lens_show.specs.declared.findings.Finding.{Finding}
use Rattle.pr_lens_show.specs.declared.findings.Severity.{Severity}
use Rattle.pr_lens_why.specs.Codes.{code_of}
use Rattle.pr_lens_tool.specs.Asked.{target_in}
use Rattle.pr_lens_tool.specs.Programs.{IsFinding, bounds_for}
use Rattle.pr_lens_tool.proofs.ProgramLemmas.{explanation_told}
use Rattle.pr_lens_tool.proofs.programs.explained.Goals as goal

pub returns : goal.returns
returns c =
    let e = c.args.explanation.now in
    let answer = c.args.answer.now in
    let f : Finding = record { severity = Severity.Error; code = c.deref.result; heading = c.as_bytes.result; start = e.start; end = e.end; message = c.deref-3.result } in
    let code = c.deref.ensures.value ∙ (c.in_ok-put_code.ensures ∙ ap (λ (b : List ℕ). b ++ code_of e.fault) c.new-code.ensures.items) in
    let heading = c.as_bytes.ensures.value ∙ (c.deref-2.ensures.0 ∙ (c.note_line-note.ensures.bytes ∙ ap (λ (b : Bounds). note_of b answer) c.bounds_of-bounds.ensures)) in
    let is : IsFinding e (note_of (bounds_for c.args.target.now.fabric) answer) f = record { severity = refl; code = code; heading_is = heading; start = refl; end = refl; message = c.deref-3.ensures.value } in
    explanation_told (target_in c.args.target.now) c.args.json c.args.text.now e answer f c.new-told.result.items c.put_as.new.told.items c.new-told.ensures.items is c.in_ok-put_as.ensures
