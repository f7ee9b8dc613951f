-- The line of an answer that is not Ok.
use Rattle.std.proofs.Common.{◌≡◌, ◌≢◌, ℕ, List, [], ◌∷◌, ◌++◌, refl, ap, ◌∙◌}
use Rattle.pr_tool_answers.specs.declared.answers.Answer.{Answer}
use Rattle.pr_tool.specs.declared.notes.Bounds.{Bounds}
use Rattle.pr_tool.specs.Notes.{answer_text, note_of}

pub note_of-line : (bounds : Bounds) (answer : Answer) → answer ≢ Answer.Ok → note_of bounds answer ≡ answer_text bounds answer ++ 10 ∷ []
note_of-line bounds Answer.Ok h = absurd (h refl)
note_of-line bounds Answer.Usage h = refl
note_of-line bounds (Answer.Syntax token) h = refl
note_of-line bounds (Answer.Scope rule item) h = refl
note_of-line bounds (Answer.NoWidth equation) h = refl
note_of-line bounds (Answer.NoFit unit) h = refl
note_of-line bounds (Answer.Limit which) h = refl
note_of-line bounds (Answer.BadSample line) h = refl
note_of-line bounds (Answer.BadStall place) h = refl
note_of-line bounds (Answer.BadConfig rule place) h = refl
note_of-line bounds (Answer.BadList line) h = refl
note_of-line bounds (Answer.Part program cause) h = refl
note_of-line bounds Answer.ReadFault h = refl
note_of-line bounds Answer.WriteFault h = refl
note_of-line bounds Answer.Memory h = refl

-- the bytes of the line, through the calls that made it
pub line_bytes : (now shown pushed put new text : List ℕ) → now ≡ shown → shown ≡ pushed → pushed ≡ put ++ 10 ∷ [] → put ≡ new ++ text → new ≡ [] → now ≡ text ++ 10 ∷ []
line_bytes now shown pushed put new text a b d e f = a ∙ b ∙ d ∙ ap (λ (x : List ℕ). x ++ 10 ∷ []) (e ∙ ap (λ (y : List ℕ). y ++ text) f)
