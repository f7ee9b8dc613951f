-- The line that is held back, and the one that is written.
use Rattle.std.proofs.Common.{◌≡◌, ◌⊎◌, ◌≤◌, ◌∙◌, ℕ, Bool, true, false, cond, List, [], length, Option, Some, None, IsSome, Ok, Err, String, Vec, Global, sym, ap, arith, inl, inr, true≢false}
use Rattle.pr_edge.specs.Count.{Rose}
use Rattle.pr_edge.specs.SureSink.{bytes_of, room_of, has_dropped, told_of}
use Rattle.pr_edge.specs.Tape.{Tape, IsAppended}
use Rattle.pr_edge.specs.declared.sure_sink.SureSink.{SureSink}
use Rattle.pr_system.specs.declared.words.WordsFault.{WordsFault}
use Rattle.pr_system.specs.Words.{Given}
use Rattle.pr_tool.specs.declared.notes.Bounds.{Bounds}
use Rattle.pr_tool.specs.Noted.{GainsNote}
use Rattle.pr_tool.specs.Notes.{note_of}
use Rattle.pr_tool.specs.Words.{Asked, asked_by, bounds_in}
use Rattle.pr_tool_answers.specs.declared.answers.Answer.{Answer}
use Rattle.piperench.specs.Settled.{settled, line_after}
use Rattle.piperench.specs.Ends.{asked_in}

-- ---- the line that is held back
abbrev tape : Option (List ℕ) → ℕ → Tape
tape bytes keeps = record { bytes = bytes; keeps = keeps }

pub empty_sink : (s : SureSink) → bytes_of s ≡ [] → room_of s ≡ 128 → has_dropped s ≡ false → told_of s ≡ record { bytes = Some []; keeps = 128 }
empty_sink s bytes room dropped =
    ap (λ (d : Bool). tape (cond d None (Some (bytes_of s))) (room_of s)) dropped
    ∙ (ap (λ (xs : List ℕ). tape (Some xs) (room_of s)) bytes ∙ ap (λ (n : ℕ). tape (Some []) n) room)

-- a sink that was empty and has room for the line holds it
pub held_line : (s : SureSink) (line : List ℕ) → length line ≤ 128 → GainsNote (record { bytes = Some []; keeps = 128 }) (told_of s) 0 0 line → bytes_of s ≡ line
held_line s line short (inl whole) = by_test (has_dropped s) (whole.told (omega (arith, short))) whole.appended
  where
    by_test : (d : Bool) → IsSome (cond d None (Some (bytes_of s))) → IsAppended (Some []) (cond d None (Some (bytes_of s))) line → bytes_of s ≡ line
    by_test true some appended = absurd (true≢false (sym some))
    by_test false some appended = appended
held_line s line short (inr cut) = absurd (let rose : Rose 0 0 = cut.1 in omega (arith, rose))

-- ---- the end of a call
pub settled_usage : (told : Answer) (through : Bool) → settled told through ≡ Answer.Usage → told ≡ Answer.Usage
settled_usage told true e = e
settled_usage told false e = absurd (let no : Answer.WriteFault ≡ Answer.Usage = e in cc)

pub settled_wrong : (told a : Answer) (through : Bool) → a ≡ settled told through → (told ≡ Answer.Usage) ⊎ (told ≡ Answer.Memory) → (a ≡ Answer.Usage) ⊎ ((a ≡ Answer.Memory) ⊎ (a ≡ Answer.WriteFault))
settled_wrong told a true e (inl usage) = inl (e ∙ usage)
settled_wrong told a true e (inr memory) = inr (inl (e ∙ memory))
settled_wrong told a false e is = inr (inr e)

-- the line of a write fault is the same for all bounds
pub line_is : (bounds : Bounds) (told a : Answer) (through : Bool) (held : List ℕ) → held ≡ note_of bounds told → a ≡ settled told through → line_after held through ≡ note_of bounds a
line_is bounds told a true held is e = is ∙ ap (note_of bounds) (sym e)
line_is bounds told a false held is e = ap (note_of bounds) (sym e)

-- and so is that of want of memory
pub memory_line : (bounds : Bounds) (refused a : Answer) → refused ≡ Answer.Memory → a ≡ refused → note_of (bounds_in None) refused ≡ note_of bounds a
memory_line bounds refused a memory e = ap (note_of (bounds_in None)) memory ∙ sym (ap (note_of bounds) (e ∙ memory))

-- ---- words, and why they cannot be had
pub asked_is : (given : Given) (words : Vec (String Global) Global) (list : List (String Global)) → given ≡ Ok words → list ≡ words.items → asked_by list ≡ asked_in given
asked_is given words list is same = ap asked_by same ∙ sym (ap asked_in is)

pub refused_line : (given : Given) (fault : WordsFault) (answer a : Answer) → given ≡ Err fault → a ≡ answer → note_of (bounds_in None) answer ≡ note_of (bounds_in (asked_in given)) a
refused_line given fault answer a is same = ap (note_of (bounds_in None)) (sym same) ∙ ap (λ (asked : Asked). note_of (bounds_in asked) a) (sym (ap asked_in is))
