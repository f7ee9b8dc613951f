-- The steps of a feed.

use Rattle.std.proofs.Common.{◌≡◌, ℕ, ◌+◌, ◌-◌, ◌<◌, List, [], ◌++◌, take, drop, length, length-append, ap, sym, ◌∙◌, Some, None, inl, inr, refl, arith}
use Rattle.std.proofs.lemmas.Bool.Decides.{eqb_tells}
use Rattle.std.proofs.lemmas.List.{length-take, length-take-le, take_all, take-append-drop}
use Rattle.pr_edge.specs.Files.{Told, OfFile, IsPart, raised}
use Rattle.pr_samples.specs.declared.tails.Tail.{Tail}
use Rattle.pr_samples.specs.declared.feed.Feed.{Feed}
use Rattle.pr_samples.specs.declared.scan.Phase.{Phase}
use Rattle.pr_samples.specs.Fed.{Taken, Fed, BadSample, fed_text, fed_within}
use Rattle.pr_samples.specs.Scan.{Scan, Found, first_line}
use Rattle.pr_samples.specs.Feed.{SameFile, SameBytes, Tells, IsReadBy, StandsFor, IsMet, IsOver, pending_of, tail_after, fed, whole_samples}
use Rattle.pr_samples.proofs.ReadingLemmas.{window-none, IsReading-read, IsReading-move, IsMeeting-found, IsReading-fault}
use Rattle.pr_samples.proofs.WrongLines.{IsReading-bad}

-- how much is left to do at the end of the bytes that were read
abbrev pub tail_weight : Tail → ℕ
tail_weight Tail.Open = 1
tail_weight Tail.Ended = 0
tail_weight Tail.Cut = 0

-- a fact of the told bytes of a file
pub of_told : (told : Told) (name file : List ℕ) (P : List ℕ → Type 0) → Tells told name file → OfFile told name P → P file
of_told None name file P t h = absurd t
of_told (Some files) name file P t h = rw t at h

-- a feed that reads on
pub read_step : (f f' : Feed) (s : Scan) (file buffer : List ℕ) (count : ℕ)
    → IsReadBy f s file → f.tail ≡ Tail.Open → f.start ≡ f.end → IsPart file f.place count buffer → 0 < length buffer
    → SameFile f f' → f'.given ≡ f.given → f'.passed ≡ f.passed → f'.place ≡ f.place + count → f'.tail ≡ tail_after count f.limit f'.place
    → pending_of f' ≡ take (f.limit - f.place) (take count buffer) → IsReadBy f' s file
read_step f f' s file buffer count h is_open spent part some same given passed place tail pending =
    let none : pending_of f ≡ [] = window-none f.start f.end f.buffer.items spent in
    let h' = rw (is_open, none) at h in
    rw (same.widths, same.limit, same.most, given, passed, tail, place, pending) (IsReading-read _ _ _ _ _ _ _ _ _ _ h' part some)

-- a feed that goes on in what it has read
pub move_step : (f f' : Feed) (s s' : Scan) (file : List ℕ)
    → IsReadBy f s file → SameFile f f' → SameBytes f f'
    → ((more : List ℕ) → first_line f.widths.items s' f'.passed (pending_of f' ++ more) ≡ first_line f.widths.items s f.passed (pending_of f ++ more))
    → IsReadBy f' s' file
move_step f f' s s' file h same bytes on =
    rw (same.widths, same.limit, same.most, bytes.place, bytes.tail, bytes.given) (IsReading-move _ _ _ _ _ _ _ _ _ _ _ _ _ h on)

-- a feed of which only the numbers changed
pub kept_step : (f f' : Feed) (file : List ℕ) → StandsFor f file → SameFile f f' → SameBytes f f' → f'.passed ≡ f.passed → pending_of f' ≡ pending_of f → StandsFor f' file
kept_step f f' file h same bytes passed pending =
    rw (same.widths, same.limit, same.most, bytes.place, bytes.tail, bytes.given, passed, pending) h

-- a feed that meets a line
pub found_step : (f f' : Feed) (s : Scan) (taken : Taken) (file : List ℕ)
    → IsReadBy f s file → SameFile f f' → SameBytes f f'
    → ((more : List ℕ) → Found taken f'.passed (pending_of f' ++ more) ≡ first_line f.widths.items s f.passed (pending_of f ++ more))
    → IsMet f' taken f'.passed file
found_step f f' s taken file h same bytes on =
    rw (same.widths, same.limit, same.most, bytes.place, bytes.tail, bytes.given) (IsMeeting-found _ _ _ _ _ _ _ _ _ _ _ _ _ h on)

-- a feed whose file could not be read
pub fault_step : (f : Feed) (s : Scan) (file : List ℕ) → IsReadBy f s file → f.tail ≡ Tail.Open → f.start ≡ f.end → f.given ≡ length (fed_within f.widths.items f.limit f.most file f.place).samples
fault_step f s file h is_open spent =
    let none : pending_of f ≡ [] = window-none f.start f.end f.buffer.items spent in
    IsReading-fault _ _ _ _ _ _ _ _ (rw (is_open, none) at h)

-- a read from the reach on
pub raised-here : (place count : ℕ) → raised (Some place) place count ≡ Some (place + count)
raised-here place count = elim (eqb_tells place place) [ inl e ↦ rw e.0 refl | inr e ↦ absurd (e.1 refl) ]

-- a feed that may read on has given samples of whole lines alone
pub open_gave_whole : (f : Feed) (file : List ℕ) → StandsFor f file → length (whole_samples f file) < f.given → f.tail ≡ Tail.Open → ⊥
open_gave_whole f file h more is_open =
    let all = take f.limit file in
    let samples = (fed f file).samples in
    let whole : take (length file) all ≡ take f.place all ++ drop f.place all = take_all (length file) all (simp length-take (omega arith)) ∙ sym (take-append-drop f.place all) in
    let read = (rw is_open at h).rest Tail.Open (drop f.place all) tt in
    let count = ap (λ text. length (fed_text f.widths.items f.most 0 Tail.Open text).samples) whole ∙ ap (λ (x : Fed). length x.samples) read in
    let first : length (take f.given samples) ≡ f.given = length-take-le f.given samples h.counted in
    omega (arith, more, count, first, length-append {A = List ℕ})

-- a feed whose line is bad
pub wrong_step : (f : Feed) (s : Scan) (file : List ℕ) → IsReadBy f s file → f.start ≡ f.end → s.phase ≡ Phase.Wrong → IsOver f file (BadSample (f.passed + 1))
wrong_step f s file h spent wrong =
    let none : pending_of f ≡ [] = window-none f.start f.end f.buffer.items spent in
    let over = IsReading-bad _ _ _ _ _ _ _ _ _ (rw none at h) wrong in
    record { all = over.0; ends = over.1 }
