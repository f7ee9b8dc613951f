-- Texts, put together.
use Rattle.std.proofs.Common.{◌≡◌, ◌++◌, ℕ, List, min, max, length, append_assoc, nat_lt}
use Rattle.std.specs.Prelude.{slice_range}
use Rattle.pr_lens_text.specs.declared.lines.Line.{Line}
use Rattle.pr_lens_text.specs.declared.places.Place.{Place}
use Rattle.pr_lens_text.specs.Places.{IsLine, IsPlace}
use Rattle.pr_lens_show.specs.declared.findings.Finding.{Finding}
use Rattle.pr_lens_show.specs.Bytes.{shown}
use Rattle.pr_lens_show.specs.Findings.{IsFindingText, place_text}
use Rattle.pr_lens_show.specs.Lines.{Shows, line_text, marks_text, shown_from, shown_to, source_text}

-- the line of a place, and marks
source_put : (text old with_line new : List ℕ) (line : Line) (start end from to count : ℕ) (before : List ℕ) → from ≡ shown_from line start → to ≡ shown_to line start
    → before ≡ shown (slice_range text from start) → count ≡ length (shown (slice_range text start (max (min end to) start)))
    → with_line ≡ old ++ line_text text line from to
    → new ≡ with_line ++ marks_text line.number (nat_lt line.start from) before count → new ≡ old ++ source_text text line start end
unfolding source_text
source_put text old with_line new line start end from to count before is_from is_to is_before is_count put_line put_marks =
    rw (put_marks, put_line, is_count, is_before, is_to, is_from) (append_assoc old _ _)

pub source_shown : (text old with_line new : List ℕ) (line : Line) (start end from to count : ℕ) (before : List ℕ) → IsLine text start line → from ≡ shown_from line start → to ≡ shown_to line start
    → before ≡ shown (slice_range text from start) → count ≡ length (shown (slice_range text start (max (min end to) start)))
    → with_line ≡ old ++ line_text text line from to
    → new ≡ with_line ++ marks_text line.number (nat_lt line.start from) before count → Shows text start end old new
source_shown text old with_line new line start end from to count before is_line is_from is_to is_before is_count put_line put_marks = record {
  line = line;
  is_line = is_line;
  is = source_put text old with_line new line start end from to count before is_from is_to is_before is_count put_line put_marks;
}

-- the whole
pub finding_put : (name text : List ℕ) (f : Finding) (place : Place) (old placed noted shown told : List ℕ) → IsPlace text f.start place
    → placed ≡ old ++ place_text name place → noted ≡ placed ++ f.heading.now → Shows text f.start f.end noted shown → told ≡ shown ++ f.message.now
    → IsFindingText name text f old told
finding_put name text f place old placed noted shown told is_place put_place put_note shows put_message = record {
  place = place;
  is_place = is_place;
  line = shows.line;
  is_line = shows.is_line;
  is = rw (put_message, shows.is, put_note, put_place) (simp append_assoc);
}

-- ---- pieces, one after the other
pub eight_put : (t a b c d e f g h : List ℕ) {t1 t2 t3 t4 t5 : List ℕ} → t1 ≡ t ++ a → t2 ≡ t1 ++ b → t3 ≡ t2 ++ c ++ d → t4 ≡ t3 ++ e ++ f → t5 ≡ t4 ++ g ++ h
    → t5 ≡ t ++ (a ++ b ++ c ++ d ++ e ++ f ++ g ++ h)
eight_put t a b c d e f g h h1 h2 h3 h4 h5 = rw (h5, h4, h3, h2, h1) (simp append_assoc)
