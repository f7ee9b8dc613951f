-- The texts of rows, one more each time.
use Rattle.std.proofs.Common.{◌≡◌, ◌+◌, ◌<◌, ℕ, List, [], ◌∷◌, ◌++◌, length, length-append, append_assoc, append-nil, refl, sym, ap, ◌∙◌, arith}
use Rattle.pr_lens_tracks.specs.declared.looks.Form.{Form}
use Rattle.pr_lens_tracks.specs.declared.looks.Form.TheVariants.{Csv, Wave}
use Rattle.pr_lens_tracks.specs.declared.looks.Track.{Track}
use Rattle.pr_lens_tracks.specs.declared.pens.Pen.{Pen}
use Rattle.pr_lens_tracks.specs.Texts.{HasWritten, last_from, row_text, rows_from, rows_text, text_behind}

last-more : (before : List ℕ) (rows : List (List ℕ)) (row : List ℕ) → last_from before (rows ++ row ∷ []) ≡ row
last-more before [] row = refl
last-more before (r ∷ rows) row = last-more r rows row

from-more : (form : Form) (tracks : List Track) (count : ℕ) (before : List ℕ) (rows : List (List ℕ)) (row : List ℕ)
    → rows_from form tracks count before (rows ++ row ∷ []) ≡ rows_from form tracks count before rows ++ row_text form tracks (count + length rows) (last_from before rows) row
from-more form tracks count before [] row =
    append-nil (row_text form tracks count before row) ∙ ap (λ (k : ℕ). row_text form tracks k before row) (let e : count ≡ count + 0 = omega arith in e)
from-more form tracks count before (r ∷ rows) row =
    let first = row_text form tracks count before r in
    let rest = rows_from form tracks (count + 1) r rows in
    ap (λ (t : List ℕ). first ++ t) (from-more form tracks (count + 1) r rows row)
    ∙ (sym (append_assoc first rest (row_text form tracks (count + 1 + length rows) (last_from r rows) row))
    ∙ ap (λ (k : ℕ). (first ++ rest) ++ row_text form tracks k (last_from r rows) row) (let e : count + 1 + length rows ≡ count + length (r ∷ rows) = omega arith in e))

-- one row more
pub rows-more : (form : Form) (tracks : List Track) (rows : List (List ℕ)) (row : List ℕ) → rows_text form tracks (rows ++ row ∷ []) ≡ rows_text form tracks rows ++ text_behind form tracks rows row
rows-more form tracks rows row =
    from-more form tracks 0 [] rows row ∙ ap (λ (k : ℕ). rows_text form tracks rows ++ row_text form tracks k (last_from [] rows) row) (let e : 0 + length rows ≡ length rows = omega arith in e)

-- the first row is told whole, whatever stands before it
first-any : (form : Form) (tracks : List Track) (a b row : List ℕ) → row_text form tracks 0 a row ≡ row_text form tracks 0 b row
first-any Csv tracks a b row = refl
first-any Wave tracks a b row = refl

behind-by : (form : Form) (tracks : List Track) (before : List ℕ) (rows : List (List ℕ)) (row : List ℕ) → (0 < length rows → before ≡ last_from [] rows)
    → row_text form tracks (length rows) before row ≡ text_behind form tracks rows row
behind-by form tracks before [] row is = first-any form tracks before [] row
behind-by form tracks before (r ∷ rows) row is = ap (λ (b : List ℕ). row_text form tracks (length (r ∷ rows)) b row) (is (omega arith))

-- the text that a pen makes is that behind its rows
pub pen-behind : (pen : Pen) (rows : List (List ℕ)) (row : List ℕ) → HasWritten rows pen → row_text pen.form pen.tracks.items pen.count pen.before.items row ≡ text_behind pen.form pen.tracks.items rows row
pen-behind pen rows row has =
    ap (λ (k : ℕ). row_text pen.form pen.tracks.items k pen.before.items row) has.count ∙ behind-by pen.form pen.tracks.items pen.before.items rows row has.before

pub pen-more : (rows : List (List ℕ)) (row : List ℕ) (old new : Pen) → HasWritten rows old → new.count ≡ old.count + 1 → new.before.items ≡ row → HasWritten (rows ++ row ∷ []) new
pen-more rows row old new has count before = record {
  count = (let long : length (rows ++ row ∷ []) ≡ length rows + 1 = length-append rows (row ∷ []) in omega (arith, count, has.count, long));
  before = λ some. before ∙ sym (last-more [] rows row);
}
