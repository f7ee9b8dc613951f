-- Bytes that begin a lawful line, and the lines that they begin.
use Rattle.std.proofs.Common.{◌≡◌, ℕ, ◌^◌, ◌==◌, ◌&&◌, ◌||◌, not, nat_lt, Bool, true, false, List, [], ◌∷◌, ◌++◌, drop, length, length-drop, Option, Some, None, refl, ap, sym, ◌∙◌, subst, arith, append-nil, pow_pos, if◌then◌else◌}
use Rattle.std.specs.Prelude.{is_some, option_map, IfSome}
use Rattle.std.proofs.lemmas.Bool.{false≢true, true≢false, lt-ltb, eqb-true}
use Rattle.std.proofs.lemmas.Bool.Decides.{nat_tests}
use Rattle.pr_samples.specs.declared.scan.Phase.{Phase}
use Rattle.pr_samples.specs.Lines.{words_of, without_return}
use Rattle.pr_samples.specs.Fed.{numbers_of, begins_lawful, IsLawful}
use Rattle.pr_samples.specs.Scan.{Scan, fresh, step}
use Rattle.pr_samples.proofs.WordLemmas.{scanned, at_phase, Rest, rest_of, closed_of, scanned-closed, scanned-wrong, step-closed, step-blank, step-digit, Fits, numbers_of-fits, Agrees, agrees, has_return, none_or_some, left_is}

scanned-append : (s : Scan) (bytes rest : List ℕ) → scanned s (bytes ++ rest) ≡ scanned (scanned s bytes) rest
scanned-append s [] rest = refl
scanned-append s (b ∷ bytes) rest = scanned-append (step s b) bytes rest

-- the line has a number for each input
abbrev Ends : Scan → Type 0
Ends s = (done : List ℕ) × (closed_of s ≡ Some (rest_of done []))

-- a number 0 for each input that is left
abbrev zeros : List ℕ → List ℕ
zeros [] = []
zeros (w ∷ widths) = 32 ∷ 48 ∷ zeros widths

zero_fits : (w : ℕ) → nat_lt 0 (2 ^ w) ≡ true
zero_fits w = lt-ltb 0 (2 ^ w) (pow_pos w)

-- a blank and a 0 after a number
one_zero : (done : List ℕ) (v w : ℕ) (left : List ℕ) (n : ℕ) → step (step (at_phase done (v ∷ w ∷ left) (Phase.Number n)) 32) 48 ≡ at_phase (done ++ n ∷ []) (w ∷ left) (Phase.Number 0)
one_zero done v w left n =
    ap (λ s. step s 48) (step-blank (at_phase done (v ∷ w ∷ left) (Phase.Number n)) 32 refl refl)
    ∙ step-digit (at_phase (done ++ n ∷ []) (w ∷ left) Phase.Gap) 48 refl
    ∙ ap (λ t. if t then at_phase (done ++ n ∷ []) (w ∷ left) (Phase.Number 0) else at_phase (done ++ n ∷ []) (w ∷ left) Phase.Wrong) (zero_fits w)

first_zero : (done : List ℕ) (w : ℕ) (left : List ℕ) → step (step (at_phase done (w ∷ left) Phase.Gap) 32) 48 ≡ at_phase done (w ∷ left) (Phase.Number 0)
first_zero done w left =
    ap (λ s. step s 48) (step-blank (at_phase done (w ∷ left) Phase.Gap) 32 refl refl)
    ∙ step-digit (at_phase done (w ∷ left) Phase.Gap) 48 refl
    ∙ ap (λ t. if t then at_phase done (w ∷ left) (Phase.Number 0) else at_phase done (w ∷ left) Phase.Wrong) (zero_fits w)

number_zeros : (left : List ℕ) (done : List ℕ) (w n : ℕ) → Ends (scanned (at_phase done (w ∷ left) (Phase.Number n)) (zeros left))
number_zeros [] done w n = (done ++ n ∷ [], refl)
number_zeros (v ∷ left) done w n = subst (λ (s : Scan). Ends (scanned s (zeros left))) (sym (one_zero done w v left n)) (number_zeros left (done ++ n ∷ []) v 0)

gap_zeros : (left : List ℕ) (done : List ℕ) → Ends (scanned (at_phase done left Phase.Gap) (zeros left))
gap_zeros [] done = (done, refl)
gap_zeros (w ∷ left) done = subst (λ (s : Scan). Ends (scanned s (zeros left))) (sym (first_zero done w left)) (number_zeros left done w 0)

-- a line that has a number for each input is lawful
lawful_from_ends : (widths line : List ℕ) → Ends (scanned (fresh widths) line) → IsLawful widths line
lawful_from_ends widths line h = by (numbers_of widths words) (numbers_of-fits widths words) (sym (scanned-closed widths line) ∙ h.1) refl
  where
    words : List (List ℕ)
    words = words_of (without_return line)

    by : (o : Option (List ℕ)) → IfSome o (Fits widths words) → option_map (λ ns. rest_of ns (drop (length words) widths)) o ≡ Some (rest_of h.0 []) → numbers_of widths words ≡ o → IsLawful widths line
    by None f e is = absurd (none_or_some _ e)
    by (Some ns) f e is =
        let none : length (drop (length words) widths) ≡ 0 = ap length (left_is (drop (length words) widths) [] ns h.0 e) in
        record { count = omega (arith, f.within, none, length-drop (length words) widths); numbers = rw is refl }

-- a line of which these bytes are the first
abbrev Begins : List ℕ → List ℕ → Type 0
Begins widths bytes = (rest : List ℕ) × IsLawful widths (bytes ++ rest)

begins_with : (widths bytes rest : List ℕ) → Ends (scanned (scanned (fresh widths) bytes) rest) → Begins widths bytes
begins_with widths bytes rest h = (rest, lawful_from_ends widths (bytes ++ rest) (subst (λ (s : Scan). Ends s) (sym (scanned-append (fresh widths) bytes rest)) h))

-- an open line that is not bad can be finished
open_begins : (widths bytes : List ℕ) (s : Scan) → scanned (fresh widths) bytes ≡ s → is_some (closed_of s) ≡ true → Agrees false s.phase → Begins widths bytes
open_begins widths bytes s e some agree = by s.done s.left s.phase e some agree
  where
    with : (rest : List ℕ) (t : Scan) → scanned (fresh widths) bytes ≡ t → Ends (scanned t rest) → Begins widths bytes
    with rest t e h = begins_with widths bytes rest (subst (λ (s : Scan). Ends (scanned s rest)) (sym e) h)

    by : (done left : List ℕ) (phase : Phase) → scanned (fresh widths) bytes ≡ at_phase done left phase → is_some (closed_of (at_phase done left phase)) ≡ true → Agrees false phase → Begins widths bytes
    by done left Phase.Gap e some agree = with (zeros left) (at_phase done left Phase.Gap) e (gap_zeros left done)
    by done [] (Phase.Number n) e some agree = with [] (at_phase done [] (Phase.Number n)) e (done ++ n ∷ [], refl)
    by done (w ∷ left) (Phase.Number n) e some agree = with (zeros left) (at_phase done (w ∷ left) (Phase.Number n)) e (number_zeros left done w n)
    by done left Phase.Closed e some agree = absurd (false≢true agree)
    by done left Phase.Wrong e some agree = absurd (false≢true some)

both_true : (x y : Bool) → (x && y) ≡ true → (x ≡ true) × (y ≡ true)
both_true true y h = (refl, h)
both_true false y h = absurd (false≢true h)

some_map : (o : Option (List ℕ)) (f : List ℕ → Rest) → is_some (option_map f o) ≡ is_some o
some_map None f = refl
some_map (Some ns) f = refl

-- bytes that may begin a lawful line do
pub begins_lawful-begins : (widths bytes : List ℕ) → begins_lawful widths bytes ≡ true → (rest : List ℕ) × IsLawful widths (bytes ++ rest)
begins_lawful-begins widths bytes h = by (has_return bytes) refl
  where
    words : List (List ℕ)
    words = words_of (without_return bytes)

    parts : (is_some (numbers_of widths words) ≡ true) × ((not (has_return bytes) || length words == length widths) ≡ true)
    parts = both_true (is_some (numbers_of widths words)) (not (has_return bytes) || length words == length widths) h

    closed : is_some (closed_of (scanned (fresh widths) bytes)) ≡ true
    closed = ap is_some (scanned-closed widths bytes) ∙ some_map (numbers_of widths words) (λ ns. rest_of ns (drop (length words) widths)) ∙ parts.0

    by : (t : Bool) → has_return bytes ≡ t → Begins widths bytes
    by false e = open_begins widths bytes (scanned (fresh widths) bytes) refl closed (rw e at (agrees bytes (fresh widths) tt))
    by true e =
        let all : (length words == length widths) ≡ true = rw e at parts.1 in
        ([], rw (append-nil bytes) (record { count = eqb-true (length words) (length widths) all; numbers = parts.0 }))

count_is : (a b : ℕ) → a ≡ b → (a == b) ≡ true
count_is a b e = grind (arith, nat_tests)

-- a line that is bad stays bad
wrong_closes : (done left rest : List ℕ) → is_some (closed_of (scanned (at_phase done left Phase.Wrong) rest)) ≡ false
wrong_closes done left rest = ap (λ s. is_some (closed_of s)) (scanned-wrong done left rest)

-- the first bytes of a line that is not bad are not bad, and nothing stands after a CR
front_closes : (s : Scan) (rest : List ℕ) → is_some (closed_of (scanned s rest)) ≡ true → is_some (closed_of s) ≡ true
front_closes s rest h = by s.done s.left s.phase h
  where
    by : (done left : List ℕ) (phase : Phase) → is_some (closed_of (scanned (at_phase done left phase) rest)) ≡ true → is_some (closed_of (at_phase done left phase)) ≡ true
    by done left Phase.Gap h = refl
    by done left (Phase.Number n) h = refl
    by done left Phase.Closed h = refl
    by done left Phase.Wrong h = absurd (false≢true (sym (wrong_closes done left rest) ∙ h))

closed_ends : (s : Scan) (rest : List ℕ) → Agrees true s.phase → is_some (closed_of (scanned s rest)) ≡ true → rest ≡ []
closed_ends s [] agree h = refl
closed_ends s (b ∷ rest) agree h = by s.done s.left s.phase agree h
  where
    by : (done left : List ℕ) (phase : Phase) → Agrees true phase → is_some (closed_of (scanned (at_phase done left phase) (b ∷ rest))) ≡ true → (b ∷ rest) ≡ []
    by done left Phase.Gap agree h = absurd (true≢false agree)
    by done left (Phase.Number n) agree h = absurd (true≢false agree)
    by done left Phase.Closed agree h = absurd (false≢true (sym (wrong_closes done left rest) ∙ ap (λ s. is_some (closed_of (scanned s rest))) (sym (step-closed done left b)) ∙ h))
    by done left Phase.Wrong agree h = absurd (false≢true (sym (wrong_closes done left (b ∷ rest)) ∙ h))

-- the first bytes of a lawful line may begin one
pub begins_lawful-from : (widths bytes rest : List ℕ) → IsLawful widths (bytes ++ rest) → begins_lawful widths bytes ≡ true
begins_lawful-from widths bytes rest h = by (has_return bytes) refl
  where
    words : List (List ℕ)
    words = words_of (without_return bytes)

    all : List (List ℕ)
    all = words_of (without_return (bytes ++ rest))

    whole : is_some (closed_of (scanned (scanned (fresh widths) bytes) rest)) ≡ true
    whole =
        ap (λ s. is_some (closed_of s)) (sym (scanned-append (fresh widths) bytes rest))
        ∙ ap is_some (scanned-closed widths (bytes ++ rest)) ∙ some_map (numbers_of widths all) (λ ns. rest_of ns (drop (length all) widths)) ∙ h.numbers

    some : is_some (numbers_of widths words) ≡ true
    some =
        sym (some_map (numbers_of widths words) (λ ns. rest_of ns (drop (length words) widths))) ∙ ap is_some (sym (scanned-closed widths bytes))
        ∙ front_closes (scanned (fresh widths) bytes) rest whole

    by : (t : Bool) → has_return bytes ≡ t → begins_lawful widths bytes ≡ true
    by false e = rw (some, e) refl
    by true e =
        let none : rest ≡ [] = closed_ends (scanned (fresh widths) bytes) rest (rw e at (agrees bytes (fresh widths) tt)) whole in
        let same : bytes ++ rest ≡ bytes = ap (λ r. bytes ++ r) none ∙ append-nil bytes in
        let count : length words ≡ length widths = ap (λ line. length (words_of (without_return line))) (sym same) ∙ h.count in
        rw (some, e) (count_is (length words) (length widths) count)
