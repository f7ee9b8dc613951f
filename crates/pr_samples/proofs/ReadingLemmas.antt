-- What a feed has read and given.
use Rattle.std.proofs.Common.{◌≡◌, ◌≢◌, ℕ, zero, suc, ap₂, ◌+◌, ◌-◌, ◌<◌, ◌≤◌, true, false, List, [], ◌∷◌, ◌++◌, take, drop, length, length-drop, length-append, get_or, append_assoc, append-nil, drop-cons, drop-drop, refl, ap, sym, ◌∙◌, arith}
use Rattle.std.specs.Prelude.{slice_get, Some, nat_lt}
use Rattle.std.proofs.lemmas.List.{take_more, length-take, length-take-le, take-append-drop, drop_all, take_all, drop-take}
use Rattle.std.proofs.lemmas.Option.{slice_get-get_or}
use Rattle.std.proofs.lemmas.Bool.Decides.{nat_tests, eqb_tells}
use Rattle.std.proofs.lemmas.Bool.{lt-ltb, cases_lt}
use Rattle.std.proofs.Common.{inl, inr}
use Rattle.std.proofs.Math.Seq.{drop-append_seam, take-add}
use Rattle.pr_samples.specs.declared.tails.Tail.{Tail}
use Rattle.pr_samples.specs.declared.scan.Phase.{Phase}
use Rattle.pr_samples.specs.Fed.{Taken, Skipped, Lawful, Unlawful, CutShort, Fed, Ending, End, ending_by, before, line_and, fed_text, fed_of, fed_within, tail_of}
use Rattle.pr_samples.specs.Scan.{Scan, fresh, Found, first_line, whole_end, cut_end}
use Rattle.pr_samples.specs.Feed.{MayFollow, IsTail, tail_after, first_fed, IsReading, IsMeeting}
use Rattle.pr_edge.specs.Files.{IsPart}
use Rattle.pr_samples.proofs.FedLemmas.{fed_text-first}

-- the bytes after those that were read may follow them
pub may_follow : (tail : Tail) (limit place : ℕ) (file : List ℕ) → place ≤ length file → IsTail tail limit place (length file) → MayFollow tail (tail_of limit file) (drop place (take limit file))
may_follow Tail.Open limit place file h t = tt
may_follow Tail.Ended limit place file h t =
    let no_more : length (take limit file) ≤ place = simp length-take (omega arith) in
    let same : nat_lt limit (length file) ≡ false = grind (arith, nat_tests) in
    (rw same refl, drop_all place (take limit file) no_more)
may_follow Tail.Cut limit place file h t =
    let no_more : length (take limit file) ≤ place = simp length-take (omega arith) in
    let same : nat_lt limit (length file) ≡ true = grind (arith, nat_tests) in
    (rw same refl, drop_all place (take limit file) no_more)

-- what is known of all bytes that may follow holds of those that do
pub whole_file : (tail : Tail) (widths : List ℕ) (limit most place : ℕ) (file : List ℕ) (rest : Tail → List ℕ → Fed) → place ≤ length file → IsTail tail limit place (length file)
    → ((after : Tail) (more : List ℕ) → MayFollow tail after more → fed_text widths most 0 after (take place (take limit file) ++ more) ≡ rest after more)
    → fed_of widths limit most file ≡ rest (tail_of limit file) (drop place (take limit file))
whole_file tail widths limit most place file rest h t all =
    ap (fed_text widths most 0 (tail_of limit file)) (sym (take-append-drop place (take limit file))) ∙ all (tail_of limit file) (drop place (take limit file)) (may_follow tail limit place file h t)

-- nothing comes after the first of a list
pub over_front : (given : ℕ) (samples : List (List ℕ)) → samples ≡ take given samples ++ [] → given ≤ length samples → given ≡ length samples
over_front given samples e h =
    let n : length samples ≡ given = ap length (e ∙ append-nil (take given samples)) ∙ length-take-le given samples h in
    sym n

-- one element comes after the first of a list
pub record IsNext (given : ℕ) (samples : List (List ℕ)) (next : List ℕ) : Type 0 where
  pub here : slice_get samples given ≡ Some next
  pub more : take (given + 1) samples ≡ take given samples ++ next ∷ []
  pub within : given + 1 ≤ length samples

next_of : (given : ℕ) (samples after : List (List ℕ)) (next : List ℕ) → samples ≡ take given samples ++ next ∷ after → given ≤ length samples → IsNext given samples next
next_of given samples after next e h =
    let front : length (take given samples) ≡ given = length-take-le given samples h in
    let total : length samples ≡ given + suc (length after) = ap length e ∙ length-append (take given samples) (next ∷ after) ∙ ap (λ n. n + suc (length after)) front in
    let within : given < length samples = omega arith in
    let seam : drop given (take given samples ++ next ∷ after) ≡ next ∷ after = ap (λ n. drop n (take given samples ++ next ∷ after)) (sym front) ∙ drop-append_seam (take given samples) (next ∷ after) in
    let heads : get_or samples given next ∷ drop (suc given) samples ≡ next ∷ after = sym (drop-cons samples given next within) ∙ ap (drop given) e ∙ seam in
    let first : get_or samples given next ≡ next = cc in
    record {
      here = slice_get-get_or samples given next within ∙ ap Some first;
      more = take_more samples given next within ∙ ap (λ x. take given samples ++ x ∷ []) first;
      within = omega arith;
    }

pub before-before : (xs ys : List (List ℕ)) (fed : Fed) → before xs (before ys fed) ≡ before (xs ++ ys) fed
before-before xs ys fed = ap (λ s. record { samples = s; ending = fed.ending }) (sym (append_assoc xs ys fed.samples))

-- a feed that has read nothing
pub IsReading-start : (widths : List ℕ) (limit most : ℕ) (file : List ℕ) → IsReading widths limit most 0 0 0 Tail.Open [] (fresh widths) file
IsReading-start widths limit most file = record {
  within = omega arith;
  ends = omega arith;
  counted = omega arith;
  rest = λ after more may.
      let all : most - 0 ≡ most = omega arith in
      fed_text-first widths most 0 after more ∙ ap (λ n. first_fed widths n after (first_line widths (fresh widths) 0 more)) (sym all);
}

-- a feed that goes on in what it has read
pub IsReading-move : (widths : List ℕ) (limit most place given passed passed' : ℕ) (tail : Tail) (pending pending' : List ℕ) (s s' : Scan) (file : List ℕ)
    → IsReading widths limit most place given passed tail pending s file
    → ((more : List ℕ) → first_line widths s' passed' (pending' ++ more) ≡ first_line widths s passed (pending ++ more))
    → IsReading widths limit most place given passed' tail pending' s' file
IsReading-move widths limit most place given passed passed' tail pending pending' s s' file h same = record {
  within = h.within;
  ends = h.ends;
  counted = h.counted;
  rest = λ after more may. h.rest after more may ∙ ap (λ f. before (take given (fed_of widths limit most file).samples) (first_fed widths (most - given) after f)) (sym (same more));
}

-- a feed that meets a line in what it has read
pub IsMeeting-found : (widths : List ℕ) (limit most place given passed number : ℕ) (tail : Tail) (pending pending' : List ℕ) (s : Scan) (taken : Taken) (file : List ℕ)
    → IsReading widths limit most place given passed tail pending s file
    → ((more : List ℕ) → Found taken number (pending' ++ more) ≡ first_line widths s passed (pending ++ more))
    → IsMeeting widths limit most place given number tail pending' taken number file
IsMeeting-found widths limit most place given passed number tail pending pending' s taken file h same = record {
  within = h.within;
  ends = h.ends;
  counted = h.counted;
  rest = λ after more may.
      h.rest after more may
      ∙ ap (λ f. before (take given (fed_of widths limit most file).samples) (first_fed widths (most - given) after f)) (sym (same more))
      ∙ ap (before (take given (fed_of widths limit most file).samples)) (line_and-same taken number (most - given) _ _ (λ left. fed_text-first widths left number after (pending' ++ more)));
}
  where
    line_and-same : (t : Taken) (n most : ℕ) (f g : ℕ → Fed) → ((left : ℕ) → f left ≡ g left) → line_and t n most f ≡ line_and t n most g
    line_and-same Skipped n most f g e = e most
    line_and-same (Lawful ns) n zero f g e = refl
    line_and-same (Lawful ns) n (suc most) f g e = ap (before (ns ∷ [])) (e most)
    line_and-same Unlawful n most f g e = refl
    line_and-same CutShort n most f g e = refl

-- a line that ends the samples
pub IsMeeting-over : (widths : List ℕ) (limit most place given passed number : ℕ) (tail : Tail) (pending : List ℕ) (taken : Taken) (file : List ℕ) (ending : Ending)
    → IsMeeting widths limit most place given passed tail pending taken number file
    → ((f : ℕ → Fed) → line_and taken number (most - given) f ≡ ending_by ending)
    → (given ≡ length (fed_of widths limit most file).samples) × ((fed_of widths limit most file).ending ≡ ending)
IsMeeting-over widths limit most place given passed number tail pending taken file ending h over =
    let all = whole_file tail widths limit most place file _ h.within h.ends h.rest ∙ ap (before (take given (fed_of widths limit most file).samples)) (over _) in
    (over_front given (fed_of widths limit most file).samples (ap (λ (f : Fed). f.samples) all) h.counted, ap (λ (f : Fed). f.ending) all)

-- a line that is a sample
pub IsMeeting-sample : (widths : List ℕ) (limit most place given passed number : ℕ) (tail : Tail) (pending numbers : List ℕ) (file : List ℕ)
    → IsMeeting widths limit most place given passed tail pending (Lawful numbers) number file → given < most
    → (slice_get (fed_of widths limit most file).samples given ≡ Some numbers) × IsReading widths limit most place (given + 1) passed tail pending (fresh widths) file
IsMeeting-sample widths limit most place given passed number tail pending numbers file h room =
    let samples = (fed_of widths limit most file).samples in
    let left : most - given ≡ suc (most - (given + 1)) = omega arith in
    let one : (after : Tail) (more : List ℕ) → MayFollow tail after more
    → fed_text widths most 0 after (take place (take limit file) ++ more) ≡ before (take given samples) (before (numbers ∷ []) (first_fed widths (most - (given + 1)) after (first_line widths (fresh widths) passed (pending ++ more))))
    = λ after more may. h.rest after more may ∙ ap (λ n. before (take given samples) (line_and (Lawful numbers) number n (λ left. first_fed widths left after (first_line widths (fresh widths) passed (pending ++ more))))) left in
    let all = whole_file tail widths limit most place file _ h.within h.ends one in
    let next = next_of given samples _ numbers (ap (λ (f : Fed). f.samples) all) h.counted in (
      next.here,
      record {
        within = h.within;
        ends = h.ends;
        counted = next.within;
        rest = λ after more may. one after more may ∙ before-before (take given samples) (numbers ∷ []) (first_fed widths (most - (given + 1)) after (first_line widths (fresh widths) passed (pending ++ more))) ∙ ap (λ xs. before xs (first_fed widths (most - (given + 1)) after (first_line widths (fresh widths) passed (pending ++ more)))) (sym next.more);
      },
    )

not_below : (a b : ℕ) → b ≤ a → nat_lt a b ≡ false
not_below a b h = grind (arith, nat_tests)

take-take : (m n : ℕ) (xs : List ℕ) → take m (take n xs) ≡ take n (take m xs)
take-take zero zero xs = refl
take-take zero (suc n) [] = refl
take-take zero (suc n) (x ∷ xs) = refl
take-take (suc m) zero [] = refl
take-take (suc m) zero (x ∷ xs) = refl
take-take (suc m) (suc n) [] = refl
take-take (suc m) (suc n) (x ∷ xs) = ap (λ ys. x ∷ ys) (take-take m n xs)

-- what follows after a read
tail_after-is : (count limit place size : ℕ) → place ≤ limit → place + count ≤ size → (count ≡ 0 → size ≤ place) → IsTail (tail_after count limit (place + count)) limit (place + count) size
tail_after-is count limit place size low within end =
    elim (eqb_tells count 0) [
      | inl e ↦ rw e.0 (omega (arith, end e.1), omega (arith, end e.1))
      | inr e ↦ rw e.0 (elim (cases_lt limit (place + count)) [ inl t ↦ rw (lt-ltb limit (place + count) t) t | inr t ↦ rw (not_below limit (place + count) t) t ])
    ]

-- the bytes that were read, up to the limit
take-read : (limit place count : ℕ) (file buffer : List ℕ) → place ≤ limit → take count buffer ≡ take count (drop place file) → take (place + count) (take limit file) ≡ take place (take limit file) ++ take (limit - place) (take count buffer)
take-read limit place count file buffer low part =
    let whole : limit ≡ place + (limit - place) = omega arith in
    take-add place count (take limit file) ∙ ap (λ xs. take place (take limit file) ++ xs) (ap (λ n. take count (drop place (take n file))) whole ∙ ap (take count) (drop-take place (limit - place) file) ∙ take-take count (limit - place) (drop place file) ∙ ap (take (limit - place)) (sym part))

-- a feed that reads bytes of the file into its buffer
pub IsReading-read : (widths : List ℕ) (limit most place given passed count : ℕ) (s : Scan) (file buffer : List ℕ)
    → IsReading widths limit most place given passed Tail.Open [] s file → IsPart file place count buffer → 0 < length buffer
    → IsReading widths limit most (place + count) given passed (tail_after count limit (place + count)) (take (limit - place) (take count buffer)) s file
IsReading-read widths limit most place given passed count s file buffer h part some =
    let within : place + count ≤ length file = omega (arith, part.within, h.within, length-drop place file) in
    record {
      within = within;
      ends = tail_after-is count limit place (length file) h.ends within (part.end some);
      counted = h.counted;
      rest = λ after more may.
          ap (λ xs. fed_text widths most 0 after (xs ++ more)) (take-read limit place count file buffer h.ends part.part)
          ∙ ap (fed_text widths most 0 after) (append_assoc (take place (take limit file)) (take (limit - place) (take count buffer)) more)
          ∙ h.rest after (take (limit - place) (take count buffer) ++ more) tt;
    }

-- the line before the end of the file
last_ended : (widths : List ℕ) (s : Scan) (passed most : ℕ)
    → first_fed widths most Tail.Ended (first_line widths s passed []) ≡ line_and (whole_end s) (passed + 1) most (λ left. first_fed widths left Tail.Ended (first_line widths (fresh widths) passed []))
unfolding first_line whole_end
last_ended widths s passed most = refl

-- the line that the limit cuts
last_cut : (widths done left : List ℕ) (passed most : ℕ) (phase : Phase) → let s : Scan = record { done = done; left = left; phase = phase } in
    first_fed widths most Tail.Cut (first_line widths s passed []) ≡ line_and (cut_end s) (passed + 1) most (λ more. first_fed widths more Tail.Cut (first_line widths (fresh widths) passed []))
unfolding first_line cut_end
last_cut widths done left passed most Phase.Gap = refl
last_cut widths done left passed most (Phase.Number n) = refl
last_cut widths done [] passed most Phase.Closed = refl
last_cut widths done (w ∷ left) passed most Phase.Closed = refl
last_cut widths done left passed most Phase.Wrong = refl

-- a feed that meets the last line
pub IsMeeting-ended : (widths : List ℕ) (limit most place given passed : ℕ) (s : Scan) (taken : Taken) (file : List ℕ)
    → IsReading widths limit most place given passed Tail.Ended [] s file → taken ≡ whole_end s → IsMeeting widths limit most place given passed Tail.Ended [] taken (passed + 1) file
IsMeeting-ended widths limit most place given passed s taken file h is = record {
  within = h.within;
  ends = h.ends;
  counted = h.counted;
  rest = λ after more may.
      h.rest after more may
      ∙ ap (before (take given (fed_of widths limit most file).samples))
      (ap₂ (λ a m. first_fed widths (most - given) a (first_line widths s passed m)) may.0 may.1
      ∙ last_ended widths s passed (most - given)
      ∙ ap₂ (λ a m. line_and (whole_end s) (passed + 1) (most - given) (λ left. first_fed widths left a (first_line widths (fresh widths) passed m))) (sym may.0) (sym may.1)
      ∙ ap (λ t. line_and t (passed + 1) (most - given) (λ left. first_fed widths left after (first_line widths (fresh widths) passed more))) (sym is));
}

pub IsMeeting-cut : (widths : List ℕ) (limit most place given passed : ℕ) (s : Scan) (taken : Taken) (file : List ℕ)
    → IsReading widths limit most place given passed Tail.Cut [] s file → taken ≡ cut_end s → IsMeeting widths limit most place given passed Tail.Cut [] taken (passed + 1) file
IsMeeting-cut widths limit most place given passed s taken file h is = record {
  within = h.within;
  ends = h.ends;
  counted = h.counted;
  rest = λ after more may.
      h.rest after more may
      ∙ ap (before (take given (fed_of widths limit most file).samples))
      (ap₂ (λ a m. first_fed widths (most - given) a (first_line widths s passed m)) may.0 may.1
      ∙ last_cut widths s.done s.left passed (most - given) s.phase
      ∙ ap₂ (λ a m. line_and (cut_end s) (passed + 1) (most - given) (λ left. first_fed widths left a (first_line widths (fresh widths) passed m))) (sym may.0) (sym may.1)
      ∙ ap (λ t. line_and t (passed + 1) (most - given) (λ left. first_fed widths left after (first_line widths (fresh widths) passed more))) (sym is));
}

last_blank : (widths : List ℕ) (passed most : ℕ) → first_fed widths most Tail.Ended (first_line widths (fresh widths) passed []) ≡ ending_by End
unfolding first_line whole_end
last_blank widths passed most = refl

-- a feed that meets the end of the file in a blank line
pub IsReading-end : (widths : List ℕ) (limit most place given passed : ℕ) (s : Scan) (file : List ℕ)
    → IsReading widths limit most place given passed Tail.Ended [] s file → Skipped ≡ whole_end s
    → (given ≡ length (fed_of widths limit most file).samples) × ((fed_of widths limit most file).ending ≡ End)
IsReading-end widths limit most place given passed s file h is =
    let one : (after : Tail) (more : List ℕ) → MayFollow Tail.Ended after more → fed_text widths most 0 after (take place (take limit file) ++ more) ≡ before (take given (fed_of widths limit most file).samples) (ending_by End)
    = λ after more may.
    h.rest after more may
    ∙ ap (before (take given (fed_of widths limit most file).samples))
    (ap₂ (λ a m. first_fed widths (most - given) a (first_line widths s passed m)) may.0 may.1
    ∙ last_ended widths s passed (most - given)
    ∙ ap (λ t. line_and t (passed + 1) (most - given) (λ left. first_fed widths left Tail.Ended (first_line widths (fresh widths) passed []))) (sym is)
    ∙ last_blank widths passed (most - given)) in
    let all = whole_file Tail.Ended widths limit most place file _ h.within h.ends one in
    (over_front given (fed_of widths limit most file).samples (ap (λ (f : Fed). f.samples) all) h.counted, ap (λ (f : Fed). f.ending) all)

-- a feed whose file could not be read
pub IsReading-fault : (widths : List ℕ) (limit most place given passed : ℕ) (s : Scan) (file : List ℕ)
    → IsReading widths limit most place given passed Tail.Open [] s file → given ≡ length (fed_within widths limit most file place).samples
unfolding first_line
IsReading-fault widths limit most place given passed s file h =
    let all = ap (fed_text widths most 0 Tail.Open) (sym (append-nil (take place (take limit file)))) ∙ h.rest Tail.Open [] tt in
    let n = ap (λ (f : Fed). length f.samples) all ∙ ap length (append-nil (take given (fed_of widths limit most file).samples)) ∙ length-take-le given (fed_of widths limit most file).samples h.counted in
    sym n

-- the bytes of a window after some of them
pub window-drop : (start end used : ℕ) (buffer : List ℕ) → used ≤ end - start → drop used (take (end - start) (drop start buffer)) ≡ take (end - (start + used)) (drop (start + used) buffer)
window-drop start end used buffer h =
    let whole : end - start ≡ used + (end - (start + used)) = omega arith in
    ap (λ n. drop used (take n (drop start buffer))) whole ∙ drop-take used (end - (start + used)) (drop start buffer) ∙ ap (take (end - (start + used))) (drop-drop used start buffer)

-- a slice of a whole vector is put back
pub put-whole : (n : ℕ) (new items : List ℕ) → length new ≡ n → length items ≡ n → take n (new ++ drop (length new) items) ≡ new
put-whole n new items e f =
    let none : drop (length new) items ≡ [] = drop_all (length new) items (omega arith) in
    ap (λ rest. take n (new ++ rest)) none ∙ ap (take n) (append-nil new) ∙ take_all n new (omega arith)

-- a window without bytes
pub window-none : (start end : ℕ) (buffer : List ℕ) → start ≡ end → take (end - start) (drop start buffer) ≡ []
window-none start end buffer h =
    let none : end - start ≡ 0 = omega arith in
    ap (λ n. take n (drop start buffer)) none

-- neither open nor cut
pub is_ended : (tail : Tail) → tail ≢ Tail.Open → tail ≢ Tail.Cut → tail ≡ Tail.Ended
is_ended Tail.Open h k = absurd (h refl)
is_ended Tail.Ended h k = refl
is_ended Tail.Cut h k = absurd (k refl)

pub window-empty : (start end : ℕ) (buffer : List ℕ) → end - start ≡ 0 → take (end - start) (drop start buffer) ≡ []
window-empty start end buffer none = ap (λ n. take n (drop start buffer)) none
