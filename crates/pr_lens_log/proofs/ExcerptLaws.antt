-- What is kept of cycles, with one cycle more.
use Rattle.std.proofs.Common.{◌≡◌, ◌+◌, ◌-◌, ◌≤◌, ◌++◌, ◌∷◌, ◌∙◌, ◌==◌, [], ℕ, zero, suc, Bool, true, false, max, if◌then◌else◌, List, Option, Some, None, length, take, drop, map, replicate, inl, inr, refl, sym, ap, subst, arith, length-take, length-drop}
use Rattle.std.specs.Prelude.{fold, nat_eq, nat_lt, slice_get, slice_range, slice_set}
use Rattle.std.proofs.lemmas.Bool.{cases_Bool, cases_lt, lt-ltb, ltb-true}
use Rattle.std.proofs.lemmas.List.{drop-append-le, length_push, map_push, set_past, take-append-le, take-replicate, take_all, take_rest}
use Rattle.std.proofs.lemmas.List.Sums.{fold-append}
use Rattle.pr_lens_log.specs.declared.excerpts.Choice.{Choice}
use Rattle.pr_lens_log.specs.declared.excerpts.Excerpt.{Excerpt}
use Rattle.pr_lens_log.specs.declared.lines.Logged.{Logged}
use Rattle.pr_lens_log.specs.declared.pasts.Past.{Past}
use Rattle.pr_lens_log.specs.declared.totals.Totals.{Totals}
use Rattle.pr_lens_log.specs.declared.windows.Part.{Part}
use Rattle.pr_lens_log.specs.declared.windows.Side.{Side}
use Rattle.pr_lens_log.specs.declared.windows.Side.TheVariants.{Before, Within, Behind}
use Rattle.pr_lens_log.specs.Boards.{after_turn, after_turns}
use Rattle.pr_lens_log.specs.Excerpts.{AreTotals, IsExcerpt, first_in, has_room, most, stages_to, stripes_to, with_one}
use Rattle.pr_lens_log.specs.Pasts.{IsPast, count_after, entered_after, left_after}
use Rattle.pr_lens_log.specs.Windows.{part_in, part_of, part_with, side_of, time_at, time_or_zero}
use Rattle.pr_lens_log.proofs.WindowLaws.{end_within, other_test, part_more, side_before, side_within}

least_test : (a b : ℕ) → b ≤ a → nat_lt a b ≡ false
least_test a b le = elim (cases_Bool (nat_lt a b)) [ inl e ↦ (let less = ltb-true a b e in absurd (omega arith)) | inr e ↦ e ]

-- ---- totals
pub most_more : (count : Option (ℕ × ℕ) → ℕ) (cycles : List Logged) (logged : Logged) → most count (cycles ++ logged ∷ []) ≡ max (most count cycles) (count logged.turn.configured)
most_more count cycles logged =
    ap (fold max 0) (map_push (λ (c : Logged). count c.turn.configured) cycles logged)
    ∙ fold-append max 0 (map (λ (c : Logged). count c.turn.configured) cycles) (count logged.turn.configured ∷ [])

first_more : (cycles : List Logged) (logged : Logged) → time_at (cycles ++ logged ∷ []) 0 ≡ (if length cycles == 0 then logged.time else time_at cycles 0)
first_more [] logged = refl
first_more (c ∷ cycles) logged =
    let some : nat_eq (length (c ∷ cycles)) 0 ≡ false = other_test (length (c ∷ cycles)) 0 (λ none. omega (arith, none)) in
    sym (λ i. if some i then logged.time else c.time)

at_end : (cycles : List Logged) (logged : Logged) → slice_get (cycles ++ logged ∷ []) (length cycles) ≡ Some logged
at_end [] logged = refl
at_end (c ∷ cycles) logged = at_end cycles logged

last_more : (cycles : List Logged) (logged : Logged) → time_at (cycles ++ logged ∷ []) (length (cycles ++ logged ∷ []) - 1) ≡ logged.time
last_more cycles logged =
    let place : length (cycles ++ logged ∷ []) - 1 ≡ length cycles = omega (arith, length_push cycles logged) in
    ap (time_at (cycles ++ logged ∷ [])) place ∙ ap time_or_zero (at_end cycles logged)

pub totals_more : (cycles : List Logged) (results : ℕ) (logged : Logged) (old new : Totals) → AreTotals cycles results old
    → new.count ≡ old.count + 1 → new.results ≡ old.results → new.first ≡ (if old.count == 0 then logged.time else old.first) → new.last ≡ logged.time
    → new.stages ≡ max old.stages (stages_to logged.turn.configured) → new.stripes ≡ max old.stripes (stripes_to logged.turn.configured)
    → AreTotals (cycles ++ logged ∷ []) results new
totals_more cycles results logged old new h count are first last stages stripes = record {
  count = count ∙ (ap (λ n. n + 1) h.count ∙ sym (length_push cycles logged));
  results_are = are ∙ h.results_are;
  first = first ∙ ((λ i. if h.count i == 0 then logged.time else h.first i) ∙ sym (first_more cycles logged));
  last = last ∙ sym (last_more cycles logged);
  stages = stages ∙ (ap (λ n. max n (stages_to logged.turn.configured)) h.stages ∙ sym (most_more stages_to cycles logged));
  stripes = stripes ∙ (ap (λ n. max n (stripes_to logged.turn.configured)) h.stripes ∙ sym (most_more stripes_to cycles logged));
}

-- ---- what cycles leave behind
after_turns_more : (board : List (Option ℕ)) (cycles : List Logged) (logged : Logged)
    → after_turns board (cycles ++ logged ∷ []) ≡ after_turn (after_turns board cycles) logged.turn.configured
after_turns_more board [] logged = refl
after_turns_more board (c ∷ cycles) logged = after_turns_more (after_turn board c.turn.configured) cycles logged

entered_more : (count : ℕ) (cycles : List Logged) (logged : Logged) → entered_after count (cycles ++ logged ∷ []) ≡ count_after (entered_after count cycles) logged.turn.entered
entered_more count [] logged = refl
entered_more count (c ∷ cycles) logged = entered_more (count_after count c.turn.entered) cycles logged

left_more : (count : ℕ) (cycles : List Logged) (logged : Logged) → left_after count (cycles ++ logged ∷ []) ≡ count_after (left_after count cycles) logged.turn.left
left_more count [] logged = refl
left_more count (c ∷ cycles) logged = left_more (count_after count c.turn.left) cycles logged

pub past_more : (stripes : ℕ) (cycles : List Logged) (logged : Logged) (old new : Past) → IsPast stripes cycles old
    → new.board.stages.items ≡ after_turn old.board.stages.items logged.turn.configured → new.entered ≡ count_after old.entered logged.turn.entered
    → new.left ≡ count_after old.left logged.turn.left → IsPast stripes (cycles ++ logged ∷ []) new
past_more stripes cycles logged old new h board entered left = record {
  stages = board ∙ (ap (λ b. after_turn b logged.turn.configured) h.stages ∙ sym (after_turns_more (replicate stripes None) cycles logged));
  entered = entered ∙ (ap (λ n. count_after n logged.turn.entered) h.entered ∙ sym (entered_more 0 cycles logged));
  left = left ∙ (ap (λ n. count_after n logged.turn.left) h.left ∙ sym (left_more 0 cycles logged));
}

-- ---- fewer stripes
take-set : {A : Type 0} (n : ℕ) (xs : List A) (i : ℕ) (y : A) → take n (slice_set xs i y) ≡ slice_set (take n xs) i y
take-set zero [] i y = refl
take-set zero (x ∷ xs) zero y = refl
take-set zero (x ∷ xs) (suc i) y = refl
take-set (suc n) [] i y = refl
take-set (suc n) (x ∷ xs) zero y = refl
take-set (suc n) (x ∷ xs) (suc i) y = ap (λ ys. x ∷ ys) (take-set n xs i y)

-- a stage comes into a stripe, or there is no such stripe
turn_sets : (board : List (Option ℕ)) (stage stripe : ℕ) → after_turn board (Some (stage, stripe)) ≡ slice_set board stripe (Some stage)
turn_sets board stage stripe = elim (cases_lt stripe (length board)) [
  | inl less ↦ (let test = lt-ltb stripe (length board) less in λ i. if test i then slice_set board stripe (Some stage) else board)
  | inr least ↦ (let test = least_test stripe (length board) least in (λ i. if test i then slice_set board stripe (Some stage) else board) ∙ sym (set_past board stripe (Some stage) least))
]

take-after_turn : (n : ℕ) (board : List (Option ℕ)) (configured : Option (ℕ × ℕ)) → take n (after_turn board configured) ≡ after_turn (take n board) configured
take-after_turn n board None = refl
take-after_turn n board (Some (stage, stripe)) = ap (take n) (turn_sets board stage stripe) ∙ (take-set n board stripe (Some stage) ∙ sym (turn_sets (take n board) stage stripe))

take-after_turns : (n : ℕ) (board : List (Option ℕ)) (cycles : List Logged) → take n (after_turns board cycles) ≡ after_turns (take n board) cycles
take-after_turns n board [] = refl
take-after_turns n board (c ∷ cycles) =
    take-after_turns n (after_turn board c.turn.configured) cycles ∙ ap (λ b. after_turns b cycles) (take-after_turn n board c.turn.configured)

pub past_cut : (many few : ℕ) (cycles : List Logged) (old new : Past) → few ≤ many → IsPast many cycles old
    → new.board.stages.items ≡ take few old.board.stages.items → new.entered ≡ old.entered → new.left ≡ old.left → IsPast few cycles new
past_cut many few cycles old new le h board entered left = record {
  stages = board ∙ (ap (take few) h.stages ∙ (take-after_turns few (replicate many None) cycles ∙ ap (λ b. after_turns b cycles) (take-replicate few many None le)));
  entered = entered ∙ h.entered;
  left = left ∙ h.left;
}

-- ---- parts of lists
slice_more : {A : Type 0} (xs : List A) (x : A) (start : ℕ) → start ≤ length xs → slice_range (xs ++ x ∷ []) start (length xs + 1) ≡ slice_range xs start (length xs) ++ x ∷ []
slice_more xs x start le =
    let rest = drop-append-le start xs (x ∷ []) le in
    let size : length (drop start xs ++ x ∷ []) ≤ length xs + 1 - start = omega (arith, length_push (drop start xs) x, length-drop start xs) in
    ap (take (length xs + 1 - start)) rest ∙ (take_all (length xs + 1 - start) (drop start xs ++ x ∷ []) size ∙ ap (λ ys. ys ++ x ∷ []) (sym (take_rest xs start)))

pub slice_same : {A : Type 0} (xs ys : List A) (start end : ℕ) → end ≤ length xs → slice_range (xs ++ ys) start end ≡ slice_range xs start end
slice_same xs ys start end le = elim (cases_lt end start) [
  | inl less ↦ (let none : end - start ≡ 0 = omega arith in ap (λ n. take n (drop start (xs ++ ys))) none ∙ sym (ap (λ n. take n (drop start xs)) none))
  | inr least ↦ (
      let size : end - start ≤ length (drop start xs) = omega (arith, length-drop start xs) in
      ap (take (end - start)) (drop-append-le start xs ys (omega arith)) ∙ take-append-le (end - start) (drop start xs) ys size)
]

slice_none : {A : Type 0} (xs : List A) (n : ℕ) → slice_range xs n n ≡ []
slice_none xs n = let none : n - n ≡ 0 = omega arith in ap (λ k. take k (drop n xs)) none

slice_size : {A B : Type 0} (xs : List A) (ys : List B) (start end : ℕ) → length xs ≡ length ys → length (slice_range xs start end) ≡ length (slice_range ys start end)
slice_size xs ys start end same = omega (arith, length-take (end - start) (drop start xs), length-take (end - start) (drop start ys), length-drop start xs, length-drop start ys)

-- ---- what is kept
first_more_in : {A : Type 0} (chosen : Option ℕ) (xs : List A) (x : A) → with_one (has_room chosen (length (first_in chosen xs))) (first_in chosen xs) x ≡ first_in chosen (xs ++ x ∷ [])
first_more_in None xs x = refl
first_more_in (Some n) xs x = elim (cases_lt (length xs) n) [
  | inl less ↦ (
      let kept : take n xs ≡ xs = take_all n xs (omega arith) in
      let room : nat_lt (length (take n xs)) n ≡ true = lt-ltb (length (take n xs)) n (omega (arith, ap length kept)) in
      (λ i. if room i then kept i ++ x ∷ [] else kept i) ∙ sym (take_all n (xs ++ x ∷ []) (omega (arith, length_push xs x))))
  | inr least ↦ (
      let full : nat_lt (length (take n xs)) n ≡ false = least_test (length (take n xs)) n (omega (arith, length-take n xs)) in
      (λ i. if full i then take n xs ++ x ∷ [] else take n xs) ∙ sym (take-append-le n xs (x ∷ []) least))
]

first_size : {A B : Type 0} (chosen : Option ℕ) (xs : List A) (ys : List B) → length xs ≡ length ys → length (first_in chosen xs) ≡ length (first_in chosen ys)
first_size None xs ys same = same
first_size (Some n) xs ys same = omega (arith, same, length-take n xs, length-take n ys)

-- ---- excerpts
module _ (choice : Choice) (stripes : ℕ) (cycles : List Logged) (written : List ℕ) (logged : Logged) (results count : ℕ) (old new : Excerpt)
    (same : length cycles ≡ count) (h : IsExcerpt choice stripes cycles written old) where
  abbrev all : List Logged
  all = cycles ++ logged ∷ []

  abbrev here : Side
  here = side_of choice.window count old.part logged.time

  -- the new part is the one of all cycles
  part_is : (side : Side) → here ≡ side → part_with side count old.part ≡ part_of choice.window all
  part_is side is =
      ap (λ s. part_with s count old.part) (sym is)
      ∙ ((λ i. part_with (side_of choice.window ((sym same) i) (h.part i) logged.time) ((sym same) i) (h.part i))
      ∙ sym (part_more choice.window cycles logged))

  ends : old.part.end ≤ count
  ends = let within = end_within choice.window cycles in omega (arith, same, within, ap (λ (p : Part). p.end) h.part)

  starts : old.part.start ≤ old.part.end
  starts = omega (arith, ap (λ (p : Part). p.start) h.part, ap (λ (p : Part). p.end) h.part)

  evens : length (written ++ results ∷ []) ≡ length all
  evens = omega (arith, h.even, length_push written results, length_push cycles logged)

  -- behind the part
  pub kept_behind : here ≡ Behind → new.part ≡ part_with Behind count old.part → new.past ≡ old.past → new.cycles.items ≡ old.cycles.items
      → new.written.items ≡ old.written.items → IsExcerpt choice stripes all (written ++ results ∷ []) new
  kept_behind side part past kept counts =
      let front : take new.part.start all ≡ take old.part.start cycles = ap (λ (p : Part). take p.start all) part ∙ take-append-le old.part.start cycles (logged ∷ []) (omega (arith, ends, starts, same)) in
      record {
        even = evens;
        part = part ∙ part_is Behind side;
        past = subst (λ (cs : List Logged). IsPast stripes cs new.past) (sym front) (subst (λ (p : Past). IsPast stripes (take old.part.start cycles) p) (sym past) h.past);
        cycles_are =
            kept ∙ (h.cycles_are ∙ (ap (first_in choice.most) (sym (slice_same cycles (logged ∷ []) old.part.start old.part.end (omega (arith, ends, same))))
            ∙ ap (λ (p : Part). first_in choice.most (part_in p all)) (sym part)));
        written_are =
            counts ∙ (h.written_are ∙ (ap (first_in choice.most) (sym (slice_same written (results ∷ []) old.part.start old.part.end (omega (arith, ends, same, h.even))))
            ∙ ap (λ (p : Part). first_in choice.most (slice_range (written ++ results ∷ []) p.start p.end)) (sym part)));
      }

  -- before it
  pub kept_before : here ≡ Before → new.part ≡ part_with Before count old.part → IsPast stripes all new.past → new.cycles.items ≡ old.cycles.items
      → new.written.items ≡ old.written.items → IsExcerpt choice stripes all (written ++ results ∷ []) new
  kept_before side part past kept counts =
      let start : old.part.start ≡ count = side_before choice.window count old.part logged.time side in
      let end : old.part.end ≡ old.part.start = omega (arith, start, ends, starts) in
      let front : take new.part.start all ≡ all = ap (λ (p : Part). take p.start all) part ∙ take_all (count + 1) all (omega (arith, same, length_push cycles logged)) in
      record {
        even = evens;
        part = part ∙ part_is Before side;
        past = subst (λ (cs : List Logged). IsPast stripes cs new.past) (sym front) past;
        cycles_are =
            kept ∙ (h.cycles_are ∙ (ap (λ n. first_in choice.most (slice_range cycles old.part.start n)) end ∙ (ap (first_in choice.most) (slice_none cycles old.part.start)
            ∙ (ap (first_in choice.most) (sym (slice_none all (count + 1))) ∙ ap (λ (p : Part). first_in choice.most (part_in p all)) (sym part)))));
        written_are =
            counts ∙ (h.written_are ∙ (ap (λ n. first_in choice.most (slice_range written old.part.start n)) end ∙ (ap (first_in choice.most) (slice_none written old.part.start)
            ∙ (ap (first_in choice.most) (sym (slice_none (written ++ results ∷ []) (count + 1))) ∙ ap (λ (p : Part). first_in choice.most (slice_range (written ++ results ∷ []) p.start p.end)) (sym part)))));
      }

  -- what went by before the part, where it has not begun
  pub before_it : here ≡ Before → IsPast stripes cycles old.past
  before_it side =
      let start : old.part.start ≡ count = side_before choice.window count old.part logged.time side in
      subst (λ (cs : List Logged). IsPast stripes cs old.past) (take_all old.part.start cycles (omega (arith, start, same))) h.past

  -- one more of the list of a part that goes on, as it is kept
  one_kept : {A : Type 0} (xs : List A) (x : A) (kept : List A) (room : Bool) → length xs ≡ count → old.part.end ≡ count → kept ≡ first_in choice.most (slice_range xs old.part.start old.part.end)
      → room ≡ has_room choice.most (length (first_in choice.most (slice_range xs old.part.start old.part.end)))
      → with_one room kept x ≡ first_in choice.most (slice_range (xs ++ x ∷ []) old.part.start (count + 1))
  one_kept {A} xs x kept room size end is room_is =
      let whole : slice_range (xs ++ x ∷ []) old.part.start (count + 1) ≡ slice_range xs old.part.start old.part.end ++ x ∷ [] =
      ap (λ n. slice_range (xs ++ x ∷ []) old.part.start (n + 1)) (sym size) ∙ (slice_more xs x old.part.start (omega (arith, size, ends, starts)) ∙ ap (λ n. slice_range xs old.part.start n ++ x ∷ []) (size ∙ sym end)) in
      (λ i. with_one (room_is i) (is i) x) ∙ (first_more_in choice.most (slice_range xs old.part.start old.part.end) x ∙ ap (first_in choice.most) (sym whole))

  -- within it
  pub kept_within : (room : Bool) → here ≡ Within → new.part ≡ part_with Within count old.part → new.past ≡ old.past → room ≡ has_room choice.most (length old.cycles.items)
      → new.cycles.items ≡ with_one room old.cycles.items logged → new.written.items ≡ with_one room old.written.items results
      → IsExcerpt choice stripes all (written ++ results ∷ []) new
  kept_within room side part past room_is kept counts =
      let end : old.part.end ≡ count = side_within choice.window count old.part logged.time side in
      let front : take new.part.start all ≡ take old.part.start cycles = ap (λ (p : Part). take p.start all) part ∙ take-append-le old.part.start cycles (logged ∷ []) (omega (arith, ends, starts, same)) in
      let by_cycles : room ≡ has_room choice.most (length (first_in choice.most (slice_range cycles old.part.start old.part.end))) = room_is ∙ ap (λ (cs : List Logged). has_room choice.most (length cs)) h.cycles_are in
      let sizes = slice_size cycles written old.part.start old.part.end (sym h.even) in
      let by_written : room ≡ has_room choice.most (length (first_in choice.most (slice_range written old.part.start old.part.end))) =
      by_cycles ∙ ap (has_room choice.most) (first_size choice.most (slice_range cycles old.part.start old.part.end) (slice_range written old.part.start old.part.end) sizes) in
      record {
        even = evens;
        part = part ∙ part_is Within side;
        past = subst (λ (cs : List Logged). IsPast stripes cs new.past) (sym front) (subst (λ (p : Past). IsPast stripes (take old.part.start cycles) p) (sym past) h.past);
        cycles_are = kept ∙ (one_kept cycles logged old.cycles.items room same end h.cycles_are by_cycles ∙ ap (λ (p : Part). first_in choice.most (part_in p all)) (sym part));
        written_are =
            counts ∙ (one_kept written results old.written.items room (h.even ∙ same) end h.written_are by_written
            ∙ ap (λ (p : Part). first_in choice.most (slice_range (written ++ results ∷ []) p.start p.end)) (sym part));
      }
