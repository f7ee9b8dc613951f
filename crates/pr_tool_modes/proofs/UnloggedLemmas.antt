-- The text of a run without the lines of its log is that of its results.
use Rattle.std.proofs.Common.{◌≡◌, ◌≤◌, ◌<◌, ◌+◌, ◌/◌, ◌%◌, ◌∙◌, ◌&&◌, ℕ, zero, suc, Bool, true, false, cond, not, eqb, ltb, nat_le, List, [], ◌∷◌, ◌++◌, map, take, length, Option, Some, None, refl, sym, ap, ap₂, subst, arith, append_assoc, append-nil, codes, decimal, inl, inr, true≢false}
use Rattle.std.specs.List.{flat_map, list_all, join_with_byte}
use Rattle.std.specs.Fmt.{digits, digits_onto, digit_glyph}
use Rattle.std.proofs.lemmas.Bool.{and_parts, not-true, lt-ltb, lt-leb, ne_eqb, cases_lt}
use Rattle.std.proofs.lemmas.Nat.{mod_below}
use Rattle.std.proofs.lemmas.List.{take-append-le, take_all}
use Rattle.std.proofs.lemmas.List.Concat.{flat_map-cons}
use Rattle.std.proofs.lemmas.List.Folds.{list_all-append}
use Rattle.pr_base.specs.Rows.{row_numbers, row_line, written}
use Rattle.pr_conf.specs.declared.turns.Turn.{Turn}
use Rattle.pr_conf.specs.Shape.{Shape}
use Rattle.pr_conf.specs.Through.{steps_of, tapped, output_widths, result_numbers}
use Rattle.pr_edge.specs.Tape.{Tape, AppendsFront}
use Rattle.pr_log.specs.Lines.{hex_digit, hex_byte, configured_text, saved_text, entry_text, cycle_line_of, stall_line_of, line_of, end_line_of}
use Rattle.pr_machine_account.specs.Account.{Account, Event, Offer, Take, Cycle, account, after, start, stalled}
use Rattle.pr_machine_account.specs.Replies.{taken_now}
use Rattle.pr_run_script.specs.Counts.{stalls_in}
use Rattle.pr_run_script.specs.Script.{Held, script}
use Rattle.pr_run_script.specs.Text.{found_stage, told_turn, stalled_turn, state_row, log_line, Line, Shown, Logged, result_lines, event_lines, lines_from, history_lines, closing_line, closing_lines, line_bytes, text_of, run_text}
use Rattle.pr_run_script.proofs.TextLaws.{text-append, run_is_written}
use Rattle.pr_tool_modes.specs.Unlogged.{is_logged, unless, unlogged_from, without_log, GainsFirst}

-- ---- bytes
-- a byte that ends no line, and one with which none of the log begins
abbrev is_inner : ℕ → Bool
is_inner b = not (eqb b 10)

abbrev is_plain : ℕ → Bool
is_plain b = not (nat_le 97 b)

inner_above : (b : ℕ) → 10 < b → is_inner b ≡ true
inner_above b h = ap not (ne_eqb b 10 (λ e. absurd (omega arith)))

inner_digit : (d : ℕ) → d < 10 → is_inner (48 + d) ≡ true
inner_digit d h = inner_above (48 + d) (omega arith)

plain_digit : (d : ℕ) → d < 10 → is_plain (48 + d) ≡ true
plain_digit d h = ap not (lt-leb 97 (48 + d) (omega arith))

all-append : (p : ℕ → Bool) (xs ys : List ℕ) → list_all p xs ≡ true → list_all p ys ≡ true → list_all p (xs ++ ys) ≡ true
all-append p xs ys h k = list_all-append p xs ys ∙ ap₂ (λ (x y : Bool). x && y) h k

-- what holds of the ten digits holds of a number's
all_digits : (p : ℕ → Bool) → ((d : ℕ) → d < 10 → p (48 + d) ≡ true) → (k n : ℕ) (bytes : List ℕ) → list_all p bytes ≡ true → list_all p (digits_onto k 10 false n bytes) ≡ true
all_digits p digit zero n bytes h = h
all_digits p digit (suc k) n bytes h =
    let least : n % 10 < 10 = mod_below n 10 (omega arith) in
    let glyph : p (digit_glyph false (n % 10)) ≡ true = subst (λ (t : Bool). p (cond t (48 + n % 10) (87 + n % 10)) ≡ true) (sym (lt-ltb (n % 10) 10 least)) (digit (n % 10) least) in
    let last = digit_glyph false (n % 10) ∷ bytes in
    let more : list_all p last ≡ true = ap₂ (λ (x y : Bool). x && y) glyph h in
    either (eqb (n / 10) 0) last (digits_onto k 10 false (n / 10) last) more (all_digits p digit k (n / 10) last more)
  where
    either : (t : Bool) (xs ys : List ℕ) → list_all p xs ≡ true → list_all p ys ≡ true → list_all p (cond t xs ys) ≡ true
    either true xs ys a b = a
    either false xs ys a b = b

all_decimal : (p : ℕ → Bool) → ((d : ℕ) → d < 10 → p (48 + d) ≡ true) → (n : ℕ) → list_all p (decimal n) ≡ true
unfolding digits
all_decimal p digit n = all_digits p digit 64 n [] refl

plain_row : (row : List ℕ) → list_all is_plain (join_with_byte 32 (map decimal row)) ≡ true
plain_row [] = refl
plain_row (n ∷ []) = all_decimal is_plain plain_digit n
plain_row (n ∷ m ∷ row) = all-append is_plain (decimal n) (32 ∷ join_with_byte 32 (map decimal (m ∷ row))) (all_decimal is_plain plain_digit n) (plain_row (m ∷ row))

-- ---- a line of results
kept_line : (xs rest : List ℕ) (begins : Bool) → list_all is_plain xs ≡ true → unlogged_from begins false ((xs ++ 10 ∷ []) ++ rest) ≡ (xs ++ 10 ∷ []) ++ unlogged_from true false rest
unfolding unlogged_from
kept_line [] rest true h = refl
kept_line [] rest false h = refl
kept_line (b ∷ xs) rest begins h =
    let parts = and_parts (is_plain b) (list_all is_plain xs) h in
    ap (λ (l : Bool). unless l b (unlogged_from (eqb b 10) l ((xs ++ 10 ∷ []) ++ rest))) (none begins (not-true (nat_le 97 b) parts.0))
    ∙ ap (λ (t : List ℕ). b ∷ t) (kept_line xs rest (eqb b 10) parts.1)
  where
    none : (t : Bool) → nat_le 97 b ≡ false → is_logged t false b ≡ false
    none true e = e
    none false e = refl

-- ---- a line of the log
begin_line : (logged : Bool) (rest : List ℕ) → unlogged_from true logged rest ≡ unlogged_from true false rest
unfolding unlogged_from
begin_line logged [] = refl
begin_line logged (b ∷ rest) = refl

inside : (xs rest : List ℕ) → list_all is_inner xs ≡ true → unlogged_from false true (xs ++ rest) ≡ unlogged_from false true rest
unfolding unlogged_from
inside [] rest h = refl
inside (b ∷ xs) rest h =
    let parts = and_parts (is_inner b) (list_all is_inner xs) h in
    ap (λ (t : Bool). unlogged_from t true (xs ++ rest)) (not-true (eqb b 10) parts.0) ∙ inside xs rest parts.1

-- bytes that end no line
record Inner (xs : List ℕ) : Type 0 where
  pub all : list_all is_inner xs ≡ true

words : (xs : List ℕ) → list_all is_inner xs ≡ true → Inner xs
words xs h = record { all = h }

both : {xs ys : List ℕ} → Inner xs → Inner ys → Inner (xs ++ ys)
both {xs} {ys} h k = record { all = all-append is_inner xs ys h.all k.all }

number : (n : ℕ) → Inner (decimal n)
number n = words (decimal n) (all_decimal is_inner inner_digit n)

configured_inner : (configured : Option (ℕ × ℕ)) → Inner (configured_text configured)
configured_inner None = words (codes "-") refl
configured_inner (Some (stage, stripe)) = both (both (number stage) (words (codes "@") refl)) (number stripe)

hex_inner : (n : ℕ) → is_inner (hex_digit n) ≡ true
hex_inner n = by_test (ltb n 10)
  where
    by_test : (t : Bool) → is_inner (cond t (48 + n) (87 + n)) ≡ true
    by_test true = inner_above (48 + n) (omega arith)
    by_test false = inner_above (87 + n) (omega arith)

state_inner : (state : List ℕ) → list_all is_inner (flat_map hex_byte state) ≡ true
state_inner [] = refl
state_inner (b ∷ state) =
    ap (list_all is_inner) (flat_map-cons hex_byte b state)
    ∙ ap₂ (λ (x y : Bool). x && y) (hex_inner (b / 16)) (ap₂ (λ (x y : Bool). x && y) (hex_inner (b % 16)) (state_inner state))

saved_inner : (saved : Option ℕ) (state : List ℕ) → Inner (saved_text saved state)
saved_inner None state = words (codes "-") refl
saved_inner (Some stage) state = both (both (number stage) (words (codes " ") refl)) (words (flat_map hex_byte state) (state_inner state))

entry_inner : (entry : Option ℕ) → Inner (entry_text entry)
entry_inner None = words (codes "-") refl
entry_inner (Some n) = number n

-- nothing is left of these bytes, which are whole lines of the log
abbrev IsDropped : List ℕ → Type 0
IsDropped xs = (rest : List ℕ) → unlogged_from true false (xs ++ rest) ≡ unlogged_from true false rest

-- the bytes begin with a small letter
abbrev begins_small : List ℕ → Bool
begins_small [] = false
begins_small (b ∷ xs) = nat_le 97 b

dropped : (xs : List ℕ) → Inner xs → begins_small xs ≡ true → IsDropped (xs ++ 10 ∷ [])
unfolding unlogged_from
dropped [] h small rest = absurd (true≢false (sym small))
dropped (b ∷ xs) h small rest =
    let parts = and_parts (is_inner b) (list_all is_inner xs) h.all in
    ap (λ (l : Bool). unless l b (unlogged_from (eqb b 10) l ((xs ++ 10 ∷ []) ++ rest))) small
    ∙ (ap (λ (t : Bool). unlogged_from t true ((xs ++ 10 ∷ []) ++ rest)) (not-true (eqb b 10) parts.0)
    ∙ (ap (unlogged_from false true) (append_assoc xs (10 ∷ []) rest)
    ∙ (inside xs (10 ∷ rest) parts.1
    ∙ begin_line true rest)))

cycle_dropped : (turn : Turn) (time : ℕ) (state : List ℕ) → IsDropped (cycle_line_of turn time state)
cycle_dropped turn time state =
    let begun = both (words (codes "cycle ") refl) (number time) in
    let configured = both (both begun (words (codes " conf ") refl)) (configured_inner turn.configured) in
    let saved = both (both configured (words (codes " save ") refl)) (saved_inner turn.saved state) in
    let entered = both (both saved (words (codes " in ") refl)) (entry_inner turn.entered) in
    let left = both (both entered (words (codes " out ") refl)) (entry_inner turn.left) in
    dropped _ left refl

stall_dropped : (time : ℕ) → IsDropped (stall_line_of time)
stall_dropped time = dropped _ (both (words (codes "stall ") refl) (number time)) refl

line_dropped : (turn : Turn) (time : ℕ) (state : List ℕ) → IsDropped (line_of turn time state)
line_dropped turn time state = by_test turn.advanced
  where
    by_test : (t : Bool) → IsDropped (cond t (cycle_line_of turn time state) (stall_line_of time))
    by_test true = cycle_dropped turn time state
    by_test false = stall_dropped time

end_dropped : (cycles stalls results : ℕ) → IsDropped (end_line_of cycles stalls results)
end_dropped cycles stalls results =
    let begun = both (words (codes "end cycles ") refl) (number cycles) in
    let stalled = both (both begun (words (codes " stalls ") refl)) (number stalls) in
    dropped _ (both (both stalled (words (codes " records ") refl)) (number results)) refl

-- ---- lines
-- what is left of the text of these lines is their text without the log
record IsLeft (lines : List Line) : Type 0 where
  pub left : (rest : List ℕ) → unlogged_from true false (text_of true lines ++ rest) ≡ text_of false lines ++ unlogged_from true false rest

alone : (log : Bool) (line : Line) → text_of log (line ∷ []) ≡ line_bytes log line
alone log line = flat_map-cons (line_bytes log) line [] ∙ append-nil (line_bytes log line)

left_none : IsLeft []
left_none = record { left = λ rest. refl }

left_logged : (bytes : List ℕ) → IsDropped bytes → IsLeft (Logged bytes ∷ [])
left_logged bytes dropped = record {
  left = λ rest. ap (λ (t : List ℕ). unlogged_from true false (t ++ rest)) (alone true (Logged bytes))
      ∙ (dropped rest ∙ ap (λ (t : List ℕ). t ++ unlogged_from true false rest) (sym (alone false (Logged bytes))));
}

left_shown : (row : List ℕ) → IsLeft (Shown (row_line row) ∷ [])
left_shown row = record {
  left = λ rest. ap (λ (t : List ℕ). unlogged_from true false (t ++ rest)) (alone true (Shown (row_line row)))
      ∙ (kept_line (join_with_byte 32 (map decimal row)) rest true (plain_row row) ∙ ap (λ (t : List ℕ). t ++ unlogged_from true false rest) (sym (alone false (Shown (row_line row)))));
}

left-append : (xs ys : List Line) → IsLeft xs → IsLeft ys → IsLeft (xs ++ ys)
left-append xs ys h k = record {
  left = λ rest. ap (λ (t : List ℕ). unlogged_from true false (t ++ rest)) (text-append true xs ys)
      ∙ (ap (unlogged_from true false) (append_assoc (text_of true xs) (text_of true ys) rest)
      ∙ (h.left (text_of true ys ++ rest)
      ∙ (ap (λ (t : List ℕ). text_of false xs ++ t) (k.left rest)
      ∙ (sym (append_assoc (text_of false xs) (text_of false ys) (unlogged_from true false rest))
      ∙ ap (λ (t : List ℕ). t ++ unlogged_from true false rest) (sym (text-append false xs ys))))));
}

left_result : (c : Shape) (o : Option (List ℕ)) → IsLeft (result_lines c o)
left_result c None = left_none
left_result c (Some bytes) = left_shown (row_numbers (output_widths c) bytes)

left_event : (N P : ℕ) (c : Shape) (p : ℕ) (a : Account (List ℕ)) (e : Event (List ℕ)) → IsLeft (event_lines N P c p a e)
left_event N P c p a (Offer x) = left_none
left_event N P c p a Take = left_result c (taken_now (steps_of N P c) (length c.stages) (tapped N c) a)
left_event N P c p a Cycle =
    left_logged (log_line N P c p a) (line_dropped (cond (stalled (length c.stages) p a) stalled_turn (told_turn (length c.stages) p a)) a.time (state_row N P c a (found_stage (length c.stages) p a.time)))

left_lines : (N P : ℕ) (c : Shape) (p : ℕ) (a : Account (List ℕ)) (es : List (Event (List ℕ))) → IsLeft (lines_from N P c p a es)
left_lines N P c p a [] = left_none
left_lines N P c p a (e ∷ es) =
    left-append (event_lines N P c p a e) (lines_from N P c p (after (length c.stages) p a e) es) (left_event N P c p a e) (left_lines N P c p (after (length c.stages) p a e) es)

left_closing : (c : Shape) (p : ℕ) (h : List (Event (List ℕ))) (good : Bool) → IsLeft (closing_lines c p h good)
left_closing c p h true = left_logged (closing_line c p h) (end_dropped (account (length c.stages) p h).time (stalls_in (length c.stages) p h) (account (length c.stages) p h).taken)
left_closing c p h false = left_none

-- ---- a run
run_unlogged : (N P : ℕ) (c : Shape) (p : ℕ) (xs : List (List ℕ)) (stall : List Held) (good : Bool) → unlogged_from true false (run_text N P true c p xs stall good) ≡ run_text N P false c p xs stall good
unfolding history_lines unlogged_from
run_unlogged N P c p xs stall good =
    let h = script (length c.stages) p xs stall in
    let lines = history_lines N P c p h ++ closing_lines c p h good in
    let all = left-append (history_lines N P c p h) (closing_lines c p h good) (left_lines N P c p start h) (left_closing c p h good) in
    ap (unlogged_from true false) (sym (append-nil (text_of true lines))) ∙ (all.left [] ∙ append-nil (text_of false lines))

-- with the log or without it the text is that of the results
pub run_is_results : (N P : ℕ) (log : Bool) (c : Shape) (p : ℕ) (xs : List (List ℕ)) (stall : List Held) (good : Bool) → 0 < length c.stages → 2 ≤ p
    → without_log log (run_text N P log c p xs stall good) ≡ written (result_numbers N P c xs)
run_is_results N P true c p xs stall good some two = run_unlogged N P c p xs stall good ∙ run_is_written N P c p xs stall good some two
run_is_results N P false c p xs stall good some two = run_is_written N P c p xs stall good some two

-- ---- first bytes
-- of the first bytes of a text first bytes are left
first_from : (begins logged : Bool) (text : List ℕ) (k : ℕ) → (m : ℕ) × (unlogged_from begins logged (take k text) ≡ take m (unlogged_from begins logged text))
unfolding unlogged_from
first_from begins logged text zero = (0, refl)
first_from begins logged [] (suc k) = (0, refl)
first_from begins logged (b ∷ text) (suc k) = by_test (is_logged begins logged b) (first_from (eqb b 10) (is_logged begins logged b) text k)
  where
    by_test : (t : Bool) → (m : ℕ) × (unlogged_from (eqb b 10) t (take k text) ≡ take m (unlogged_from (eqb b 10) t text))
        → (m : ℕ) × (unless t b (unlogged_from (eqb b 10) t (take k text)) ≡ take m (unless t b (unlogged_from (eqb b 10) t text)))
    by_test true rest = rest
    by_test false rest = (suc rest.0, ap (λ (t : List ℕ). b ∷ t) rest.1)

first_unlogged : (log : Bool) (text : List ℕ) (k : ℕ) → (m : ℕ) × (without_log log (take k text) ≡ take m (without_log log text))
first_unlogged true text k = first_from true false text k
first_unlogged false text k = (k, refl)

pub gains_first : (log : Bool) (old new : Tape) (text lines : List ℕ) → without_log log text ≡ lines → AppendsFront old new text → GainsFirst log old new lines
gains_first log old new text lines same (k, gained) =
    let m = first_unlogged log text k in
    record { text = take k text; gained = gained; count = m.0; are = m.1 ∙ ap (take m.0) same }

-- what begins a text begins a longer one
pub gains_longer : (log : Bool) (old new : Tape) (lines more : List ℕ) → GainsFirst log old new lines → GainsFirst log old new (lines ++ more)
gains_longer log old new lines more h =
    let m = longer h.count in
    record { text = h.text; gained = h.gained; count = m.0; are = h.are ∙ m.1 }
  where
    longer : (k : ℕ) → (m : ℕ) × (take k lines ≡ take m (lines ++ more))
    longer k = elim (cases_lt k (length lines)) [
      | inl less ↦ (k, sym (take-append-le k lines more (omega (arith, less))))
      | inr all ↦ (length lines, take_all k lines all ∙ sym (take-append-le (length lines) lines more (omega arith) ∙ take_all (length lines) lines (omega arith)))
    ]
