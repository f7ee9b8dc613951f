-- The lines of a history, and what they are without the log.
use Rattle.std.proofs.Common.{◌≡◌, ℕ, ◌-◌, ◌<◌, ◌≤◌, Bool, true, false, ltb, List, [], ◌∷◌, ◌++◌, length, map, Option, Some, None, refl, sym, ap, ap₂, ◌∙◌, append_assoc, append-nil}
use Rattle.std.proofs.lemmas.Bool.{cond_both}
use Rattle.std.proofs.lemmas.List.{map-append}
use Rattle.std.proofs.lemmas.Grind.{flat_map-append}
use Rattle.pr_conf_pipeline.specs.Rows.{through}
use Rattle.pr_machine_account.specs.Account.{Account, Event, Offer, Take, Cycle, after, account_from, account, start, stalled}
use Rattle.pr_machine_account.specs.Replies.{Reply, Accepted, InFull, Advanced, Stalled, given, taken_now, reply, replies_from, result_in, results_in}
use Rattle.pr_machine_account.proofs.ReplyLaws.{results_whole}
use Rattle.pr_base.specs.Rows.{row_numbers, row_line, written}
use Rattle.pr_conf.specs.Shape.{Shape}
use Rattle.pr_conf.specs.Through.{steps_of, tapped, output_widths, result_numbers}
use Rattle.pr_run_script.specs.Script.{Held, script}
use Rattle.pr_run_script.specs.Text.{Line, result_lines, event_lines, lines_from, history_lines, closing_lines, line_bytes, text_of, run_text}
use Rattle.pr_run_script.proofs.WholeLaws.{whole}

-- ---- lines one after the other
pub text-append : (log : Bool) (xs ys : List Line) → text_of log (xs ++ ys) ≡ text_of log xs ++ text_of log ys
text-append log xs ys = flat_map-append (line_bytes log) xs ys

pub lines-append : (N P : ℕ) (c : Shape) (p : ℕ) (a : Account (List ℕ)) (es fs : List (Event (List ℕ)))
    → lines_from N P c p a (es ++ fs) ≡ lines_from N P c p a es ++ lines_from N P c p (account_from (length c.stages) p a es) fs
lines-append N P c p a [] fs = refl
lines-append N P c p a (e ∷ es) fs =
    ap (λ ls. event_lines N P c p a e ++ ls) (lines-append N P c p (after (length c.stages) p a e) es fs)
    ∙ sym (append_assoc (event_lines N P c p a e) (lines_from N P c p (after (length c.stages) p a e) es) (lines_from N P c p (account_from (length c.stages) p (after (length c.stages) p a e) es) fs))

pub history_lines-append : (N P : ℕ) (c : Shape) (p : ℕ) (h es : List (Event (List ℕ)))
    → history_lines N P c p (h ++ es) ≡ history_lines N P c p h ++ lines_from N P c p (account (length c.stages) p h) es
unfolding history_lines account
history_lines-append N P c p h es = lines-append N P c p start h es

pub history_lines_nil : (N P : ℕ) (c : Shape) (p : ℕ) → history_lines N P c p [] ≡ []
unfolding history_lines
history_lines_nil N P c p = refl

-- ---- without the log
-- the lines of these results
abbrev results_text : Shape → List (List ℕ) → List ℕ
results_text c results = written (map (row_numbers (output_widths c)) results)

results_text-append : (c : Shape) (xs ys : List (List ℕ)) → results_text c (xs ++ ys) ≡ results_text c xs ++ results_text c ys
results_text-append c xs ys = ap written (map-append (row_numbers (output_widths c)) xs ys) ∙ flat_map-append row_line (map (row_numbers (output_widths c)) xs) (map (row_numbers (output_widths c)) ys)

take_text : (c : Shape) (o : Option (List ℕ)) → text_of false (result_lines c o) ≡ results_text c (result_in (given o))
take_text c None = refl
take_text c (Some bytes) = refl

event_text : (N P : ℕ) (c : Shape) (p : ℕ) (a : Account (List ℕ)) (e : Event (List ℕ))
    → text_of false (event_lines N P c p a e) ≡ results_text c (result_in (reply (steps_of N P c) (length c.stages) p (tapped N c) a e))
event_text N P c p a (Offer x) = cond_both (ltb (length a.offered - length a.entries) 16) Accepted InFull (λ (r : Reply (List ℕ)). [] ≡ results_text c (result_in r)) (λ e. refl) (λ e. refl)
event_text N P c p a Take = take_text c (taken_now (steps_of N P c) (length c.stages) (tapped N c) a)
event_text N P c p a Cycle = cond_both (stalled (length c.stages) p a) Stalled Advanced (λ (r : Reply (List ℕ)). [] ≡ results_text c (result_in r)) (λ e. refl) (λ e. refl)

lines_text : (N P : ℕ) (c : Shape) (p : ℕ) (a : Account (List ℕ)) (es : List (Event (List ℕ)))
    → text_of false (lines_from N P c p a es) ≡ results_text c (results_in (replies_from (steps_of N P c) (length c.stages) p (tapped N c) a es))
lines_text N P c p a [] = refl
lines_text N P c p a (e ∷ es) =
    let M = steps_of N P c in
    let v = length c.stages in
    let b = after v p a e in
    text-append false (event_lines N P c p a e) (lines_from N P c p b es)
    ∙ (ap₂ (λ x y. x ++ y) (event_text N P c p a e) (lines_text N P c p b es)
    ∙ sym (results_text-append c (result_in (reply M v p (tapped N c) a e)) (results_in (replies_from M v p (tapped N c) b es))))

closing_text : (c : Shape) (p : ℕ) (h : List (Event (List ℕ))) (good : Bool) → text_of false (closing_lines c p h good) ≡ []
closing_text c p h true = refl
closing_text c p h false = refl

-- the text of a whole run without its log is that of its results
pub run_is_written : (N P : ℕ) (c : Shape) (p : ℕ) (xs : List (List ℕ)) (stall : List Held) (good : Bool) → 0 < length c.stages → 2 ≤ p
    → run_text N P false c p xs stall good ≡ written (result_numbers N P c xs)
unfolding history_lines
run_is_written N P c p xs stall good hv hp =
    let v = length c.stages in
    let h = script v p xs stall in
    let w = whole v p xs stall hv hp in
    text-append false (history_lines N P c p h) (closing_lines c p h good)
    ∙ (ap₂ (λ x y. x ++ y) (lines_text N P c p start h) (closing_text c p h good)
    ∙ (append-nil (results_text c (results_in (replies_from (steps_of N P c) v p (tapped N c) start h)))
    ∙ (ap (results_text c) (results_whole (steps_of N P c) v p (tapped N c) h hv (w.taken ∙ sym (ap length w.offered)))
    ∙ ap (λ ys. results_text c (through (steps_of N P c) v (tapped N c) ys)) w.offered)))
