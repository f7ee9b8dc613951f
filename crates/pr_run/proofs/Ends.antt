-- The end of a run, and what it says.
use Rattle.std.proofs.Common.{◌≡◌, ℕ, ◌-◌, ◌≤◌, Bool, true, false, cond, List, [], ◌∷◌, ◌++◌, length, refl, sym, ap, ap₂, ◌∙◌, subst, arith, append-nil, append_assoc}
use Rattle.std.proofs.lemmas.List.{length-map}
use Rattle.pr_base.specs.Rows.{row_bytes}
use Rattle.pr_edge.specs.Tape.{Tape, Appends, AppendsFront}
use Rattle.pr_edge.proofs.Appending.{Appends-append}
use Rattle.pr_log.specs.Lines.{end_line_of}
use Rattle.pr_samples.specs.declared.feed.Feed.{Feed}
use Rattle.pr_samples.specs.declared.feed.Got.{Got}
use Rattle.pr_samples.specs.Feed.{given_of, widths_of}
use Rattle.pr_machine_account.specs.Account.{account, left}
use Rattle.pr_machine_account.proofs.AccountLaws.{lawful}
use Rattle.pr_machine_account.proofs.ReplyLaws.{left_inside}
use Rattle.pr_machine.specs.Stands.{Stands, History}
use Rattle.pr_run_script.specs.Script.{most_cycles}
use Rattle.pr_run_script.specs.Counts.{cycles_in, stalls_in, IsPrefix}
use Rattle.pr_run_script.specs.Text.{Line, Logged, history_lines, lines_from, closing_line, closing_lines, text_of}
use Rattle.pr_run_script.proofs.RunLaws.{cycles-append}
use Rattle.pr_run_script.proofs.TextLaws.{text-append, history_lines-append}
use Rattle.pr_run_script.proofs.WholeLaws.{whole, front_self}
use Rattle.pr_run.specs.declared.ending.RunEnd.{RunEnd}
use Rattle.pr_run.specs.declared.ending.Finished.{Finished}
use Rattle.pr_edge.specs.Files.{View}
use Rattle.pr_run.specs.Setting.{Setting, IsSet, stages_of, pieces}
use Rattle.pr_run.specs.Turns.{Going, HasRead, IsCut}
use Rattle.pr_run.specs.Runs.{script_run, IsFinished, events_of, lines_of, HasNumbers, IsWhole, IsAnswer, Ran}
use Rattle.pr_run.proofs.Lines.{front_after, front_longer}
use Rattle.pr_run.proofs.NextSamples.{follows_nil}

-- ---- cycles
front_cycles : (h whole_h : History) → IsPrefix h whole_h → cycles_in h ≤ cycles_in whole_h
front_cycles h whole_h f = let n = ap cycles_in f.is ∙ cycles-append h f.more in omega (arith, n)

few_cycles : (s : Setting) (f : Feed) (now : View) (rows : List (List ℕ)) (last : Got) (h : History) → IsSet s → HasRead s f now rows last → IsPrefix h (events_of s (pieces s rows))
    → cycles_in h ≤ most_cycles (stages_of s) s.stripes s.stall (given_of f)
few_cycles s f now rows last h set read front =
    let few = front_cycles h (events_of s (pieces s rows)) front in
    let most = (whole (stages_of s) s.stripes (pieces s rows) s.stall set.some set.two).cycles in
    let n : length (pieces s rows) ≡ given_of f = length-map rows (row_bytes (widths_of s.feed)) ∙ sym read.count in
    subst (λ m. cycles_in h ≤ most_cycles (stages_of s) s.stripes s.stall m) n (omega (arith, few, most))

-- ---- texts
-- the text of a run begins with that of its first events
text_split : (N P : ℕ) (s : Setting) (h more : History) (good : Bool) (xs : List (List ℕ)) → events_of s xs ≡ h ++ more
    → lines_of N P s xs good ≡ text_of s.log (history_lines N P s.conf s.stripes h) ++ (text_of s.log (lines_from N P s.conf s.stripes (account (stages_of s) s.stripes h) more) ++ text_of s.log (closing_lines s.conf s.stripes (events_of s xs) good))
text_split N P s h more good xs e =
    let rest = lines_from N P s.conf s.stripes (account (stages_of s) s.stripes h) more in
    let closing = closing_lines s.conf s.stripes (events_of s xs) good in
    let lines = history_lines N P s.conf s.stripes h in
    text-append s.log (history_lines N P s.conf s.stripes (events_of s xs)) closing
    ∙ (ap (λ ls. text_of s.log ls ++ text_of s.log closing) (ap (history_lines N P s.conf s.stripes) e ∙ history_lines-append N P s.conf s.stripes h more)
    ∙ (ap (λ ls. ls ++ text_of s.log closing) (text-append s.log lines rest)
    ∙ append_assoc (text_of s.log lines) (text_of s.log rest) (text_of s.log closing)))

-- the text of all events, and the line at the end
text_whole : (N P : ℕ) (s : Setting) (good : Bool) (xs : List (List ℕ)) (h : History) → h ≡ events_of s xs
    → lines_of N P s xs good ≡ text_of s.log (history_lines N P s.conf s.stripes h) ++ text_of s.log (closing_lines s.conf s.stripes h good)
text_whole N P s good xs h e =
    sym (ap (λ x. text_of s.log (history_lines N P s.conf s.stripes x ++ closing_lines s.conf s.stripes x good)) e)
    ∙ text-append s.log (history_lines N P s.conf s.stripes h) (closing_lines s.conf s.stripes h good)

-- ---- a write fault before the end
pub ran_cut : {N P : ℕ} (s : Setting) (m : Going N P) (f : Feed) (now : View) (t : Tape) → IsSet s → IsCut s (script_run s) m f now t → Ran s m f now t RunEnd.WriteFault
ran_cut {N} {P} s m f now t set cut =
    let lines = history_lines N P s.conf s.stripes cut.history in
    let here = cut.front [] (follows_nil cut.last) in
    record {
      rows = cut.rows;
      last = cut.last;
      history = cut.history;
      read = cut.read;
      stands = cut.stands;
      cycles = few_cycles s f now cut.rows cut.last cut.history set cut.read (subst (λ (xs : List (List ℕ)). IsPrefix cut.history (events_of s xs)) (append-nil (pieces s cut.rows)) here);
      answer = record {
        closing = false;
        text = subst (λ (ls : List Line). AppendsFront s.tape t (text_of s.log ls)) (sym (append-nil lines)) cut.text;
        over = λ e. absurd (cc);
        events = cut.front;
        front = λ more good follows only.
            (let xs = pieces s cut.rows ++ more in
            let front = cut.front more follows in
            subst (λ (bytes : List ℕ). AppendsFront s.tape t bytes) (sym (text_split N P s cut.history front.more good xs front.is))
            (front_longer s.tape t (text_of s.log lines) _ cut.text));
      };
    }

-- ---- a run that is over
is_front_of : (s : Setting) (xs : List (List ℕ)) (h : History) → h ≡ events_of s xs → IsPrefix h (events_of s xs)
is_front_of s xs h e = subst (λ (x : History). IsPrefix h x) e (front_self h)

end_text : (log : Bool) (line : List ℕ) → text_of log (Logged line ∷ []) ≡ cond log line []
end_text log line = append-nil (cond log line [])

whole_of : {N P : ℕ} (s : Setting) (m : Going N P) (f : Feed) (now : View) (t : Tape) (end : Finished) → (fin : IsFinished s m f now t end) → IsWhole N P s fin.rows fin.history t false
whole_of {N} {P} s m f now t end fin = record {
  events = fin.script;
  text = subst (λ (bytes : List ℕ). Appends s.tape t bytes) (sym (text_whole N P s false (pieces s fin.rows) fin.history fin.script ∙ append-nil (text_of s.log (history_lines N P s.conf s.stripes fin.history)))) fin.done.text;
}

-- the samples were bad, or not read further
pub ran_from : {N P : ℕ} (s : Setting) (m : Going N P) (f : Feed) (now : View) (t : Tape) (end : Finished) (result : RunEnd) → IsSet s → (fin : IsFinished s m f now t end)
    → (IsWhole N P s fin.rows fin.history t false → IsAnswer N P s fin.rows end.last fin.history t result) → Ran s m f now t result
ran_from s m f now t end result set fin answer = record {
  rows = fin.rows;
  last = end.last;
  history = fin.history;
  read = fin.read;
  stands = fin.done.stands;
  cycles = few_cycles s f now fin.rows end.last fin.history set fin.read (is_front_of s (pieces s fin.rows) fin.history fin.script);
  answer = answer (whole_of s m f now t end fin);
}

-- the numbers of a run
numbers_of : (s : Setting) (xs : List (List ℕ)) (h : History) (advanced asked gone : ℕ) → IsSet s → h ≡ events_of s xs → cycles_in h ≡ asked → advanced ≡ (account (stages_of s) s.stripes h).time
    → gone ≡ left (stages_of s) (account (stages_of s) s.stripes h) → HasNumbers s h advanced (asked - advanced) gone
numbers_of s xs h advanced asked gone set e count time is_left =
    let v = stages_of s in
    let a = account v s.stripes h in
    let w = whole v s.stripes xs s.stall set.some set.two in
    let l = lawful v s.stripes h set.some in
    let few = left_inside v s.stripes a l in
    let taken : a.taken ≡ length xs = ap (λ (x : History). (account v s.stripes x).taken) e ∙ w.taken in
    let offered : length a.offered ≡ length xs = ap (λ (x : History). length (account v s.stripes x).offered) e ∙ ap length w.offered in
    let some = l.taken in
    record {
      cycles = time;
      stalls = ap₂ (λ x y. x - y) (sym count) time;
      results = omega (arith, is_left, few, taken, offered, some);
    }

end_line_is : (s : Setting) (h : History) (a b c : ℕ) → HasNumbers s h a b c → closing_line s.conf s.stripes h ≡ end_line_of a b c
end_line_is s h a b c n =
    ap (λ x. end_line_of x (stalls_in (stages_of s) s.stripes h) (account (stages_of s) s.stripes h).taken) (sym n.cycles)
    ∙ (ap (λ x. end_line_of a x (account (stages_of s) s.stripes h).taken) (sym n.stalls) ∙ ap (end_line_of a b) (sym n.results))

good_text : (s : Setting) (h : History) (a b c : ℕ) → HasNumbers s h a b c → text_of s.log (closing_lines s.conf s.stripes h true) ≡ cond s.log (end_line_of a b c) []
good_text s h a b c n = end_text s.log (closing_line s.conf s.stripes h) ∙ ap (λ line. cond s.log line []) (end_line_is s h a b c n)

pub ran_done : {N P : ℕ} (s : Setting) (m : Going N P) (f : Feed) (now : View) (t t' : Tape) (asked advanced gone : ℕ) → IsSet s → (fin : IsFinished s m f now t (record { last = Got.End; asked = asked }))
    → ((h : History) → Stands m s.conf s.stripes h → advanced ≡ (account (stages_of s) s.stripes h).time) → ((h : History) → Stands m s.conf s.stripes h → gone ≡ left (stages_of s) (account (stages_of s) s.stripes h))
    → Appends t t' (cond s.log (end_line_of advanced (asked - advanced) gone) []) → Ran s m f now t' (RunEnd.Done advanced (asked - advanced) gone)
ran_done {N} {P} s m f now t t' asked advanced gone set fin time is_left line =
    let h = fin.history in
    let xs = pieces s fin.rows in
    let n = numbers_of s xs h advanced asked gone set fin.script fin.asked (time h fin.done.stands) (is_left h fin.done.stands) in
    let text = text_whole N P s true xs h fin.script ∙ ap (λ ls. text_of s.log (history_lines N P s.conf s.stripes h) ++ ls) (good_text s h advanced (asked - advanced) gone n) in
    record {
      rows = fin.rows;
      last = Got.End;
      history = h;
      read = fin.read;
      stands = fin.done.stands;
      cycles = few_cycles s f now fin.rows Got.End h set fin.read (is_front_of s xs h fin.script);
      answer = (refl, record { events = fin.script; text = subst (λ (bytes : List ℕ). Appends s.tape t' bytes) (sym text) (Appends-append s.tape t t' _ _ fin.done.text line) }, n);
    }

-- the line at the end was not written whole
pub ran_end_cut : {N P : ℕ} (s : Setting) (m : Going N P) (f : Feed) (now : View) (t t' : Tape) (asked advanced gone : ℕ) → IsSet s → (fin : IsFinished s m f now t (record { last = Got.End; asked = asked }))
    → ((h : History) → Stands m s.conf s.stripes h → advanced ≡ (account (stages_of s) s.stripes h).time) → ((h : History) → Stands m s.conf s.stripes h → gone ≡ left (stages_of s) (account (stages_of s) s.stripes h))
    → AppendsFront t t' (cond s.log (end_line_of advanced (asked - advanced) gone) []) → Ran s m f now t' RunEnd.WriteFault
ran_end_cut {N} {P} s m f now t t' asked advanced gone set fin time is_left line =
    let h = fin.history in
    let xs = pieces s fin.rows in
    let lines = history_lines N P s.conf s.stripes h in
    let n = numbers_of s xs h advanced asked gone set fin.script fin.asked (time h fin.done.stands) (is_left h fin.done.stands) in
    let front : AppendsFront s.tape t' (text_of s.log lines ++ text_of s.log (closing_lines s.conf s.stripes h true)) =
    subst (λ (bytes : List ℕ). AppendsFront s.tape t' (text_of s.log lines ++ bytes)) (sym (good_text s h advanced (asked - advanced) gone n)) (front_after s.tape t t' _ _ fin.done.text line) in
    record {
      rows = fin.rows;
      last = Got.End;
      history = h;
      read = fin.read;
      stands = fin.done.stands;
      cycles = few_cycles s f now fin.rows Got.End h set fin.read (is_front_of s xs h fin.script);
      answer = record {
        closing = true;
        text = subst (λ (bytes : List ℕ). AppendsFront s.tape t' bytes) (sym (text-append s.log lines (closing_lines s.conf s.stripes h true))) front;
        over = λ e. (refl, fin.script);
        events = λ more follows.
            subst (λ (ys : List (List ℕ)). IsPrefix h (events_of s ys)) (sym (append-nil xs) ∙ ap (λ ys. xs ++ ys) (sym follows)) (is_front_of s xs h fin.script);
        front = λ more good follows only.
            (let is_good = only refl in
            let all : xs ++ more ≡ xs = ap (λ ys. xs ++ ys) follows ∙ append-nil xs in
            subst (λ (b : Bool). AppendsFront s.tape t' (lines_of N P s (xs ++ more) b)) (sym is_good)
            (subst (λ (ys : List (List ℕ)). AppendsFront s.tape t' (lines_of N P s ys true)) (sym all)
            (subst (λ (bytes : List ℕ). AppendsFront s.tape t' bytes) (sym (text_whole N P s true xs h fin.script)) front)));
      };
    }
