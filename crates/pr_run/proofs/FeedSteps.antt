-- The first step of a turn.
use Rattle.std.proofs.Common.{◌≡◌, ℕ, ◌-◌, ◌<◌, Bool, true, false, not, ◌&&◌, nat_lt, List, [], ◌∷◌, ◌++◌, length, refl, sym, ap, ap₂, ◌∙◌, subst, arith, append_assoc}
use Rattle.std.proofs.lemmas.Bool.{cond-true, cond-false, lt-ltb}
use Rattle.std.proofs.lemmas.List.{map-append, length-drop}
use Rattle.pr_base.specs.Rows.{row_bytes}
use Rattle.pr_edge.specs.Tape.{Tape}
use Rattle.pr_samples.specs.declared.feed.Feed.{Feed}
use Rattle.pr_samples.specs.declared.feed.Got.{Got}
use Rattle.pr_samples.specs.Feed.{widths_of}
use Rattle.pr_samples.specs.Got.{is_sample}
use Rattle.pr_machine_account.specs.Account.{Account, Offer, account}
use Rattle.pr_machine.specs.Stands.{Stands, History, waiting_samples}
use Rattle.pr_run_script.specs.Script.{Held, Run, reads, read_next, fed}
use Rattle.pr_run_script.proofs.RunLaws.{offered_account}
use Rattle.pr_edge.specs.Files.{View}
use Rattle.pr_run.specs.Setting.{Setting, IsSet, stages_of, pieces}
use Rattle.pr_run.specs.Turns.{Going, HasRead, run_at, IsOn}
use Rattle.pr_run.proofs.Lines.{done_offer}
use Rattle.pr_run.proofs.NextSamples.{IsNext, has_next, nothing_follows, rows_end}

-- the samples that wait after a history
abbrev pub waiting_in : Setting → History → ℕ
waiting_in s h = length (account (stages_of s) s.stripes h).offered - length (account (stages_of s) s.stripes h).entries

pub waiting_count : {N P : ℕ} (s : Setting) (m : Going N P) (h : History) → Stands m s.conf s.stripes h → length (waiting_samples m) ≡ waiting_in s h
waiting_count s m h st =
    let a = account (stages_of s) s.stripes h in
    ap length st.parts.input ∙ length-drop (length a.entries) a.offered

pub has_room : {N P : ℕ} (s : Setting) (m : Going N P) (h : History) → length (waiting_samples m) < 16 → Stands m s.conf s.stripes h → nat_lt (waiting_in s h) 16 ≡ true
has_room s m h few st = lt-ltb (waiting_in s h) 16 (let n = waiting_count s m h st in omega (arith, n, few))

not_not : (b : Bool) → not (not b) ≡ b
not_not true = refl
not_not false = refl

-- whether the feed step reads
reads_is : (s : Setting) (turn : Held) (h : History) (more : List (List ℕ)) (last : Got) → reads (stages_of s) s.stripes turn (run_at h more last) ≡ (not turn.input && is_sample last && nat_lt (waiting_in s h) 16)
reads_is s turn h more last = ap (λ b. not turn.input && b && nat_lt (waiting_in s h) 16) (not_not (is_sample last))

fed_reads : (s : Setting) (turn : Held) (h : History) (more : List (List ℕ)) (last : Got) → (not turn.input && is_sample last && nat_lt (waiting_in s h) 16) ≡ true
    → fed (stages_of s) s.stripes turn (run_at h more last) ≡ read_next (run_at h more last) more
fed_reads s turn h more last e = cond-true (reads (stages_of s) s.stripes turn (run_at h more last)) _ _ (reads_is s turn h more last ∙ e)

fed_skips : (s : Setting) (turn : Held) (h : History) (more : List (List ℕ)) (last : Got) → (not turn.input && is_sample last && nat_lt (waiting_in s h) 16) ≡ false
    → fed (stages_of s) s.stripes turn (run_at h more last) ≡ run_at h more last
fed_skips s turn h more last e = cond-false (reads (stages_of s) s.stripes turn (run_at h more last)) _ _ (reads_is s turn h more last ∙ e)

-- nothing is read
pub on_skip : {N P : ℕ} (s : Setting) (runs : List (List ℕ) → Run (List ℕ)) (turn : Held) (m : Going N P) (f : Feed) (now : View) (t : Tape) (last : Got) (held : Bool) (waiting : ℕ)
    → turn.input ≡ held → ((h : History) → Stands m s.conf s.stripes h → waiting ≡ waiting_in s h) → (not held && is_sample last && nat_lt waiting 16) ≡ false
    → IsOn s runs m f now t last → IsOn s (λ xs. fed (stages_of s) s.stripes turn (runs xs)) m f now t last
on_skip s runs turn m f now t last held waiting side few skip on = record {
  rows = on.rows;
  history = on.history;
  done = on.done;
  read = on.read;
  offered = on.offered;
  run = λ more follows.
      (let test = ap₂ (λ b n. not b && is_sample last && nat_lt n 16) side (sym (few on.history on.done.stands)) ∙ skip in
      ap (fed (stages_of s) s.stripes turn) (on.run more follows) ∙ fed_skips s turn on.history more last test);
}

-- the samples are found to have ended
pub on_end : {N P : ℕ} (s : Setting) (runs : List (List ℕ) → Run (List ℕ)) (turn : Held) (m : Going N P) (f f' : Feed) (now now' : View) (t : Tape) (numbers : List ℕ) (got : Got)
    → is_sample got ≡ false → turn.input ≡ false → ((h : History) → Stands m s.conf s.stripes h → nat_lt (waiting_in s h) 16 ≡ true) → IsNext f f' now now' numbers got
    → IsOn s runs m f now t Got.Sample → IsOn s (λ xs. fed (stages_of s) s.stripes turn (runs xs)) m f' now' t got
on_end s runs turn m f f' now now' t numbers got ended side room next on =
    let test : (not turn.input && true && nat_lt (waiting_in s on.history) 16) ≡ true = ap₂ (λ b c. not b && true && c) side (room on.history on.done.stands) in
    record {
      rows = on.rows;
      history = on.history;
      done = on.done;
      read = subst (λ (rows : List (List ℕ)). HasRead s f' now' rows got) (rows_end got on.rows numbers ended) (has_next s f f' now now' on.rows numbers got on.read next);
      offered = on.offered;
      run = λ more follows.
          (let none = nothing_follows got more ended follows in
          ap (λ xs. fed (stages_of s) s.stripes turn (runs (pieces s on.rows ++ xs))) none
          ∙ (ap (fed (stages_of s) s.stripes turn) (on.run [] tt)
          ∙ (fed_reads s turn on.history [] Got.Sample test
          ∙ (ap (λ b. record { history = on.history; rest = []; ended = b; over = false }) (sym (ap not ended)) ∙ ap (λ xs. run_at on.history xs got) (sym none)))));
    }

-- a sample is read
pub on_sample : {N P : ℕ} (s : Setting) (runs : List (List ℕ) → Run (List ℕ)) (turn : Held) (m m' : Going N P) (f f' : Feed) (now now' : View) (t : Tape) (numbers : List ℕ)
    → IsSet s → turn.input ≡ false → ((h : History) → Stands m s.conf s.stripes h → nat_lt (waiting_in s h) 16 ≡ true) → IsNext f f' now now' numbers Got.Sample
    → ((h : History) → Stands m s.conf s.stripes h → Stands m' s.conf s.stripes (h ++ Offer (row_bytes s.conf.inputs numbers) ∷ []))
    → IsOn s runs m f now t Got.Sample → IsOn s (λ xs. fed (stages_of s) s.stripes turn (runs xs)) m' f' now' t Got.Sample
on_sample s runs turn m m' f f' now now' t numbers set side room next stands on =
    let h = on.history in
    let x = row_bytes (widths_of s.feed) numbers in
    let fits = room h on.done.stands in
    let test : (not turn.input && true && nat_lt (waiting_in s h) 16) ≡ true = ap₂ (λ b c. not b && true && c) side fits in
    let more_pieces : pieces s (on.rows ++ numbers ∷ []) ≡ pieces s on.rows ++ x ∷ [] = map-append (row_bytes (widths_of s.feed)) on.rows (numbers ∷ []) in
    let now_stands = subst (λ (ws : List ℕ). Stands m' s.conf s.stripes (h ++ Offer (row_bytes ws numbers) ∷ [])) (sym set.widths) (stands h on.done.stands) in
    record {
      rows = on.rows ++ numbers ∷ [];
      history = h ++ Offer x ∷ [];
      done = done_offer s m m' t h x on.done now_stands;
      read = has_next s f f' now now' on.rows numbers Got.Sample on.read next;
      offered = ap (λ (a : Account (List ℕ)). a.offered) (offered_account (stages_of s) s.stripes h x fits) ∙ (ap (λ xs. xs ++ x ∷ []) on.offered ∙ sym more_pieces);
      run = λ more follows.
          (let split : pieces s (on.rows ++ numbers ∷ []) ++ more ≡ pieces s on.rows ++ (x ∷ more) = ap (λ xs. xs ++ more) more_pieces ∙ append_assoc (pieces s on.rows) (x ∷ []) more in
          ap (λ xs. fed (stages_of s) s.stripes turn (runs xs)) split
          ∙ (ap (fed (stages_of s) s.stripes turn) (on.run (x ∷ more) tt) ∙ fed_reads s turn h (x ∷ more) Got.Sample test));
    }
