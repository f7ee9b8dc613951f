-- The steps after the feed: what they make of a run.
use Rattle.std.proofs.Common.{◌≡◌, ℕ, ◌<◌, Bool, true, false, not, ◌&&◌, ◌==◌, List, [], ◌∷◌, ◌++◌, length, refl, sym, ap, ◌∙◌, subst, append-nil}
use Rattle.std.proofs.lemmas.Bool.{not-true, cond-true, cond-false, cond_both, and_parts}
use Rattle.std.proofs.lemmas.List.{length-map}
use Rattle.pr_edge.specs.Tape.{Tape}
use Rattle.pr_base.specs.Rows.{row_bytes}
use Rattle.pr_samples.specs.declared.feed.Feed.{Feed}
use Rattle.pr_samples.specs.declared.feed.Got.{Got}
use Rattle.pr_samples.specs.Feed.{widths_of, given_of}
use Rattle.pr_samples.specs.Got.{is_sample}
use Rattle.pr_machine_account.specs.Account.{Account, Cycle, account, left}
use Rattle.pr_machine.specs.Stands.{Stands, History}
use Rattle.pr_run_script.specs.Script.{Held, Run, waiting, read_next, reads, fed, emptied, is_finished, closed, turned}
use Rattle.pr_run_script.specs.Counts.{IsPrefix}
use Rattle.pr_run_script.proofs.RunLaws.{taken_account, offered_cycle, turned_going}
use Rattle.pr_run_script.proofs.WholeLaws.{front_self, front_trans, closed_front}
use Rattle.pr_edge.specs.Files.{View}
use Rattle.pr_run.specs.Setting.{Setting, IsSet, stages_of, pieces}
use Rattle.pr_run.specs.Turns.{Going, HasDone, HasBegun, HasRead, MayFollow, run_at, taken_unless, IsOn, IsDone, IsCut}
use Rattle.pr_run.proofs.NextSamples.{follows_nil}

-- ---- the steps change nothing in that a run goes on
fed_over : (v p : ℕ) (turn : Held) (r : Run (List ℕ)) → (fed v p turn r).over ≡ r.over
fed_over v p turn r = cond_both (reads v p turn r) (read_next r r.rest) r (λ x. x.over ≡ r.over) (λ e. read_over r.rest) (λ e. refl)
  where
    read_over : (rest : List (List ℕ)) → (read_next r rest).over ≡ r.over
    read_over [] = refl
    read_over (x ∷ rest) = refl

emptied_over : (v p : ℕ) (turn : Held) (r : Run (List ℕ)) → (emptied v p turn r).over ≡ r.over
emptied_over v p turn r = cond_both turn.output r _ (λ x. x.over ≡ r.over) (λ e. refl) (λ e. refl)

-- a turn, by its steps
pub turned_steps : (v p : ℕ) (turn : Held) (r : Run (List ℕ)) → (emptied v p turn (fed v p turn r)).over ≡ false
    → (r.over ≡ false) × (turned v p turn r ≡ closed v p (emptied v p turn (fed v p turn r)))
turned_steps v p turn r e =
    let going = sym (fed_over v p turn r) ∙ (sym (emptied_over v p turn (fed v p turn r)) ∙ e) in
    (going, turned_going v p turn r going)

pub turned_fed : (v p : ℕ) (turn : Held) (r : Run (List ℕ)) → (fed v p turn r).over ≡ false → turned v p turn r ≡ closed v p (emptied v p turn (fed v p turn r))
turned_fed v p turn r e = turned_going v p turn r (sym (fed_over v p turn r) ∙ e)

-- ---- what waits is written
emptied_is : (s : Setting) (input output : Bool) (h : History) (more : List (List ℕ)) (last : Got)
    → emptied (stages_of s) s.stripes (record { input = input; output = output }) (run_at h more last) ≡ run_at (taken_unless output s h) more last
emptied_is s input true h more last = refl
emptied_is s input false h more last = refl

taken_offered : (s : Setting) (output : Bool) (h : History) → 0 < stages_of s → (account (stages_of s) s.stripes (taken_unless output s h)).offered ≡ (account (stages_of s) s.stripes h).offered
taken_offered s true h some = refl
taken_offered s false h some = ap (λ (a : Account (List ℕ)). a.offered) (taken_account (stages_of s) s.stripes h some)

pub on_written : {N P : ℕ} (s : Setting) (runs : List (List ℕ) → Run (List ℕ)) (turn : Held) (m m' : Going N P) (f : Feed) (now : View) (t t' : Tape) (last : Got) (output : Bool) → IsSet s → turn.output ≡ output
    → ((h : History) → HasDone s m t h → HasDone s m' t' (taken_unless output s h)) → IsOn s runs m f now t last → IsOn s (λ xs. emptied (stages_of s) s.stripes turn (runs xs)) m' f now t' last
on_written s runs turn m m' f now t t' last output set side step on = record {
  rows = on.rows;
  history = taken_unless output s on.history;
  done = step on.history on.done;
  read = on.read;
  offered = taken_offered s output on.history set.some ∙ on.offered;
  run = λ more follows.
      ap (emptied (stages_of s) s.stripes turn) (on.run more follows)
      ∙ (emptied_is s turn.input turn.output on.history more last ∙ ap (λ b. run_at (taken_unless b s on.history) more last) side);
}

-- a write failed within the events of a run
pub cut_within : {N P : ℕ} (s : Setting) (next : List (List ℕ) → Run (List ℕ)) (m : Going N P) (f : Feed) (now : View) (t : Tape) (rows : List (List ℕ)) (last : Got) (part : History)
    → HasBegun s m t part → HasRead s f now rows last → ((more : List (List ℕ)) → MayFollow last more → IsPrefix part (next (pieces s rows ++ more)).history) → IsCut s next m f now t
cut_within s next m f now t rows last part b read front = record {
  rows = rows;
  last = last;
  history = b.history;
  stands = b.stands;
  text = b.text;
  read = read;
  front = λ more follows. front_trans b.history part (next (pieces s rows ++ more)).history b.front (front more follows);
}

-- ---- the end of a turn
abbrev pub over_test : Setting → Feed → Got → History → Bool
over_test s f last h =
    not (is_sample last) && (left (stages_of s) (account (stages_of s) s.stripes h) == given_of f) && (waiting (stages_of s) (account (stages_of s) s.stripes h) == 0)

finished_is : {N P : ℕ} (s : Setting) (runs : List (List ℕ) → Run (List ℕ)) (m : Going N P) (f : Feed) (now : View) (t : Tape) (last : Got) (on : IsOn s runs m f now t last) (more : List (List ℕ))
    → is_finished (stages_of s) s.stripes (run_at on.history more last) ≡ over_test s f last on.history
finished_is s runs m f now t last on more =
    let a = account (stages_of s) s.stripes on.history in
    let count : length a.offered ≡ given_of f = ap length on.offered ∙ (length-map on.rows (row_bytes (widths_of s.feed)) ∙ sym on.read.count) in
    ap (λ n. not (is_sample last) && (left (stages_of s) a == n) && (waiting (stages_of s) a == 0)) count

going_at : {N P : ℕ} (s : Setting) (runs : List (List ℕ) → Run (List ℕ)) (m : Going N P) (f : Feed) (now : View) (t : Tape) (last : Got) (on : IsOn s runs m f now t last) (more : List (List ℕ))
    → MayFollow last more → (runs (pieces s on.rows ++ more)).over ≡ false
going_at s runs m f now t last on more follows = ap (λ (r : Run (List ℕ)). r.over) (on.run more follows)

-- what comes next where the run is closed
abbrev pub Closes : Setting → (List (List ℕ) → Run (List ℕ)) → (List (List ℕ) → Run (List ℕ)) → (List (List ℕ) → Run (List ℕ)) → Type 0
Closes s first runs next = (xs : List (List ℕ)) → (runs xs).over ≡ false → ((first xs).over ≡ false) × (next xs ≡ closed (stages_of s) s.stripes (runs xs))

pub done_over : {N P : ℕ} (s : Setting) (first runs next : List (List ℕ) → Run (List ℕ)) (m : Going N P) (f : Feed) (now : View) (t : Tape) (last : Got) (over : Bool) → Closes s first runs next → over ≡ true
    → ((h : History) → Stands m s.conf s.stripes h → over ≡ over_test s f last h) → IsOn s runs m f now t last → IsDone s first next m f now t last
done_over s first runs next m f now t last over closes is test on =
    let h = on.history in
    let e : over_test s f last h ≡ true = sym (test h on.done.stands) ∙ is in
    let ended = not-true (is_sample last) (and_parts _ _ (and_parts _ _ e).0).0 in
    let follows = follows_nil last in
    let xs = pieces s on.rows in
    let r = run_at h [] last in
    let close = closes (xs ++ []) (going_at s runs m f now t last on [] follows) in
    record {
      rows = on.rows;
      history = h;
      done = on.done;
      read = on.read;
      ended = ended;
      before = ap (λ ys. (first ys).over) (sym (append-nil xs)) ∙ close.0;
      run = ap next (sym (append-nil xs))
          ∙ (close.1
          ∙ (ap (closed (stages_of s) s.stripes) (on.run [] follows)
          ∙ (cond-true (is_finished (stages_of s) s.stripes r) (record r { over = true }) (record r { history = h ++ Cycle ∷ [] }) (finished_is s runs m f now t last on [] ∙ e)
          ∙ ap (λ b. record { history = h; rest = []; ended = not b; over = true }) ended)));
    }

closed_cycle : {N P : ℕ} (s : Setting) (first runs next : List (List ℕ) → Run (List ℕ)) (m : Going N P) (f : Feed) (now : View) (t : Tape) (last : Got) (over : Bool) → Closes s first runs next → over ≡ false
    → ((h : History) → Stands m s.conf s.stripes h → over ≡ over_test s f last h) → (on : IsOn s runs m f now t last) → (more : List (List ℕ)) → MayFollow last more
    → next (pieces s on.rows ++ more) ≡ run_at (on.history ++ Cycle ∷ []) more last
closed_cycle s first runs next m f now t last over closes is test on more follows =
    let h = on.history in
    let r = run_at h more last in
    let e : over_test s f last h ≡ false = sym (test h on.done.stands) ∙ is in
    (closes (pieces s on.rows ++ more) (going_at s runs m f now t last on more follows)).1
    ∙ (ap (closed (stages_of s) s.stripes) (on.run more follows)
    ∙ cond-false (is_finished (stages_of s) s.stripes r) (record r { over = true }) (record r { history = h ++ Cycle ∷ [] }) (finished_is s runs m f now t last on more ∙ e))

pub on_cycle : {N P : ℕ} (s : Setting) (first runs next : List (List ℕ) → Run (List ℕ)) (m m' : Going N P) (f : Feed) (now : View) (t t' : Tape) (last : Got) (over : Bool) → Closes s first runs next → over ≡ false
    → ((h : History) → Stands m s.conf s.stripes h → over ≡ over_test s f last h) → ((h : History) → HasDone s m t h → HasDone s m' t' (h ++ Cycle ∷ []))
    → IsOn s runs m f now t last → IsOn s next m' f now t' last
on_cycle s first runs next m m' f now t t' last over closes is test step on = record {
  rows = on.rows;
  history = on.history ++ Cycle ∷ [];
  done = step on.history on.done;
  read = on.read;
  offered = offered_cycle (stages_of s) s.stripes on.history ∙ on.offered;
  run = λ more follows. closed_cycle s first runs next m f now t last over closes is test on more follows;
}

pub cut_cycle : {N P : ℕ} (s : Setting) (first runs next : List (List ℕ) → Run (List ℕ)) (m m' : Going N P) (f : Feed) (now : View) (t t' : Tape) (last : Got) (over : Bool) → Closes s first runs next → over ≡ false
    → ((h : History) → Stands m s.conf s.stripes h → over ≡ over_test s f last h) → ((h : History) → HasDone s m t h → HasBegun s m' t' (h ++ Cycle ∷ []))
    → IsOn s runs m f now t last → IsCut s next m' f now t'
cut_cycle s first runs next m m' f now t t' last over closes is test step on =
    let part = on.history ++ Cycle ∷ [] in
    cut_within s next m' f now t' on.rows last part (step on.history on.done) on.read
    (λ more follows. subst (λ (r : Run (List ℕ)). IsPrefix part r.history) (sym (closed_cycle s first runs next m f now t last over closes is test on more follows)) (front_self part))

-- a write failed while results were written
pub cut_written : {N P : ℕ} (s : Setting) (runs next : List (List ℕ) → Run (List ℕ)) (turn : Held) (m m' : Going N P) (f : Feed) (now : View) (t t' : Tape) (last : Got) (output : Bool) → turn.output ≡ output
    → ((xs : List (List ℕ)) → (runs xs).over ≡ false → next xs ≡ closed (stages_of s) s.stripes (emptied (stages_of s) s.stripes turn (runs xs)))
    → ((h : History) → HasDone s m t h → HasBegun s m' t' (taken_unless output s h)) → IsOn s runs m f now t last → IsCut s next m' f now t'
cut_written s runs next turn m m' f now t t' last output side closes step on =
    let v = stages_of s in
    let part = taken_unless output s on.history in
    cut_within s next m' f now t' on.rows last part (step on.history on.done) on.read
    (λ more follows.
    (let xs = pieces s on.rows ++ more in
    let r = emptied v s.stripes turn (runs xs) in
    let is : r ≡ run_at part more last =
    ap (emptied v s.stripes turn) (on.run more follows) ∙ (emptied_is s turn.input turn.output on.history more last ∙ ap (λ b. run_at (taken_unless b s on.history) more last) side) in
    subst (λ (x : Run (List ℕ)). IsPrefix part x.history) (sym (closes xs (going_at s runs m f now t last on more follows)))
    (subst (λ (g : History). IsPrefix g (closed v s.stripes r).history) (ap (λ (x : Run (List ℕ)). x.history) is) (closed_front v s.stripes r))))
