-- The steps of a turn: what each makes of where the turn is.
use Rattle.std.proofs.Common.{◌≡◌, ◌⊎◌, ℕ, ◌+◌, ◌-◌, ◌<◌, ◌≤◌, ◌&&◌, nat_lt, ltb, eqb, Bool, true, false, List, [], ◌∷◌, ◌++◌, length, replicate, refl, sym, ap, ap₂, ◌∙◌, subst, arith, append_assoc, append-nil, eq-eqb, length-append, inl, inr, zero, suc, take, ◌^◌}
use Rattle.std.proofs.lemmas.Bool.{lt-ltb, ltb-true, eqb-true, cond-true, cond-false}
use Rattle.std.proofs.lemmas.List.{length-drop, length-map, map-append}
use Rattle.std.proofs.lemmas.List.Sums.{count_by-le-length}
use Rattle.pr_base.specs.Rows.{row_bytes}
use Rattle.pr_edge.specs.Tape.{Tape, Appends, AppendsFront}
use Rattle.pr_samples.specs.declared.feed.Feed.{Feed}
use Rattle.pr_samples.specs.declared.feed.Got.{Got}
use Rattle.pr_samples.specs.Feed.{name_of}
use Rattle.pr_samples.specs.Got.{is_sample}
use Rattle.pr_edge.specs.Files.{Told, HasReadCause, View}
use Rattle.pr_machine_account.specs.Account.{Account, Offer, Take, Cycle, account, left, done}
use Rattle.pr_machine_account.proofs.AccountLaws.{lawful}
use Rattle.pr_conf.specs.Through.{result_numbers}
use Rattle.pr_conf.specs.Shape.{Shape}
use Rattle.pr_conf.specs.Configuration.{pes_of}
use Rattle.pr_machine.specs.Stands.{Stands, History, waiting_samples, conf_of, stripes_of, time_of, IsKept}
use Rattle.pr_run.proofs.NextSamples.{IsNext, rows_end, cause_earlier}
use Rattle.pr_run_script.specs.Script.{Run, free, held_at, waiting, reads, read_next, fed, emptied, is_finished, closed, begun, turns, turned}
use Rattle.pr_run_script.proofs.RunLaws.{account_nil, offered_account, taken_account, offered_cycle, turns_none, turns_suc, turns_run}
use Rattle.pr_run.proofs.Closing.{turned_steps}
use Rattle.pr_run.proofs.Lines.{nothing_appended}
use Rattle.pr_run.proofs.WholeRuns.{drain_few}
use Rattle.pr_control.proofs.TurnLaws.{drain_grow}
use Rattle.pr_share_text.specs.Text.{marked}
use Rattle.pr_run_script.proofs.WholeLaws.{over_done}
use Rattle.pr_run_script.proofs.EndLaws.{going_few}
use Rattle.pr_share.specs.declared.uses.Use.{Use}
use Rattle.pr_share.specs.Fed.{HasFed}
use Rattle.pr_share.specs.Turns.{Going, Setting, IsSet, stages_of, pieces, offered_text, gone_test, HasShown, turn_at, IsTurning, IsTurned, IsCut, Begins}
use Rattle.pr_share.proofs.Shown.{offer_text, cycle_text, all_taken_text}
use Rattle.pr_share.proofs.Feeds.{next_fed}

-- ---- the feed
-- the samples that wait after a history
abbrev pub waiting_in : Setting → History → ℕ
waiting_in s h = length (account (stages_of s) s.stripes h).offered - length (account (stages_of s) s.stripes h).entries

pub waiting_count : {N P : ℕ} (s : Setting) (m : Going N P) (h : History) → Stands m s.conf s.stripes h → length (waiting_samples m) ≡ waiting_in s h
waiting_count s m h st = let a = account (stages_of s) s.stripes h in ap length st.parts.input ∙ length-drop (length a.entries) a.offered

pub has_room : {N P : ℕ} (s : Setting) (m : Going N P) (h : History) → length (waiting_samples m) < 16 → Stands m s.conf s.stripes h → nat_lt (waiting_in s h) 16 ≡ true
has_room s m h few st = lt-ltb (waiting_in s h) 16 (let n = waiting_count s m h st in omega (arith, n, few))

pub no_room : {N P : ℕ} (s : Setting) (m : Going N P) (h : History) → length (waiting_samples m) ≡ 16 → Stands m s.conf s.stripes h → nat_lt (waiting_in s h) 16 ≡ false
no_room s m h full st = let n = waiting_count s m h st in false_if (nat_lt (waiting_in s h) 16) refl
  where
    false_if : (b : Bool) → nat_lt (waiting_in s h) 16 ≡ b → b ≡ false
    false_if false e = refl
    false_if true e = absurd (let z = ltb-true (waiting_in s h) 16 e in let n = waiting_count s m h st in omega (arith, n, full))

fed_reads : (s : Setting) (h : History) (more : List (List ℕ)) → nat_lt (waiting_in s h) 16 ≡ true → fed (stages_of s) s.stripes free (turn_at h more false) ≡ read_next (turn_at h more false) more
fed_reads s h more e = cond-true (reads (stages_of s) s.stripes free (turn_at h more false)) _ _ (ap (λ b. true && true && b) e)

fed_full : (s : Setting) (h : History) (more : List (List ℕ)) → nat_lt (waiting_in s h) 16 ≡ false → fed (stages_of s) s.stripes free (turn_at h more false) ≡ turn_at h more false
fed_full s h more e = cond-false (reads (stages_of s) s.stripes free (turn_at h more false)) _ _ (ap (λ b. true && true && b) e)

fed_ended : (s : Setting) (h : History) (more : List (List ℕ)) → fed (stages_of s) s.stripes free (turn_at h more true) ≡ turn_at h more true
fed_ended s h more = refl

module _ {N P : ℕ} (s : Setting) (runs : List (List ℕ) → Run (List ℕ)) (m : Going N P) (f : Feed) (told : Told) (t : Tape) (used : Use) (on : IsTurning s runs m f told t used) where
  run_as : (ended : Bool) → used.ended ≡ ended → (more : List (List ℕ)) → (ended ≡ true → more ≡ []) → runs (pieces s.conf on.rows ++ more) ≡ turn_at on.history more ended
  run_as ended e more none = on.run more (λ z. none (sym e ∙ z)) ∙ ap (turn_at on.history more) e

  skip_with : (next : (List (List ℕ) → Run (List ℕ))) → ((more : List (List ℕ)) → (used.ended ≡ true → more ≡ []) → next (pieces s.conf on.rows ++ more) ≡ turn_at on.history more used.ended) → IsTurning s next m f told t used
  skip_with next run = record { rows = on.rows; history = on.history; shown = on.shown; fed = on.fed; offered = on.offered; count = on.count; unread = on.unread; run = run }

  -- nothing is read: the samples have ended
  pub turn_ended : used.ended ≡ true → IsTurning s (λ xs. fed (stages_of s) s.stripes free (runs xs)) m f told t used
  turn_ended e = skip_with (λ xs. fed (stages_of s) s.stripes free (runs xs)) (λ more none.
      ap (fed (stages_of s) s.stripes free) (run_as true e more (λ z. none e)) ∙ (fed_ended s on.history more ∙ ap (turn_at on.history more) (sym e)))

  -- nothing is read: the queue is full
  pub turn_full : used.ended ≡ false → length (waiting_samples m) ≡ 16 → IsTurning s (λ xs. fed (stages_of s) s.stripes free (runs xs)) m f told t used
  turn_full e full = skip_with (λ xs. fed (stages_of s) s.stripes free (runs xs)) (λ more none.
      ap (fed (stages_of s) s.stripes free) (run_as false e more (λ z. absurd (let y = z in cc)))
      ∙ (fed_full s on.history more (no_room s m on.history full on.shown.stands) ∙ ap (turn_at on.history more) (sym e)))

  end_with : (f' : Feed) (told' : Told) (last : Got) → used.ended ≡ false → length (waiting_samples m) < 16 → HasFed s.first told' f' (s.earlier ++ on.rows) last
      → IsTurning s (λ xs. fed (stages_of s) s.stripes free (runs xs)) m f' told' t (record { count = used.count; last = last; ended = true })
  end_with f' told' last e few read = record {
    rows = on.rows;
    history = on.history;
    shown = on.shown;
    fed = read;
    offered = on.offered;
    count = on.count;
    unread = λ z. absurd (let y = z in cc);
    run = λ more none.
        (let nil : more ≡ [] = none refl in
        ap (λ xs. fed (stages_of s) s.stripes free (runs (pieces s.conf on.rows ++ xs))) nil
        ∙ (ap (fed (stages_of s) s.stripes free) (run_as false e [] (λ z. refl))
        ∙ (fed_reads s on.history [] (has_room s m on.history few on.shown.stands) ∙ ap (λ xs. turn_at on.history xs true) (sym nil))));
  }

  -- the quota is used up
  pub turn_spent : used.ended ≡ false → length (waiting_samples m) < 16 → IsTurning s (λ xs. fed (stages_of s) s.stripes free (runs xs)) m f told t (record used { ended = true })
  turn_spent e few = end_with f told used.last e few on.fed

  -- the samples of the file are found to have ended
  pub turn_end : (f' : Feed) (now now' : View) (numbers : List ℕ) (got : Got) → now.told ≡ told → used.ended ≡ false → is_sample got ≡ false → length (waiting_samples m) < 16 → IsNext f f' now now' numbers got
      → IsTurning s (λ xs. fed (stages_of s) s.stripes free (runs xs)) m f' now'.told t (record { count = used.count; last = got; ended = true })
  turn_end f' now now' numbers got same e ended few next =
      let old : HasFed s.first now.told f (s.earlier ++ on.rows) Got.Sample = subst (λ (g : Got). HasFed s.first now.told f (s.earlier ++ on.rows) g) (on.unread e) (subst (λ (w : Told). HasFed s.first w f (s.earlier ++ on.rows) used.last) (sym same) on.fed) in
      end_with f' now'.told got e few (subst (λ (rows : List (List ℕ)). HasFed s.first now'.told f' rows got) (rows_end got (s.earlier ++ on.rows) numbers ended) (next_fed s.first f f' now now' (s.earlier ++ on.rows) numbers got old next))

  -- a sample is read
  pub turn_sample : (m' : Going N P) (f' : Feed) (now now' : View) (numbers : List ℕ) → 0 < stages_of s → now.told ≡ told → used.ended ≡ false → length (waiting_samples m) < 16 → IsNext f f' now now' numbers Got.Sample
      → ((h : History) → Stands m s.conf s.stripes h → Stands m' s.conf s.stripes (h ++ Offer (row_bytes s.conf.inputs numbers) ∷ []))
      → IsTurning s (λ xs. fed (stages_of s) s.stripes free (runs xs)) m' f' now'.told t (record { count = used.count + 1; last = Got.Sample; ended = false })
  turn_sample m' f' now now' numbers hv same e few next stands =
      let h = on.history in
      let x = row_bytes s.conf.inputs numbers in
      let room = has_room s m h few on.shown.stands in
      let more_pieces : pieces s.conf (on.rows ++ numbers ∷ []) ≡ pieces s.conf on.rows ++ x ∷ [] = map-append (row_bytes s.conf.inputs) on.rows (numbers ∷ []) in
      let old : HasFed s.first now.told f (s.earlier ++ on.rows) Got.Sample = subst (λ (g : Got). HasFed s.first now.told f (s.earlier ++ on.rows) g) (on.unread e) (subst (λ (w : Told). HasFed s.first w f (s.earlier ++ on.rows) used.last) (sym same) on.fed) in
      record {
        rows = on.rows ++ numbers ∷ [];
        history = h ++ Offer x ∷ [];
        shown = record { stands = stands h on.shown.stands; text = rw (offer_text N P s h x hv room) on.shown.text };
        fed = subst (λ (rows : List (List ℕ)). HasFed s.first now'.told f' rows Got.Sample) (append_assoc s.earlier on.rows (numbers ∷ [])) (next_fed s.first f f' now now' (s.earlier ++ on.rows) numbers Got.Sample old next);
        offered = ap (λ (a : Account (List ℕ)). a.offered) (offered_account (stages_of s) s.stripes h x room) ∙ (ap (λ xs. xs ++ x ∷ []) on.offered ∙ sym more_pieces);
        count = (let n = length-append on.rows (numbers ∷ []) in let c = on.count in omega arith);
        unread = λ z. refl;
        run = λ more none.
            (let split : pieces s.conf (on.rows ++ numbers ∷ []) ++ more ≡ pieces s.conf on.rows ++ (x ∷ more) = ap (λ xs. xs ++ more) more_pieces ∙ append_assoc (pieces s.conf on.rows) (x ∷ []) more in
            ap (λ xs. fed (stages_of s) s.stripes free (runs xs)) split
            ∙ (ap (fed (stages_of s) s.stripes free) (run_as false e (x ∷ more) (λ z. absurd (let y = z in cc))) ∙ fed_reads s h (x ∷ more) room));
      }

  -- ---- what waits is written
  pub turn_written : (m' : Going N P) (t' : Tape) → 0 < stages_of s
      → ((h : History) → HasShown s m t h → HasShown s m' t' (h ++ replicate (waiting (stages_of s) (account (stages_of s) s.stripes h)) Take))
      → IsTurning s (λ xs. emptied (stages_of s) s.stripes free (runs xs)) m' f told t' used
  turn_written m' t' hv step = record {
    rows = on.rows;
    history = on.history ++ replicate (waiting (stages_of s) (account (stages_of s) s.stripes on.history)) Take;
    shown = step on.history on.shown;
    fed = on.fed;
    offered = ap (λ (a : Account (List ℕ)). a.offered) (taken_account (stages_of s) s.stripes on.history hv) ∙ on.offered;
    count = on.count;
    unread = on.unread;
    run = λ more none. ap (emptied (stages_of s) s.stripes free) (on.run more none);
  }

  -- a write failed
  pub turn_cut : (t' : Tape) (quota b b' : ℕ) → used.count ≤ quota → ((h : History) → HasShown s m t h → AppendsFront s.tape t' (offered_text N P s h)) → (used.last ≡ Got.ReadFault → HasReadCause told (name_of s.first) b b') → IsCut N P s f told t' quota b b'
  turn_cut t' quota b b' few step cause = record {
    rows = on.rows;
    last = used.last;
    fed = on.fed;
    text = subst (λ (xs : List (List ℕ)). AppendsFront s.tape t' (marked s.number (result_numbers N P s.conf xs))) on.offered (step on.history on.shown);
    few = (let c = on.count in omega (arith, few));
    cause = cause;
  }

-- ---- the end of a turn
-- turn k + 1, by its steps
held_none : (k : ℕ) → held_at [] k ≡ free
held_none zero = refl
held_none (suc k) = refl

abbrev pub before_close : Setting → ℕ → List (List ℕ) → Run (List ℕ)
before_close s k xs = emptied (stages_of s) s.stripes free (fed (stages_of s) s.stripes free (turns (stages_of s) s.stripes [] k (begun xs)))

pair_test : (o n l : ℕ) → n ≤ o → l ≤ n → (eqb (o - n) 0 && eqb n l) ≡ eqb l o
pair_test o n l h k = by_test (eqb l o) refl
  where
    none : (b d : Bool) → eqb (o - n) 0 ≡ b → eqb n l ≡ d → eqb l o ≡ false → (b && d) ≡ false
    none false d e f g = refl
    none true false e f g = refl
    none true true e f g =
        let x = eqb-true (o - n) 0 e in
        let y = eqb-true n l f in
        absurd (let z = eq-eqb l o (omega arith) in cc)

    by_test : (t : Bool) → eqb l o ≡ t → (eqb (o - n) 0 && eqb n l) ≡ eqb l o
    by_test true e = let x = eqb-true l o e in ap₂ (λ a b. a && b) (eq-eqb (o - n) 0 (omega arith)) (eq-eqb n l (omega arith)) ∙ sym e
    by_test false e = none (eqb (o - n) 0) (eqb n l) refl refl e ∙ sym e

regroup : (e x y z : Bool) → (((e && x) && y) && z) ≡ ((e && (x && y)) && z)
regroup true x y z = refl
regroup false x y z = refl

gone_left : (v p : ℕ) (h : History) → 0 < v → (length (account v p h).entries ≤ length (account v p h).offered) × (left v (account v p h) ≤ length (account v p h).entries)
unfolding done
gone_left v p h hv =
    let a = account v p h in
    ((lawful v p h hv).few, count_by-le-length (λ e. ltb (e + (v - 1)) a.time) a.entries)

module _ {N P : ℕ} (s : Setting) (k : ℕ) (m : Going N P) (f : Feed) (told : Told) (t : Tape) (used : Use) (hv : 0 < stages_of s) (on : IsTurning s (before_close s k) m f told t used) where
  next_is : (more : List (List ℕ)) → (used.ended ≡ true → more ≡ []) → turns (stages_of s) s.stripes [] (k + 1) (begun (pieces s.conf on.rows ++ more)) ≡ closed (stages_of s) s.stripes (turn_at on.history more used.ended)
  next_is more none =
      let v = stages_of s in
      let xs = pieces s.conf on.rows ++ more in
      let r = turns v s.stripes [] k (begun xs) in
      turns_suc v s.stripes [] k (begun xs)
      ∙ (ap (λ held. turned v s.stripes held r) (held_none k)
      ∙ ((turned_steps v s.stripes free r (ap (λ (x : Run (List ℕ)). x.over) (on.run more none))).1
      ∙ ap (closed v s.stripes) (on.run more none)))

  finished_is : (more : List (List ℕ)) → is_finished (stages_of s) s.stripes (turn_at on.history more used.ended) ≡ gone_test s used.ended on.history
  finished_is more =
      let a = account (stages_of s) s.stripes on.history in
      let few = gone_left (stages_of s) s.stripes on.history hv in
      sym (regroup used.ended (eqb (length a.offered - length a.entries) 0) (eqb (length a.entries) (left (stages_of s) a)) (eqb (left (stages_of s) a - a.taken) 0)
      ∙ ap (λ b. (used.ended && b) && eqb (left (stages_of s) a - a.taken) 0) (pair_test (length a.offered) (length a.entries) (left (stages_of s) a) few.0 few.1))

  -- the machine is asked for a cycle
  pub turn_cycle : (m' : Going N P) → gone_test s used.ended on.history ≡ false → Stands m' s.conf s.stripes (on.history ++ Cycle ∷ [])
      → IsTurning s (λ xs. turns (stages_of s) s.stripes [] (k + 1) (begun xs)) m' f told t used
  turn_cycle m' e stands = record {
    rows = on.rows;
    history = on.history ++ Cycle ∷ [];
    shown = record { stands = stands; text = rw (cycle_text N P s on.history) on.shown.text };
    fed = on.fed;
    offered = offered_cycle (stages_of s) s.stripes on.history ∙ on.offered;
    count = on.count;
    unread = on.unread;
    run = λ more none.
        (let r = turn_at on.history more used.ended in
        next_is more none ∙ cond-false (is_finished (stages_of s) s.stripes r) (record r { over = true }) (record r { history = on.history ++ Cycle ∷ [] }) (finished_is more ∙ e));
  }

  -- the turn is over
  pub turn_over : (quota : ℕ) → gone_test s used.ended on.history ≡ true → used.count ≤ quota → (is_sample used.last ≡ true → used.count ≡ quota) → IsTurned s m f told t quota used.last
  turn_over quota e few full =
      let v = stages_of s in
      let h = on.history in
      let a = account v s.stripes h in
      let xs = pieces s.conf on.rows ++ [] in
      let r = turn_at h [] used.ended in
      let r' = turns v s.stripes [] (k + 1) (begun xs) in
      let is : r' ≡ record r { over = true } = next_is [] (λ z. refl) ∙ cond-true (is_finished v s.stripes r) (record r { over = true }) (record r { history = h ++ Cycle ∷ [] }) (finished_is [] ∙ e) in
      let done = over_done v s.stripes (k + 1) xs r' hv (turns_run v s.stripes [] (k + 1) xs hv) (ap (λ (x : Run (List ℕ)). x.over) is) in
      let same : r'.history ≡ h = ap (λ (x : Run (List ℕ)). x.history) is in
      let taken : a.taken ≡ length a.offered = sym (ap (λ g. (account v s.stripes g).taken) same) ∙ (done.taken ∙ ap length (append-nil (pieces s.conf on.rows) ∙ sym on.offered)) in
      record {
        rows = on.rows;
        history = h;
        stands = on.shown.stands;
        offered = on.offered;
        text = subst (λ (zs : List (List ℕ)). Appends s.tape t (marked s.number (result_numbers N P s.conf zs))) on.offered (subst (λ (zs : List ℕ). Appends s.tape t zs) (all_taken_text N P s h taken) on.shown.text);
        fed = on.fed;
        few = (let c = on.count in omega (arith, few));
        full = λ z. sym on.count ∙ full z;
      }

-- ---- the turns
pub turn_start : {N P : ℕ} (s : Setting) (m : Going N P) (f : Feed) (told : Told) → Stands m s.conf s.stripes [] → HasFed s.first told f s.earlier Got.Sample
    → IsTurning s (λ xs. turns (stages_of s) s.stripes [] 0 (begun xs)) m f told s.tape (record { count = 0; last = Got.Sample; ended = false })
turn_start {N} {P} s m f told stands fed = record {
  rows = [];
  history = [];
  shown = record { stands = stands; text = rw (ap (λ (a : Account (List ℕ)). marked s.number (take a.taken (result_numbers N P s.conf a.offered))) (account_nil (stages_of s) s.stripes)) (nothing_appended s.tape) };
  fed = subst (λ (rows : List (List ℕ)). HasFed s.first told f rows Got.Sample) (sym (append-nil s.earlier)) fed;
  offered = ap (λ (a : Account (List ℕ)). a.offered) (account_nil (stages_of s) s.stripes);
  count = refl;
  unread = λ z. refl;
  run = λ more none. turns_none (stages_of s) s.stripes [] (begun more);
}

pub set_of : {N P : ℕ} (s : Setting) (m : Going N P) → s.conf ≡ conf_of m → s.stripes ≡ stripes_of m → IsSet s
set_of {N} {P} s m e f =
    let conf = m.parts.conf in
    let stages = length-map conf.stages.items (pes_of {N = N}) in
    let n = ap (λ (c : Shape). length c.stages) e in
    record {
      some = omega (arith, n, stages, conf.some, conf.stages.ok.0);
      stages = omega (arith, n, stages, conf.few, conf.stages.ok.0);
      two = omega (arith, f, m.parts.two, m.parts.places.ok.0);
      most = omega (arith, f, m.parts.small, m.parts.places.ok.0);
    }

pub turn_begin : {N P : ℕ} (s : Setting) (m : Going N P) (f : Feed) (told : Told) (t : Tape) (number : ℕ) → Begins s m f told t number → Stands m (conf_of m) (stripes_of m) []
    → IsTurning s (λ xs. turns (stages_of s) s.stripes [] 0 (begun xs)) m f told t (record { count = 0; last = Got.Sample; ended = false })
turn_begin s m f told t number b st =
    let stands : Stands m s.conf s.stripes [] = subst (λ (c : Shape). Stands m c s.stripes []) (sym b.conf) (subst (λ (p : ℕ). Stands m (conf_of m) p []) (sym b.stripes) st) in
    subst (λ (x : Tape). IsTurning s (λ xs. turns (stages_of s) s.stripes [] 0 (begun xs)) m f told x (record { count = 0; last = Got.Sample; ended = false })) b.tape (turn_start s m f told stands b.fed)

pub stands_self : {N P : ℕ} (m : Going N P) (c : Shape) (p : ℕ) (h : History) → Stands m c p h → Stands m (conf_of m) (stripes_of m) h
stands_self m c p h st = subst (λ (x : Shape). Stands m x (stripes_of m) h) (sym st.conf) (subst (λ (q : ℕ). Stands m c q h) (sym st.stripes) st)

pub kept_time : {N P : ℕ} (m m' : Going N P) → IsKept m m' → time_of m' ≡ time_of m
kept_time m m' k = ap (λ p. p.time) k.plan

pub kept_stripes : {N P : ℕ} (m m' : Going N P) → IsKept m m' → stripes_of m' ≡ stripes_of m
kept_stripes m m' k = ap (λ ps. length ps.items) k.places

-- the setting of a turn, by what it is given
abbrev pub given_setting : {N P : ℕ} → Going N P → ℕ → Tape → Feed → List (List ℕ) → Setting
given_setting m number t first earlier = record { conf = conf_of m; stripes = stripes_of m; number = number; first = first; earlier = earlier; tape = t }

pub given_begins : {N P : ℕ} (m : Going N P) (f : Feed) (told : Told) (t : Tape) (number : ℕ) (first : Feed) (earlier : List (List ℕ)) → HasFed first told f earlier Got.Sample → Begins (given_setting m number t first earlier) m f told t number
given_begins m f told t number first earlier fed = record { conf = refl; stripes = refl; number_is = refl; tape = refl; fed = fed }

pub gone_ended : (s : Setting) (ended : Bool) (h : History) → gone_test s ended h ≡ true → ended ≡ true
gone_ended s true h e = refl
gone_ended s false h e = absurd (let z = e in cc)

-- a cause of one call is one of all calls so far
pub cause_so_far : (told told' : Told) (name name' : List ℕ) (first before now : ℕ) → told' ≡ told → name' ≡ name → first ≤ before → HasReadCause told' name' before now → HasReadCause told name first now
cause_so_far told told' name name' first before now e f l h =
    cause_earlier told name first before now l (subst (λ (x : List ℕ). HasReadCause told x before now) f (subst (λ (w : Told). HasReadCause w name' before now) e h))

pub cause_later : (told : Told) (name : List ℕ) (first before now : ℕ) → before ≤ now → HasReadCause told name first before → HasReadCause told name first now
cause_later told name first before now l (inl missing) = inl missing
cause_later told name first before now l (inr rose) = inr (omega (arith, l, rose))

-- a read fault has its cause since the first call, where it had one so far, and in the last call
pub cause_on : (told told' : Told) (name name' : List ℕ) (first before now : ℕ) (last last' : Got) → told' ≡ told → name' ≡ name → first ≤ before → before ≤ now → (last ≡ Got.ReadFault → HasReadCause told name first before)
    → (last' ≡ Got.ReadFault → (last ≡ Got.ReadFault) ⊎ HasReadCause told' name' before now) → last' ≡ Got.ReadFault → HasReadCause told name first now
cause_on told told' name name' first before now last last' e f l m old new is = elim (new is) [
  | inl same ↦ cause_later told name first before now m (old same)
  | inr cause ↦ cause_so_far told told' name name' first before now e f l cause
]

pub cause_as : (told told' : Told) (name name' : List ℕ) (before now : ℕ) → told ≡ told' → name ≡ name' → HasReadCause told name before now → HasReadCause told' name' before now
cause_as told told' name name' before now e f h = subst (λ (w : Told). HasReadCause w name' before now) e (subst (λ (x : List ℕ). HasReadCause told x before now) f h)

-- a machine that was just resumed is at cycle 0
pub time_start : {N P : ℕ} (m : Going N P) (c : Shape) (p : ℕ) → Stands m c p [] → time_of m ≡ 0
time_start m c p stands = stands.parts.time ∙ ap (λ (a : Account (List ℕ)). a.time) (account_nil (length c.stages) p)

pub few_turns : {N P : ℕ} (s : Setting) (k : ℕ) (m : Going N P) (f : Feed) (told : Told) (t : Tape) (used : Use) → IsSet s → used.count ≤ 2 ^ 32 → IsTurning s (λ xs. turns (stages_of s) s.stripes [] k (begun xs)) m f told t used → k ≤ 2 ^ 56
few_turns s k m f told t used set small on =
    let v = stages_of s in
    let xs = pieces s.conf on.rows ++ [] in
    let few = going_few v s.stripes [] k xs set.some set.two (ap (λ (r : Run (List ℕ)). r.over) (on.run [] (λ z. refl))) in
    let n : length xs ≡ length on.rows = ap length (append-nil (pieces s.conf on.rows)) ∙ length-map on.rows (row_bytes s.conf.inputs) in
    let c = on.count in
    let grow = drain_grow v s.stripes (length xs) (2 ^ 40) set.two (omega (arith, n, c, small)) in
    let most = drain_few v s.stripes set.stages set.two set.most in
    omega (arith, few, grow, most)
