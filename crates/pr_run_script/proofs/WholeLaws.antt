-- The whole run: its numbers, and what its events go on from.
use Rattle.std.proofs.Common.{◌≡◌, ℕ, zero, suc, ◌+◌, ◌-◌, ◌<◌, ◌≤◌, true, false, cond, ◌&&◌, not, ltb, eqb, List, [], ◌∷◌, ◌++◌, length, replicate, refl, sym, ap, ap₂, ◌∙◌, subst, arith, inl, inr, append_assoc, append-nil}
use Rattle.std.proofs.lemmas.Bool.{cases_lt, cases_Bool, cond_both, eqb-true}
use Rattle.std.proofs.lemmas.List.{length-append, nil_from_length}
use Rattle.pr_control.specs.Counts.{cycles_of}
use Rattle.pr_machine_account.specs.Account.{Account, Event, Offer, Take, Cycle, left, done, entered, stalled, after, account_from, account, start}
use Rattle.pr_machine_account.specs.Drain.{Feeding, free_turns}
use Rattle.pr_machine_account.proofs.AccountLaws.{lawful}
use Rattle.pr_machine_account.proofs.ReplyLaws.{left_inside}
use Rattle.pr_machine_account.proofs.CountLaws.{fresh, all_have_left, not_all_before, time_is}
use Rattle.pr_run_script.specs.Script.{Held, free, Run, begun, waiting, reads, read_next, fed, emptied, is_finished, closed, turned, turns, held_at, most_cycles, whole_run, script}
use Rattle.pr_run_script.specs.Counts.{cycles_in, IsWhole, IsPrefix}
use Rattle.pr_run_script.proofs.RunLaws.{both_true, not_both, account_nil, offered_account, taken_account, cycles-append, IsMid, IsRun, fed_mid, emptied_mid, run_mid, turns_suc, turns_none, turns_run, turned_going, turns_stay}
use Rattle.pr_run_script.proofs.EndLaws.{feeding, turns_free, finished_free, over_in_time, over_is_whole}

-- ---- time and cycles
event_time : {R : Type 0} (v p : ℕ) (a : Account R) (e : Event R) → (after v p a e).time ≤ a.time + cycles_in (e ∷ [])
unfolding cycles_in
event_time v p a (Offer x) = cond_both (ltb (length a.offered - length a.entries) 16) (record a { offered = a.offered ++ x ∷ [] }) a (λ b. b.time ≤ a.time + 0) (λ z. omega arith) (λ z. omega arith)
event_time v p a Take = cond_both (ltb a.taken (left v a)) (record a { taken = a.taken + 1 }) a (λ b. b.time ≤ a.time + 0) (λ z. omega arith) (λ z. omega arith)
event_time v p a Cycle = cond_both (stalled v p a) a (record a { entries = entered v p a; time = a.time + 1 }) (λ b. b.time ≤ a.time + 1) (λ z. omega arith) (λ z. omega arith)

time_from : {R : Type 0} (v p : ℕ) (a : Account R) (es : List (Event R)) → (account_from v p a es).time ≤ a.time + cycles_in es
time_from v p a [] = omega arith
time_from v p a (e ∷ es) =
    let x = event_time v p a e in
    let y = time_from v p (after v p a e) es in
    let z = cycles-append (e ∷ []) es in
    omega arith

pub time_few : {R : Type 0} (v p : ℕ) (h : List (Event R)) → (account v p h).time ≤ cycles_in h
unfolding account
time_few {R} v p h = let t = time_from v p (start {R = R}) h in let z : 0 + cycles_in h ≡ cycles_in h = omega arith in subst (λ n. (account_from v p (start {R = R}) h).time ≤ n) z t

-- ---- the end
pub record IsDone {R : Type 0} (v p : ℕ) (xs : List R) (r : Run R) : Type 0 where
  pub ended : r.ended ≡ true
  pub offered : (account v p r.history).offered ≡ xs
  pub left : left v (account v p r.history) ≡ length xs
  pub taken : (account v p r.history).taken ≡ length xs

pub over_done : {R : Type 0} (v p k : ℕ) (xs : List R) (r : Run R) → 0 < v → IsRun v p k xs r → r.over ≡ true → IsDone v p xs r
over_done {R} v p k xs r hv h over =
    let a = account v p r.history in
    let f = both_true (r.ended && eqb (left v a) (length a.offered)) (eqb (waiting v a) 0) (h.finished over) in
    let g = both_true r.ended (eqb (left v a) (length a.offered)) f.0 in
    let offered : a.offered ≡ xs = sym (append-nil a.offered) ∙ (ap (λ ys. a.offered ++ ys) (sym (h.none g.0)) ∙ h.total) in
    let gone : left v a ≡ length xs = eqb-true (left v a) (length a.offered) g.1 ∙ ap length offered in
    let none = eqb-true (waiting v a) 0 f.1 in
    let few = (lawful v p r.history hv).taken in
    record { ended = g.0; offered = offered; left = gone; taken = omega arith }

pub whole : {R : Type 0} (v p : ℕ) (xs : List R) (stall : List Held) → 0 < v → 2 ≤ p → IsWhole v p xs stall
whole {R} v p xs stall hv hp =
    let k = most_cycles v p stall (length xs) + 1 in
    let over = over_in_time v p stall xs hv hp in
    let r = turns_run v p stall k xs hv in
    let d = over_done v p k xs (whole_run v p xs stall) hv r over in
    record {
      over = over;
      offered = d.offered;
      taken = d.taken;
      cycles = (let f = r.few in let o = ap (λ b. cond {A = ℕ} b 1 0) over in omega arith);
      advanced = time_few v p (script v p xs stall);
    }

-- ---- offers and takes move no clock
pub record IsSameClock {R : Type 0} (a b : Account R) : Type 0 where
  pub time : b.time ≡ a.time
  pub entries : b.entries ≡ a.entries

fed_clock : {R : Type 0} (v p : ℕ) (held : Held) (r : Run R) → IsSameClock (account v p r.history) (account v p (fed v p held r).history)
fed_clock {R} v p held r = cond_both (reads v p held r) (read_next r r.rest) r (λ s. IsSameClock (account v p r.history) (account v p s.history))
    (λ e. next_clock r.rest (both_true (not held.input && not r.ended) _ e).1)
    (λ e. record { time = refl; entries = refl })
  where
    next_clock : (rest : List R) → ltb (length (account v p r.history).offered - length (account v p r.history).entries) 16 ≡ true → IsSameClock (account v p r.history) (account v p (read_next r rest).history)
    next_clock [] room = record { time = refl; entries = refl }
    next_clock (x ∷ rest) room = let e = offered_account v p r.history x room in record { time = ap (λ (b : Account R). b.time) e; entries = ap (λ (b : Account R). b.entries) e }

emptied_clock : {R : Type 0} (v p : ℕ) (held : Held) (r : Run R) → 0 < v → IsSameClock (account v p r.history) (account v p (emptied v p held r).history)
emptied_clock {R} v p held r hv = cond_both held.output r (record r { history = r.history ++ replicate (waiting v (account v p r.history)) Take }) (λ s. IsSameClock (account v p r.history) (account v p s.history))
    (λ e. record { time = refl; entries = refl })
    (λ e. let t = taken_account v p r.history hv in record { time = ap (λ (b : Account R). b.time) t; entries = ap (λ (b : Account R). b.entries) t })

mid_clock : {R : Type 0} (v p : ℕ) (held : Held) (r : Run R) → 0 < v → IsSameClock (account v p r.history) (account v p (emptied v p held (fed v p held r)).history)
mid_clock v p held r hv = let a = fed_clock v p held r in let b = emptied_clock v p held (fed v p held r) hv in record { time = b.time ∙ a.time; entries = b.entries ∙ a.entries }

-- a turn that ends the run asks for no cycle
closed_clock : {R : Type 0} (v p k : ℕ) (xs : List R) (held : Held) (r : Run R) → 0 < v → IsMid v p k xs r → (turned v p held r).over ≡ true
    → IsSameClock (account v p r.history) (account v p (turned v p held r).history) × (cycles_in (turned v p held r).history ≡ k)
closed_clock {R} v p k xs held r hv h over =
    let e = emptied v p held (fed v p held r) in
    let t = turned_going v p held r h.going in
    let m = emptied_mid v p k xs held (fed v p held r) hv (fed_mid v p k xs held r h) in
    subst (λ (s : Run R). IsSameClock (account v p r.history) (account v p s.history) × (cycles_in s.history ≡ k)) (sym t)
    (cond_both (is_finished v p e) (record e { over = true }) (record e { history = e.history ++ Cycle ∷ [] })
    (λ s. s.over ≡ true → IsSameClock (account v p r.history) (account v p s.history) × (cycles_in s.history ≡ k))
    (λ f z. (mid_clock v p held r hv, m.count))
    (λ f z. absurd (not_both e.over z m.going))
    (sym (ap (λ s. s.over) t) ∙ over))

same_left : {R : Type 0} (v : ℕ) (a b : Account R) → IsSameClock a b → left v b ≡ left v a
same_left v a b h = ap₂ (λ t es. done (v - 1) t es) h.time h.entries

-- ---- without a stall text
free_feeding : {R : Type 0} (v p j : ℕ) (xs : List R) → 0 < v → (turns v p [] j (begun xs)).over ≡ false → feeding v p (turns v p [] j (begun xs)) ≡ free_turns v p j (fresh xs)
unfolding feeding
free_feeding {R} v p j xs hv going =
    let z : 0 + j ≡ j = omega arith in
    let n = turns_none v p [] (begun xs) in
    let first : feeding v p (turns v p [] 0 (begun xs)) ≡ fresh xs = ap (feeding v p) n ∙ ap (λ (b : Account R). record { account = b; rest = xs }) (account_nil v p) in
    sym (ap (λ m. feeding v p (turns v p [] m (begun xs))) z)
    ∙ (turns_free v p [] j xs hv (ap (λ m. (turns v p [] m (begun xs)).over) z ∙ going) ∙ ap (free_turns v p j) first)

-- it goes on while not all have left
goes_on : {R : Type 0} (v p j : ℕ) (xs : List R) → 0 < v → 2 ≤ p → j ≤ cycles_of v p (length xs) → (turns v p [] j (begun xs)).over ≡ false
unfolding feeding
goes_on v p zero xs hv hp h = ap (λ s. s.over) (turns_none v p [] (begun xs))
goes_on {R} v p (suc j) xs hv hp h =
    let one : j + 1 ≡ suc j = omega arith in
    let r = turns v p [] j (begun xs) in
    let before = goes_on v p j xs hv hp (omega arith) in
    let s = turns v p [] (j + 1) (begun xs) in
    let t = turned v p (held_at [] j) r in
    let st = turns_suc v p [] j (begun xs) in
    let few : left v (account v p r.history) < length xs =
    subst (λ (f : Feeding R). left v f.account < length xs) (sym (free_feeding v p j xs hv before)) (not_all_before v p j xs hv hp (omega arith)) in
    ap (λ n. (turns v p [] n (begun xs)).over) (sym one) ∙ elim (cases_Bool s.over) [
      | inr going ↦ going
      | inl over ↦ (
          let d = over_done v p (j + 1) xs s hv (turns_run v p [] (j + 1) xs hv) over in
          let c = closed_clock v p j xs (held_at [] j) r hv (run_mid v p j xs r (turns_run v p [] j xs hv) before) (sym (ap (λ u. u.over) st) ∙ over) in
          let l = same_left v (account v p r.history) (account v p t.history) c.0 in
          let e : left v (account v p s.history) ≡ left v (account v p t.history) = ap (λ (u : Run R). left v (account v p u.history)) st in
          let g = d.left in
          absurd (omega arith))
    ]

pub record IsCounted {R : Type 0} (v p : ℕ) (xs : List R) : Type 0 where
  pub cycles : cycles_in (script v p xs []) ≡ cycles_of v p (length xs)
  pub time : (account v p (script v p xs [])).time ≡ cycles_of v p (length xs)

pub counted : {R : Type 0} (v p : ℕ) (xs : List R) → 0 < v → 2 ≤ p → IsCounted v p xs
unfolding feeding
counted {R} v p xs hv hp =
    let n = cycles_of v p (length xs) in
    let r = turns v p [] n (begun xs) in
    let going = goes_on v p n xs hv hp (omega arith) in
    let f = free_feeding v p n xs hv going in
    let run = turns_run v p [] n xs hv in
    let gone : left v (account v p r.history) ≡ length xs = ap (λ (g : Feeding R). left v g.account) f ∙ all_have_left v p xs hv hp in
    let time : (account v p r.history).time ≡ n = ap (λ (g : Feeding R). g.account.time) f ∙ time_is v p n xs hv in
    let i = left_inside v p (account v p r.history) (lawful v p r.history hv) in
    let l = sym (length-append (account v p r.history).offered r.rest) ∙ ap length run.total in
    let none : r.rest ≡ [] = nil_from_length r.rest (omega arith) in
    let all : left v (account v p r.history) ≡ length (account v p r.history).offered = omega arith in
    let st = turns_suc v p [] n (begun xs) in
    let past : held_at [] n ≡ free = refl in
    let is_free : turns v p [] (n + 1) (begun xs) ≡ turned v p free r = st ∙ ap (λ h. turned v p h r) past in
    let over = finished_free v p r hv going none all in
    let c = closed_clock v p n xs free r hv (run_mid v p n xs r run going) over in
    let w : turned v p free r ≡ whole_run v p xs [] = sym is_free ∙ over_is_whole v p [] (n + 1) xs hv hp (ap (λ s. s.over) is_free ∙ over) in
    record {
      cycles = ap (λ (s : Run R). cycles_in s.history) (sym w) ∙ c.1;
      time = ap (λ (s : Run R). (account v p s.history).time) (sym w) ∙ (c.0.time ∙ time);
    }

-- ---- what was asked goes on
pub front_self : {X : Type 0} (xs : List X) → IsPrefix xs xs
front_self xs = record { more = []; is = sym (append-nil xs) }

pub front_more : {X : Type 0} (xs ys : List X) → IsPrefix xs (xs ++ ys)
front_more xs ys = record { more = ys; is = refl }

pub front_trans : {X : Type 0} (xs ys zs : List X) → IsPrefix xs ys → IsPrefix ys zs → IsPrefix xs zs
front_trans xs ys zs h g = record { more = h.more ++ g.more; is = g.is ∙ (ap (λ l. l ++ g.more) h.is ∙ append_assoc xs h.more g.more) }

pub fed_front : {R : Type 0} (v p : ℕ) (held : Held) (r : Run R) → IsPrefix r.history (fed v p held r).history
fed_front {R} v p held r = cond_both (reads v p held r) (read_next r r.rest) r (λ s. IsPrefix r.history s.history) (λ e. next_front r.rest) (λ e. front_self r.history)
  where
    next_front : (rest : List R) → IsPrefix r.history (read_next r rest).history
    next_front [] = front_self r.history
    next_front (x ∷ rest) = front_more r.history (Offer x ∷ [])

pub emptied_front : {R : Type 0} (v p : ℕ) (held : Held) (r : Run R) → IsPrefix r.history (emptied v p held r).history
emptied_front v p held r = cond_both held.output r (record r { history = r.history ++ replicate (waiting v (account v p r.history)) Take }) (λ s. IsPrefix r.history s.history)
    (λ e. front_self r.history) (λ e. front_more r.history (replicate (waiting v (account v p r.history)) Take))

pub closed_front : {R : Type 0} (v p : ℕ) (r : Run R) → IsPrefix r.history (closed v p r).history
closed_front v p r = cond_both (is_finished v p r) (record r { over = true }) (record r { history = r.history ++ Cycle ∷ [] }) (λ s. IsPrefix r.history s.history)
    (λ e. front_self r.history) (λ e. front_more r.history (Cycle ∷ []))

pub turned_front : {R : Type 0} (v p : ℕ) (held : Held) (r : Run R) → IsPrefix r.history (turned v p held r).history
turned_front v p held r =
    let f = fed v p held r in
    let e = emptied v p held f in
    cond_both r.over r (closed v p e) (λ s. IsPrefix r.history s.history) (λ z. front_self r.history)
    (λ z. front_trans r.history e.history (closed v p e).history (front_trans r.history f.history e.history (fed_front v p held r) (emptied_front v p held f)) (closed_front v p e))

pub turns_front : {R : Type 0} (v p : ℕ) (stall : List Held) (k j : ℕ) (r : Run R) → IsPrefix (turns v p stall k r).history (turns v p stall (k + j) r).history
turns_front v p stall k zero r = let z : k + 0 ≡ k = omega arith in subst (λ n. IsPrefix (turns v p stall k r).history (turns v p stall n r).history) (sym z) (front_self (turns v p stall k r).history)
turns_front {R} v p stall k (suc j) r =
    let z : (k + j) + 1 ≡ k + suc j = omega arith in
    subst (λ n. IsPrefix (turns v p stall k r).history (turns v p stall n r).history) z
    (subst (λ (s : Run R). IsPrefix (turns v p stall k r).history s.history) (sym (turns_suc v p stall (k + j) r))
    (front_trans (turns v p stall k r).history (turns v p stall (k + j) r).history (turned v p (held_at stall (k + j)) (turns v p stall (k + j) r)).history
    (turns_front v p stall k j r) (turned_front v p (held_at stall (k + j)) (turns v p stall (k + j) r))))

-- after each turn the script goes on from what was asked
pub script_front : {R : Type 0} (v p : ℕ) (stall : List Held) (k : ℕ) (xs : List R) → 0 < v → 2 ≤ p → IsPrefix (turns v p stall k (begun xs)).history (script v p xs stall)
script_front {R} v p stall k xs hv hp =
    let n = most_cycles v p stall (length xs) + 1 in
    elim (cases_lt n k) [
      | inr sooner ↦ (let z : k + (n - k) ≡ n = omega arith in
          subst (λ m. IsPrefix (turns v p stall k (begun xs)).history (turns v p stall m (begun xs)).history) z (turns_front v p stall k (n - k) (begun xs)))
      | inl later ↦ (let z : n + (k - n) ≡ k = omega arith in
          let e = turns_stay v p stall n (k - n) (begun xs) (over_in_time v p stall xs hv hp) in
          subst (λ m. IsPrefix (turns v p stall m (begun xs)).history (script v p xs stall)) z (subst (λ (s : Run R). IsPrefix s.history (script v p xs stall)) (sym e) (front_self (script v p xs stall))))
    ]
