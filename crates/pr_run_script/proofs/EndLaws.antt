-- When a run is over, and how many cycles it takes.
use Rattle.std.proofs.Common.{◌≡◌, ◌⊎◌, ℕ, zero, suc, ◌+◌, ◌-◌, ◌<◌, ◌≤◌, Bool, true, false, ◌&&◌, not, ltb, eqb, List, [], ◌∷◌, ◌++◌, length, replicate, refl, sym, ap, ap₂, ◌∙◌, subst, arith, inl, inr}
use Rattle.std.proofs.lemmas.Bool.{cases_lt, cases_Bool, cond-true, cond-false, cond_both, lt-ltb, eq-eqb, false≢true}
use Rattle.std.proofs.lemmas.List.{length-append, get_or_past}
use Rattle.pr_control.specs.Drain.{drain}
use Rattle.pr_control.proofs.TurnLaws.{drain_grow}
use Rattle.pr_machine_account.specs.Account.{Account, Event, Offer, Take, Cycle, left, after, account_from, account}
use Rattle.pr_machine_account.specs.Drain.{Feeding, offer_next, rest_after, take_all_and_cycle, free_turn, free_turns, remaining}
use Rattle.pr_machine_account.proofs.AccountLaws.{lawful, account_push, account-append, from_append, done_below}
use Rattle.pr_machine_account.proofs.FlowLaws.{below_few}
use Rattle.pr_machine_account.proofs.DrainLaws.{drained, free_turns-add}
use Rattle.pr_run_script.specs.Script.{Held, free, Run, begun, waiting, reads, read_next, fed, emptied, is_finished, closed, turned, turns, held_at, most_cycles, whole_run}
use Rattle.pr_run_script.proofs.RunLaws.{both_true, not_both, taken_account, IsMid, IsRun, run_mid, turns_suc, turns_run, turned_going, turns_stay, going_before}

unfoldable pub feeding : {R : Type 0} → ℕ → ℕ → Run R → Feeding R
feeding v p r = record { account = account v p r.history; rest = r.rest }

-- ---- a free turn
-- the feed step of a free turn leaves what a free turn's offer leaves
abbrev after_offer : {R : Type 0} → ℕ → ℕ → Account R → List R → Feeding R
after_offer v p a rest = record { account = account_from v p a (offer_next a rest); rest = rest_after a rest }

abbrev has_room : {R : Type 0} → ℕ → ℕ → Run R → Bool
has_room v p r = ltb (length (account v p r.history).offered - length (account v p r.history).entries) 16

read_free : {R : Type 0} (v p : ℕ) (r : Run R) (rest : List R) → r.rest ≡ rest → has_room v p r ≡ true → feeding v p (read_next r rest) ≡ after_offer v p (account v p r.history) rest
unfolding feeding
read_free v p r [] e room = ap (λ ys. record { account = account v p r.history; rest = ys }) e
read_free {R} v p r (x ∷ rest) e room =
    let a = account v p r.history in
    ap₂ (λ (b : Account R) (ys : List R). record { account = b; rest = ys })
    (account_push v p r.history (Offer x) ∙ sym (ap (account_from v p a) (cond-true (has_room v p r) (Offer x ∷ []) [] room)))
    (sym (cond-true (has_room v p r) rest (x ∷ rest) room))

unread_free : {R : Type 0} (v p : ℕ) (r : Run R) (rest : List R) → r.rest ≡ rest → (rest ≡ []) ⊎ (has_room v p r ≡ false) → feeding v p r ≡ after_offer v p (account v p r.history) rest
unfolding feeding
unread_free v p r [] e why = ap (λ ys. record { account = account v p r.history; rest = ys }) e
unread_free {R} v p r (x ∷ rest) e why = elim why [
  | inl none ↦ absurd (cc)
  | inr full ↦ (let a = account v p r.history in
      ap₂ (λ (b : Account R) (ys : List R). record { account = b; rest = ys })
      (sym (ap (account_from v p a) (cond-false (has_room v p r) (Offer x ∷ []) [] full)))
      (e ∙ sym (cond-false (has_room v p r) rest (x ∷ rest) full)))
]

-- why a free feed step does not read
unread_why : (ended room : Bool) → (not ended && room) ≡ false → (ended ≡ true) ⊎ (room ≡ false)
unread_why true room e = inl refl
unread_why false room e = inr e

fed_free : {R : Type 0} (v p k : ℕ) (xs : List R) (r : Run R) → IsMid v p k xs r → feeding v p (fed v p free r) ≡ after_offer v p (account v p r.history) r.rest
fed_free v p k xs r h = cond_both (reads v p free r) (read_next r r.rest) r (λ s. feeding v p s ≡ after_offer v p (account v p r.history) r.rest)
    (λ e. read_free v p r r.rest refl (both_true (not r.ended) (has_room v p r) e).1)
    (λ e. unread_free v p r r.rest refl (elim (unread_why r.ended (has_room v p r) e) [ inl ended ↦ inl (h.none ended) | inr full ↦ inr full ]))

closed_free : {R : Type 0} (v p : ℕ) (r : Run R) → (closed v p (emptied v p free r)).over ≡ false
    → feeding v p (closed v p (emptied v p free r)) ≡ record { account = account_from v p (account v p r.history) (take_all_and_cycle v (account v p r.history)); rest = r.rest }
unfolding feeding
closed_free {R} v p r = let e = emptied v p free r in let a = account v p r.history in
    cond_both (is_finished v p e) (record e { over = true }) (record e { history = e.history ++ Cycle ∷ [] })
    (λ s. s.over ≡ false → feeding v p s ≡ record { account = account_from v p a (take_all_and_cycle v a); rest = r.rest })
    (λ f z. absurd (false≢true (sym z)))
    (λ f z. ap (λ (b : Account R). record { account = b; rest = r.rest })
    (account_push v p e.history Cycle ∙ (ap (λ b. after v p b Cycle) (account-append v p r.history (replicate (waiting v a) Take)) ∙ sym (from_append v p a (replicate (waiting v a) Take) (Cycle ∷ [])))))

-- a free turn after which the run goes on is a free turn of the account
pub turned_free : {R : Type 0} (v p k : ℕ) (xs : List R) (r : Run R) → IsMid v p k xs r → (turned v p free r).over ≡ false → feeding v p (turned v p free r) ≡ free_turn v p (feeding v p r)
unfolding feeding
turned_free {R} v p k xs r h going =
    let a = account v p r.history in
    let f = fed v p free r in
    let t = turned_going v p free r h.going in
    let c = closed_free v p f (sym (ap (λ s. s.over) t) ∙ going) in
    let same : feeding v p f ≡ after_offer v p a r.rest = fed_free v p k xs r h in
    ap (feeding v p) t
    ∙ (c
    ∙ (ap (λ (s : Feeding R). record { account = account_from v p s.account (take_all_and_cycle v s.account); rest = s.rest }) same
    ∙ ap (λ (b : Account R). record { account = b; rest = rest_after a r.rest }) (sym (from_append v p a (offer_next a r.rest) (take_all_and_cycle v (account_from v p a (offer_next a r.rest)))))))

-- ---- turns past the end of the stall text
held_past : (stall : List Held) (k : ℕ) → length stall ≤ k → held_at stall k ≡ free
held_past stall k h = get_or_past stall k free h

free_turns_suc : {R : Type 0} (v p j : ℕ) (s : Feeding R) → free_turns v p (j + 1) s ≡ free_turn v p (free_turns v p j s)
free_turns_suc v p j s = free_turns-add v p j 1 s

pub turns_free : {R : Type 0} (v p : ℕ) (stall : List Held) (j : ℕ) (xs : List R) → 0 < v → (turns v p stall (length stall + j) (begun xs)).over ≡ false
    → feeding v p (turns v p stall (length stall + j) (begun xs)) ≡ free_turns v p j (feeding v p (turns v p stall (length stall) (begun xs)))
turns_free v p stall zero xs hv going = let z : length stall + 0 ≡ length stall = omega arith in ap (λ n. feeding v p (turns v p stall n (begun xs))) z
turns_free {R} v p stall (suc j) xs hv going =
    let k = length stall + j in
    let z : length stall + suc j ≡ k + 1 = omega arith in
    let one : suc j ≡ j + 1 = omega arith in
    let r = turns v p stall k (begun xs) in
    let suc_is = turns_suc v p stall k (begun xs) in
    let going' : (turns v p stall (k + 1) (begun xs)).over ≡ false = sym (ap (λ n. (turns v p stall n (begun xs)).over) z) ∙ going in
    let before : r.over ≡ false = going_before v p stall k (begun xs) going' in
    let is_free : turns v p stall (k + 1) (begun xs) ≡ turned v p free r = suc_is ∙ ap (λ h. turned v p h r) (held_past stall k (omega arith)) in
    let mid = run_mid v p k xs r (turns_run v p stall k xs hv) before in
    ap (λ n. feeding v p (turns v p stall n (begun xs))) z
    ∙ (ap (feeding v p) is_free
    ∙ (turned_free v p k xs r mid (sym (ap (λ s. s.over) is_free) ∙ going')
    ∙ (ap (free_turn v p) (turns_free v p stall j xs hv before)
    ∙ (sym (free_turns_suc v p j (feeding v p (turns v p stall (length stall) (begun xs))))
    ∙ ap (λ n. free_turns v p n (feeding v p (turns v p stall (length stall) (begun xs)))) (sym one)))))

-- ---- a free turn in which nothing is left to do
-- the feed step finds the end, if it was not found before
fed_end : {R : Type 0} (v p : ℕ) (r : Run R) → r.rest ≡ [] → has_room v p r ≡ true → ((fed v p free r).ended ≡ true) × ((fed v p free r).history ≡ r.history)
fed_end {R} v p r none room = cond_both (reads v p free r) (read_next r r.rest) r (λ s. (s.ended ≡ true) × (s.history ≡ r.history))
    (λ e. subst (λ (ys : List R). ((read_next r ys).ended ≡ true) × ((read_next r ys).history ≡ r.history)) (sym none) (refl, refl))
    (λ e. (elim (unread_why r.ended (has_room v p r) e) [ inl ended ↦ ended | inr full ↦ absurd (not_both (has_room v p r) room full) ], refl))

pub finished_free : {R : Type 0} (v p : ℕ) (r : Run R) → 0 < v → r.over ≡ false → r.rest ≡ [] → left v (account v p r.history) ≡ length (account v p r.history).offered → (turned v p free r).over ≡ true
finished_free {R} v p r hv going none all =
    let a = account v p r.history in
    let l = lawful v p r.history hv in
    let d = done_below (v - 1) a.time a.entries in
    let b = below_few (a.time - (v - 1)) a.entries in
    let f = l.few in
    let room : has_room v p r ≡ true = lt-ltb (length a.offered - length a.entries) 16 (omega arith) in
    let w = fed_end v p r none room in
    let fd = fed v p free r in
    let e = emptied v p free fd in
    let same : account v p e.history ≡ record a { taken = left v a } =
    ap (λ (h : List (Event R)). account v p (h ++ replicate (waiting v (account v p h)) Take)) w.1 ∙ taken_account v p r.history hv in
    let fin : is_finished v p e ≡ true =
    ap₂ (λ (x : Bool) (y : Account R). x && eqb (left v y) (length y.offered) && eqb (waiting v y) 0) w.0 same
    ∙ ap₂ (λ (x y : Bool). x && y) (eq-eqb (left v a) (length a.offered) all) (eq-eqb (left v a - left v a) 0 (omega arith)) in
    ap (λ s. s.over) (turned_going v p free r going) ∙ ap (λ s. s.over) (cond-true (is_finished v p e) (record e { over = true }) (record e { history = e.history ++ Cycle ∷ [] }) fin)

-- ---- the bound
remaining_few : {R : Type 0} (v p k : ℕ) (xs : List R) (r : Run R) → 0 < v → IsRun v p k xs r → remaining (feeding v p r) ≤ length xs
unfolding feeding
remaining_few v p k xs r hv h =
    let a = account v p r.history in
    let f = (lawful v p r.history hv).few in
    let n = sym (length-append a.offered r.rest) ∙ ap length h.total in
    omega arith

pub over_in_time : {R : Type 0} (v p : ℕ) (stall : List Held) (xs : List R) → 0 < v → 2 ≤ p → (whole_run v p xs stall).over ≡ true
unfolding feeding
over_in_time {R} v p stall xs hv hp =
    let n = length stall in
    let d = drain v p (length xs) in
    let k = n + d in
    let r = turns v p stall k (begun xs) in
    elim (cases_Bool r.over) [
      | inl over ↦ ap (λ s. s.over) (turns_stay v p stall k 1 (begun xs) over) ∙ over
      | inr going ↦ (
          let s = turns v p stall n (begun xs) in
          let first = turns_run v p stall n xs hv in
          let g = drain_grow v p (remaining (feeding v p s)) (length xs) hp (remaining_few v p n xs s hv first) in
          let dr = drained v p (feeding v p s) d hv hp (lawful v p s.history hv) g in
          let e : feeding v p r ≡ free_turns v p d (feeding v p s) = turns_free v p stall d xs hv going in
          let none : r.rest ≡ [] = ap (λ (f : Feeding R). f.rest) e ∙ dr.none in
          let all : left v (account v p r.history) ≡ length (account v p r.history).offered =
          ap (λ (f : Feeding R). left v f.account) e ∙ (dr.gone ∙ (sym (ap length dr.all) ∙ sym (ap (λ (f : Feeding R). length f.account.offered) e))) in
          ap (λ t. t.over) (turns_suc v p stall k (begun xs) ∙ ap (λ h. turned v p h r) (held_past stall k (omega arith)))
          ∙ finished_free v p r hv going none all)
    ]

-- a run that goes on has not had more turns than are enough
pub going_few : {R : Type 0} (v p : ℕ) (stall : List Held) (k : ℕ) (xs : List R) → 0 < v → 2 ≤ p → (turns v p stall k (begun xs)).over ≡ false → k ≤ most_cycles v p stall (length xs)
going_few v p stall k xs hv hp going = elim (cases_lt (most_cycles v p stall (length xs)) k) [
  | inr few ↦ few
  | inl many ↦ (
      let n = most_cycles v p stall (length xs) + 1 in
      let over = over_in_time v p stall xs hv hp in
      let z : n + (k - n) ≡ k = omega arith in
      absurd (not_both (turns v p stall k (begun xs)).over
      (sym (ap (λ m. (turns v p stall m (begun xs)).over) z) ∙ (ap (λ s. s.over) (turns_stay v p stall n (k - n) (begun xs) over) ∙ over)) going))
]

-- a run that is over is the whole run
pub over_is_whole : {R : Type 0} (v p : ℕ) (stall : List Held) (k : ℕ) (xs : List R) → 0 < v → 2 ≤ p → (turns v p stall k (begun xs)).over ≡ true → turns v p stall k (begun xs) ≡ whole_run v p xs stall
over_is_whole v p stall k xs hv hp over =
    let n = most_cycles v p stall (length xs) + 1 in
    elim (cases_lt n k) [
      | inl later ↦ (let z : n + (k - n) ≡ k = omega arith in sym (ap (λ m. turns v p stall m (begun xs)) z) ∙ turns_stay v p stall n (k - n) (begun xs) (over_in_time v p stall xs hv hp))
      | inr sooner ↦ (let z : k + (n - k) ≡ n = omega arith in sym (turns_stay v p stall k (n - k) (begun xs) over) ∙ ap (λ m. turns v p stall m (begun xs)) z)
    ]
