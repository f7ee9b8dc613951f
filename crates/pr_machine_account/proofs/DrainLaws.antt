-- Free turns: what each leaves, and that enough of them bring everything out.
use Rattle.std.proofs.Common.{◌≡◌, ℕ, zero, suc, ◌+◌, ◌-◌, ◌<◌, ◌≤◌, Bool, true, false, cond, ◌&&◌, ltb, eqb, List, [], ◌∷◌, ◌++◌, length, replicate, refl, sym, ap, ap₂, ◌∙◌, subst, arith, inl, inr, append_assoc, append-nil}
use Rattle.std.proofs.lemmas.Bool.{cases_lt, cond-true, cond-false, cond_both, lt-ltb, le-ltb, ne_eqb, ltb-true, ltb-false, and_right}
use Rattle.std.proofs.lemmas.List.{length_push, nil_from_length}
use Rattle.pr_conf_pipeline.specs.Rows.{Step, through}
use Rattle.pr_control.specs.Time.{turn}
use Rattle.pr_control.specs.Counts.{turns_in}
use Rattle.pr_control.specs.Drain.{drain}
use Rattle.pr_control.proofs.TurnLaws.{turns_zero, turns_first, drain_split}
use Rattle.pr_machine_account.specs.Account.{Account, Event, Offer, Take, Cycle, below, enters, entered, left, stalled, after, account_from, account, start, IsLawful}
use Rattle.pr_machine_account.specs.Drain.{Feeding, offer_next, rest_after, take_all_and_cycle, turn_events, free_turn, free_turns, turns_events, remaining, IsDrained}
use Rattle.pr_machine_account.specs.Replies.{replies_from, results_in}
use Rattle.pr_machine_account.proofs.AccountLaws.{lawful_after, done_below, below_later, entered_below, left_step, from_append, account-append}
use Rattle.pr_machine_account.proofs.ReplyLaws.{results_whole}

-- ---- takes
-- so many takes take all
pub takes : {R : Type 0} (v p k : ℕ) (a : Account R) → a.taken + k ≡ left v a → account_from v p a (replicate k Take) ≡ record a { taken = left v a }
takes v p zero a h = ap (λ n. record a { taken = n }) (let z : a.taken ≡ left v a = omega arith in z)
takes v p (suc k) a h =
    let e : after v p a Take ≡ record a { taken = a.taken + 1 } = cond-true (ltb a.taken (left v a)) _ _ (lt-ltb a.taken (left v a) (omega arith)) in
    ap (λ b. account_from v p b (replicate k Take)) e ∙ takes v p k (record a { taken = a.taken + 1 }) (let z : a.taken + 1 + k ≡ left v a = omega arith in z)

taken_lawful : {R : Type 0} (v p : ℕ) (a : Account R) → IsLawful v p a → IsLawful v p (record a { taken = left v a })
taken_lawful v p a h = record { entries = h.entries; few = h.few; waiting = h.waiting; taken = omega arith; kept = omega arith }

-- a cycle in which no result waits is not stalled
taken_cycle : {R : Type 0} (v p : ℕ) (a : Account R) → after v p (record a { taken = left v a }) Cycle ≡ record { time = a.time + 1; offered = a.offered; entries = entered v p a; taken = left v a }
taken_cycle v p a =
    let z : eqb (left v a - left v a) 16 ≡ false = ne_eqb (left v a - left v a) 16 (λ e. omega arith) in
    cond-false (stalled v p (record a { taken = left v a })) _ _ (and_right (enters (a.time + 1 - v) (entered v p a)) (eqb (left v a - left v a) 16) z)

all_taken : {R : Type 0} (v p : ℕ) (a : Account R) → IsLawful v p a → account_from v p a (take_all_and_cycle v a) ≡ record { time = a.time + 1; offered = a.offered; entries = entered v p a; taken = left v a }
all_taken v p a h =
    let t = h.taken in
    from_append v p a (replicate (left v a - a.taken) Take) (Cycle ∷ [])
    ∙ ap (λ b. after v p b Cycle) (takes v p (left v a - a.taken) a (omega arith))
    ∙ taken_cycle v p a

-- ---- what an offer leaves
pub record IsOffered {R : Type 0} (v p : ℕ) (a : Account R) (rest : List R) (s : Feeding R) : Type 0 where
  pub law : IsLawful v p s.account
  pub time : s.account.time ≡ a.time
  pub entries : s.account.entries ≡ a.entries
  pub total : s.account.offered ++ s.rest ≡ a.offered ++ rest
  pub same : remaining s ≡ length rest + (length a.offered - length a.entries)
  pub ready : 0 < remaining s → length s.account.entries < length s.account.offered

offered_by : {R : Type 0} (v p : ℕ) (a : Account R) (x : R) (rest : List R) → 0 < v → IsLawful v p a → (b : Bool) → ltb (length a.offered - length a.entries) 16 ≡ b
    → IsOffered v p a (x ∷ rest) (record { account = account_from v p a (cond b (Offer x ∷ []) []); rest = cond b rest (x ∷ rest) })
offered_by v p a x rest hv h true e =
    let b : after v p a (Offer x) ≡ record a { offered = a.offered ++ x ∷ [] } = cond-true (ltb (length a.offered - length a.entries) 16) _ _ e in
    let l = lawful_after v p a (Offer x) hv h in
    subst (λ y. IsOffered v p a (x ∷ rest) (record { account = y; rest = rest })) (sym b)
    (let n = length_push a.offered x in let f = h.few in record {
      law = subst (IsLawful v p) b l;
      time = refl;
      entries = refl;
      total = append_assoc a.offered (x ∷ []) rest;
      same = omega arith;
      ready = λ k. omega arith;
    })
offered_by v p a x rest hv h false e = let g = ltb-false (length a.offered - length a.entries) 16 e in record { law = h; time = refl; entries = refl; total = refl; same = refl; ready = λ k. omega arith }

offered : {R : Type 0} (v p : ℕ) (a : Account R) (rest : List R) → 0 < v → IsLawful v p a → IsOffered v p a rest (record { account = account_from v p a (offer_next a rest); rest = rest_after a rest })
offered v p a [] hv h = record { law = h; time = refl; entries = refl; total = refl; same = refl; ready = λ k. omega arith }
offered v p a (x ∷ rest) hv h = offered_by v p a x rest hv h (ltb (length a.offered - length a.entries) 16) refl

-- ---- what a free turn leaves
pub record IsTurned {R : Type 0} (v p : ℕ) (s t : Feeding R) : Type 0 where
  pub law : IsLawful v p t.account
  pub time : t.account.time ≡ s.account.time + 1
  pub total : t.account.offered ++ t.rest ≡ s.account.offered ++ s.rest
  pub fewer : remaining t ≡ remaining s - cond (turn v p s.account.time) 1 0
  pub quiet : remaining s ≡ 0 → t.account.entries ≡ s.account.entries
  pub kept : (x : ℕ) → x ≤ s.account.time → below x t.account.entries ≡ below x s.account.entries
  pub near : left v t.account ≤ t.account.taken + 1

-- what the cycle's own entry does to the number
enter_case : {R : Type 0} (b : Bool) (es : List ℕ) (x : ℕ) (xs : List R) (r : ℕ) → length es ≤ length xs → (0 < r + (length xs - length es) → length es < length xs)
    → r + (length xs - length (cond (b && ltb (length es) (length xs)) (es ++ x ∷ []) es)) ≡ r + (length xs - length es) - cond b 1 0
enter_case false es x xs r h k = let z : r + (length xs - length es) ≡ r + (length xs - length es) - 0 = omega arith in z
enter_case true es x xs r h k = elim (cases_lt (length es) (length xs)) [
  | inl l ↦ (let n = length_push es x in ap (λ d. r + (length xs - length (cond d (es ++ x ∷ []) es))) (lt-ltb (length es) (length xs) l) ∙ (let z : r + (length xs - length (es ++ x ∷ [])) ≡ r + (length xs - length es) - 1 = omega arith in z))
  | inr g ↦ ap (λ d. r + (length xs - length (cond d (es ++ x ∷ []) es))) (le-ltb (length es) (length xs) g) ∙ (let y : r + (length xs - length es) ≡ 0 = elim (cases_lt 0 (r + (length xs - length es))) [ inl q ↦ absurd (let m = k q in omega arith) | inr q ↦ omega arith ] in let z : r + (length xs - length es) ≡ r + (length xs - length es) - 1 = omega arith in z)
]

enter_none : (b c : Bool) (es : List ℕ) (x : ℕ) → c ≡ false → cond (b && c) (es ++ x ∷ []) es ≡ es
enter_none true c es x e = ap (λ d. cond d (es ++ x ∷ []) es) e
enter_none false c es x e = refl

one_at_most : (b : Bool) → cond {A = ℕ} b 1 0 ≤ 1
one_at_most true = omega arith
one_at_most false = omega arith

pub turned : {R : Type 0} (v p : ℕ) (s : Feeding R) → 0 < v → IsLawful v p s.account → IsTurned v p s (free_turn v p s)
turned v p s hv h =
    let o = account_from v p s.account (offer_next s.account s.rest) in
    let rest = rest_after s.account s.rest in
    let w = offered v p s.account s.rest hv h in
    let e = from_append v p s.account (offer_next s.account s.rest) (take_all_and_cycle v o) ∙ all_taken v p o w.law in
    let l = subst (IsLawful v p) (taken_cycle v p o) (lawful_after v p (record o { taken = left v o }) Cycle hv (taken_lawful v p o w.law)) in
    subst (λ y. IsTurned v p s (record { account = y; rest = rest })) (sym e) (record {
      law = l;
      time = ap (λ n. n + 1) w.time;
      total = w.total;
      fewer = enter_case (turn v p o.time) o.entries o.time o.offered (length rest) w.law.few w.ready
          ∙ ap₂ (λ n x. n - cond {A = ℕ} (turn v p x) 1 0) w.same w.time;
      quiet = λ z. enter_none (turn v p o.time) (ltb (length o.entries) (length o.offered)) o.entries o.time
          (le-ltb (length o.entries) (length o.offered) (let a = w.same in let f = w.law.few in omega arith)) ∙ w.entries;
      kept = λ x below_time. entered_below v p o x (let t = w.time in omega arith) ∙ ap (below x) w.entries;
      near = (let n = left_step v p o hv w.law in let m = one_at_most (enters (o.time + 1 - v) (entered v p o)) in omega arith);
    })

-- ---- what k free turns leave
pub record AreTurned {R : Type 0} (v p k : ℕ) (s t : Feeding R) : Type 0 where
  pub law : IsLawful v p t.account
  pub time : t.account.time ≡ s.account.time + k
  pub total : t.account.offered ++ t.rest ≡ s.account.offered ++ s.rest
  pub fewer : remaining t ≡ remaining s - turns_in v p s.account.time k
  pub quiet : remaining s ≡ 0 → t.account.entries ≡ s.account.entries
  pub kept : (x : ℕ) → x ≤ s.account.time → below x t.account.entries ≡ below x s.account.entries
  pub near : left v s.account ≤ s.account.taken + 1 → left v t.account ≤ t.account.taken + 1

pub turned_times : {R : Type 0} (v p k : ℕ) (s : Feeding R) → 0 < v → IsLawful v p s.account → AreTurned v p k s (free_turns v p k s)
turned_times v p zero s hv h = record {
  law = h;
  time = (let z : s.account.time ≡ s.account.time + 0 = omega arith in z);
  total = refl;
  fewer = (let e = turns_zero v p s.account.time in let z : remaining s ≡ remaining s - turns_in v p s.account.time 0 = omega arith in z);
  quiet = λ z. refl;
  kept = λ x z. refl;
  near = λ z. z;
}
turned_times v p (suc k) s hv h =
    let w = turned v p s hv h in
    let ih = turned_times v p k (free_turn v p s) hv w.law in
    let a : suc k ≡ k + 1 = omega arith in
    let f = turns_first v p s.account.time k in
    let g = ap (λ x. turns_in v p x k) w.time in
    let q = w.fewer in
    let r = ih.fewer in
    record {
      law = ih.law;
      time = ih.time ∙ (ap (λ n. n + k) w.time ∙ (let z : s.account.time + 1 + k ≡ s.account.time + suc k = omega arith in z));
      total = ih.total ∙ w.total;
      fewer = r ∙ (ap₂ (λ x y. x - y) q g ∙ ((let z : remaining s - cond {A = ℕ} (turn v p s.account.time) 1 0 - turns_in v p (s.account.time + 1) k ≡ remaining s - turns_in v p s.account.time (k + 1) = omega arith in z) ∙ ap (λ n. remaining s - turns_in v p s.account.time n) (sym a)));
      quiet = λ z. ih.quiet (q ∙ (let y : remaining s - cond {A = ℕ} (turn v p s.account.time) 1 0 ≡ 0 = omega arith in y)) ∙ w.quiet z;
      kept = λ x z. ih.kept x (let t = w.time in omega arith) ∙ w.kept x z;
      near = λ z. ih.near w.near;
    }

pub free_turns-add : {R : Type 0} (v p a b : ℕ) (s : Feeding R) → free_turns v p (a + b) s ≡ free_turns v p b (free_turns v p a s)
free_turns-add v p zero b s = let z : 0 + b ≡ b = omega arith in ap (λ n. free_turns v p n s) z
free_turns-add v p (suc a) b s =
    let z : suc a + b ≡ suc (a + b) = omega arith in
    ap (λ n. free_turns v p n s) z ∙ free_turns-add v p a b (free_turn v p s)

-- after a free turn at most one result waits
pub one_waits : {R : Type 0} (v p k : ℕ) (s : Feeding R) → 0 < v → IsLawful v p s.account → 0 < k → left v (free_turns v p k s).account ≤ (free_turns v p k s).account.taken + 1
one_waits v p zero s hv h some = absurd (omega arith)
one_waits v p (suc k) s hv h some = let w = turned v p s hv h in (turned_times v p k (free_turn v p s) hv w.law).near w.near

-- the account after the events of k free turns
pub turns_account : {R : Type 0} (v p k : ℕ) (s : Feeding R) → account_from v p s.account (turns_events v p k s) ≡ (free_turns v p k s).account
turns_account v p zero s = refl
turns_account v p (suc k) s = from_append v p s.account (turn_events v p s) (turns_events v p k (free_turn v p s)) ∙ turns_account v p k (free_turn v p s)

-- ---- the bound
-- one further take takes the last
last_taken : {R : Type 0} (v p : ℕ) (a : Account R) → a.taken ≤ left v a → left v a ≤ a.taken + 1 → (after v p a Take).taken ≡ left v a
last_taken v p a h k = cond_both (ltb a.taken (left v a)) (record a { taken = a.taken + 1 }) a (λ b. b.taken ≡ left v a)
    (λ e. let l = ltb-true a.taken (left v a) e in let z : a.taken + 1 ≡ left v a = omega arith in z)
    (λ e. let l = ltb-false a.taken (left v a) e in let z : a.taken ≡ left v a = omega arith in z)

pub drained : {R : Type 0} (v p : ℕ) (s : Feeding R) (k : ℕ) → 0 < v → 2 ≤ p → IsLawful v p s.account → drain v p (remaining s) ≤ k → IsDrained v p s (free_turns v p k s)
drained v p s k hv hp h long =
    let w = drain_split v p s.account.time (remaining s) hv hp in
    let first = w.1 in
    let some = w.3 in
    let d = k - w.0 in
    let mid = free_turns v p w.0 s in
    let a = turned_times v p w.0 s hv h in
    let b = turned_times v p d mid hv a.law in
    let split : k ≡ w.0 + d = omega arith in
    let end : free_turns v p k s ≡ free_turns v p d mid = ap (λ n. free_turns v p n s) split ∙ free_turns-add v p w.0 d s in
    let t = free_turns v p d mid in
    let zero_mid : remaining mid ≡ 0 = a.fewer ∙ (let q = w.2 in let z : remaining s - turns_in v p s.account.time w.0 ≡ 0 = omega arith in z) in
    let zero_end : remaining t ≡ 0 = b.fewer ∙ (let z : remaining mid - turns_in v p mid.account.time d ≡ 0 = omega arith in z) in
    let same = b.quiet zero_mid in
    let empty : t.rest ≡ [] = nil_from_length t.rest (omega arith) in
    let few = b.law.few in
    let count : length t.account.entries ≡ length t.account.offered = omega arith in
    let late : mid.account.time ≤ t.account.time - (v - 1) = (let x = b.time in omega arith) in
    let total : below (t.account.time - (v - 1)) mid.account.entries ≡ length mid.account.entries = below_later v p mid.account.time (t.account.time - (v - 1)) mid.account.entries a.law.entries late in
    let all : t.account.offered ≡ s.account.offered ++ s.rest = sym (append-nil t.account.offered) ∙ (ap (λ r. t.account.offered ++ r) (sym empty) ∙ (b.total ∙ a.total)) in
    let gone : left v t.account ≡ length t.account.offered =
    done_below (v - 1) t.account.time t.account.entries ∙ (ap (below (t.account.time - (v - 1))) same ∙ (total ∙ (ap length (sym same) ∙ count))) in
    let near : left v t.account ≤ t.account.taken + 1 = subst (λ f. left v f.account ≤ f.account.taken + 1) end (one_waits v p k s hv h (omega arith)) in
    subst (IsDrained v p s) (sym end) (record {
      none = empty;
      all = all;
      gone = gone ∙ ap length all;
      taken = last_taken v p t.account b.law.taken near ∙ (gone ∙ ap length all);
    })

-- and then every result was given
pub drained_results : {S R B : Type 0} (M : ℕ → Step S R) (v p : ℕ) (tap : R → B) (h : List (Event R)) (xs : List R) (k : ℕ) → 0 < v
    → IsDrained v p (record { account = account v p h; rest = xs }) (free_turns v p k (record { account = account v p h; rest = xs }))
    → results_in (replies_from M v p tap start (h ++ (turns_events v p k (record { account = account v p h; rest = xs }) ++ Take ∷ []))) ≡ through M v tap ((account v p h).offered ++ xs)
drained_results {R = R} M v p tap h xs k hv d =
    let s : Feeding R = record { account = account v p h; rest = xs } in
    let es = turns_events v p k s ++ Take ∷ [] in
    let t = (free_turns v p k s).account in
    let e : account v p (h ++ es) ≡ after v p t Take =
    account-append v p h es ∙ from_append v p s.account (turns_events v p k s) (Take ∷ []) ∙ ap (λ b. after v p b Take) (turns_account v p k s) in
    let o : (after v p t Take).offered ≡ t.offered = cond_both (ltb t.taken (left v t)) (record t { taken = t.taken + 1 }) t (λ b. b.offered ≡ t.offered) (λ z. refl) (λ z. refl) in
    let f : (account v p (h ++ es)).offered ≡ s.account.offered ++ xs = ap (λ b. b.offered) e ∙ o ∙ d.all in
    let g : (account v p (h ++ es)).taken ≡ length (account v p (h ++ es)).offered = ap (λ b. b.taken) e ∙ d.taken ∙ sym (ap length f) in
    results_whole M v p tap (h ++ es) hv g ∙ ap (through M v tap) f
