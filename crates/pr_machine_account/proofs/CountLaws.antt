-- A whole run of free turns: how many results have left after each.
use Rattle.std.proofs.Common.{◌≡◌, ℕ, ◌+◌, ◌-◌, ◌<◌, ◌≤◌, List, [], ◌∷◌, length, min, sym, ap, ◌∙◌, arith, inl, inr, length-append}
use Rattle.std.proofs.lemmas.Bool.{cases_lt}
use Rattle.pr_control.specs.Counts.{turns_in, cycles_of}
use Rattle.pr_control.proofs.TurnLaws.{turns_grow, cycles_enough}
use Rattle.pr_machine_account.specs.Account.{below, left, start}
use Rattle.pr_machine_account.specs.Drain.{Feeding, free_turns}
use Rattle.pr_machine_account.proofs.AccountLaws.{lawful_start, done_below}
use Rattle.pr_machine_account.proofs.DrainLaws.{turned_times, free_turns-add}

-- these samples, before the first cycle
abbrev pub fresh : {R : Type 0} → List R → Feeding R
fresh xs = record { account = start; rest = xs }

-- as many have entered as stage 0 has had turns, until all have
pub entries_count : {R : Type 0} (v p k : ℕ) (xs : List R) → 0 < v → length (free_turns v p k (fresh xs)).account.entries ≡ min (length xs) (turns_in v p 0 k)
entries_count v p k xs hv =
    let t = free_turns v p k (fresh xs) in
    let w = turned_times v p k (fresh xs) hv (lawful_start v p) in
    let all = sym (length-append t.account.offered t.rest) ∙ ap length w.total in
    let few = w.law.few in
    let fewer : length t.rest + (length t.account.offered - length t.account.entries) ≡ length xs - turns_in v p 0 k = w.fewer ∙ (let z : length xs + (0 - 0) - turns_in v p 0 k ≡ length xs - turns_in v p 0 k = omega arith in z) in
    omega arith

-- and as many have left, v - 1 cycles later
pub left_count : {R : Type 0} (v p k : ℕ) (xs : List R) → 0 < v → left v (free_turns v p k (fresh xs)).account ≡ min (length xs) (turns_in v p 0 (k - (v - 1)))
left_count v p k xs hv =
    let x = k - (v - 1) in
    let mid = free_turns v p x (fresh xs) in
    let a = turned_times v p x (fresh xs) hv (lawful_start v p) in
    let b = turned_times v p (k - x) mid hv a.law in
    let e : free_turns v p k (fresh xs) ≡ free_turns v p (k - x) mid = (let z : k ≡ x + (k - x) = omega arith in ap (λ n. free_turns v p n (fresh xs)) z ∙ free_turns-add v p x (k - x) (fresh xs)) in
    let t = free_turns v p (k - x) mid in
    let now : mid.account.time ≡ x = a.time ∙ (let z : 0 + x ≡ x = omega arith in z) in
    let late : t.account.time - (v - 1) ≡ x = (let y = b.time in omega arith) in
    let same : below x t.account.entries ≡ below x mid.account.entries = b.kept x (omega arith) in
    let total : below x mid.account.entries ≡ length mid.account.entries = ap (λ n. below n mid.account.entries) (sym now) ∙ a.law.entries.total in
    ap (λ f. left v f.account) e ∙ done_below (v - 1) t.account.time t.account.entries ∙ ap (λ n. below n t.account.entries) late ∙ same ∙ total ∙ entries_count v p x xs hv

pub all_have_left : {R : Type 0} (v p : ℕ) (xs : List R) → 0 < v → 2 ≤ p → left v (free_turns v p (cycles_of v p (length xs)) (fresh xs)).account ≡ length xs
all_have_left v p xs hv hp = left_count v p (cycles_of v p (length xs)) xs hv ∙ elim (cases_lt 0 (length xs)) [
  | inl some ↦ (let w = cycles_enough v p (length xs) hv hp some in let e = w.enough in omega arith)
  | inr none ↦ omega arith
]

pub not_all_before : {R : Type 0} (v p k : ℕ) (xs : List R) → 0 < v → 2 ≤ p → k < cycles_of v p (length xs) → left v (free_turns v p k (fresh xs)).account < length xs
not_all_before v p k [] hv hp h = absurd (omega arith)
not_all_before v p k (y ∷ ys) hv hp h =
    let n = length (y ∷ ys) in
    let w = cycles_enough v p n hv hp (omega arith) in
    let l = left_count v p k (y ∷ ys) hv in
    let g = turns_grow v p 0 (k - (v - 1)) (cycles_of v p n - v) (omega arith) in
    let b = w.before in
    omega arith

pub time_is : {R : Type 0} (v p k : ℕ) (xs : List R) → 0 < v → (free_turns v p k (fresh xs)).account.time ≡ k
time_is v p k xs hv = (turned_times v p k (fresh xs) hv (lawful_start v p)).time ∙ (let z : 0 + k ≡ k = omega arith in z)
