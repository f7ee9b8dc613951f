-- Free turns: neither side is held.
use Rattle.std.specs.Prelude.{◌≡◌, ℕ, zero, suc, ◌+◌, ◌-◌, nat_lt, List, [], ◌∷◌, ◌++◌, length, replicate, if◌then◌else◌}
use Rattle.pr_machine_account.specs.Account.{Account, Event, Offer, Take, Cycle, left, after, account_from}

-- an account, and the samples that are not yet offered
pub record Feeding (R : Type 0) : Type 0 where
  pub account : Account R
  pub rest : List R

-- the next sample is offered where there is one and the input queue has room
abbrev pub offer_next : {R : Type 0} → Account R → List R → List (Event R)
offer_next a [] = []
offer_next a (x ∷ rest) = if nat_lt (length a.offered - length a.entries) 16 then Offer x ∷ [] else []

-- what is then left
abbrev pub rest_after : {R : Type 0} → Account R → List R → List R
rest_after a [] = []
rest_after a (x ∷ rest) = if nat_lt (length a.offered - length a.entries) 16 then rest else x ∷ rest

-- all waiting results are taken, and then comes one cycle
abbrev pub take_all_and_cycle : {R : Type 0} → ℕ → Account R → List (Event R)
take_all_and_cycle v a = replicate (left v a - a.taken) Take ++ Cycle ∷ []

-- the events of a free turn
abbrev pub turn_events : {R : Type 0} → ℕ → ℕ → Feeding R → List (Event R)
turn_events v p s = offer_next s.account s.rest ++ take_all_and_cycle v (account_from v p s.account (offer_next s.account s.rest))

abbrev pub free_turn : {R : Type 0} → ℕ → ℕ → Feeding R → Feeding R
free_turn v p s = record { account = account_from v p s.account (turn_events v p s); rest = rest_after s.account s.rest }

abbrev pub free_turns : {R : Type 0} → ℕ → ℕ → ℕ → Feeding R → Feeding R
free_turns v p zero s = s
free_turns v p (suc k) s = free_turns v p k (free_turn v p s)

-- the events of k free turns
abbrev pub turns_events : {R : Type 0} → ℕ → ℕ → ℕ → Feeding R → List (Event R)
turns_events v p zero s = []
turns_events v p (suc k) s = turn_events v p s ++ turns_events v p k (free_turn v p s)

-- the samples that have not yet entered
abbrev pub remaining : {R : Type 0} → Feeding R → ℕ
remaining s = length s.rest + (length s.account.offered - length s.account.entries)

-- t comes from s: every sample was offered, every result has left, and one further take leaves none
pub record IsDrained {R : Type 0} (v p : ℕ) (s t : Feeding R) : Type 0 where
  pub none : t.rest ≡ []
  pub all : t.account.offered ≡ s.account.offered ++ s.rest
  pub gone : left v t.account ≡ length (s.account.offered ++ s.rest)
  pub taken : (after v p t.account Take).taken ≡ length (s.account.offered ++ s.rest)
