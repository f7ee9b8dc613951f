-- What each event of a history is answered, by the account alone.
use Rattle.std.specs.Prelude.{ℕ, nat_lt, List, [], ◌∷◌, ◌++◌, length, ◌-◌, slice_get, Option, Some, None, if◌then◌else◌}
use Rattle.pr_conf_pipeline.specs.Rows.{Step, through}
use Rattle.pr_machine_account.specs.Account.{Account, Event, Offer, Take, Cycle, left, stalled, after}

pub data Reply (B : Type 0) : Type 0 where
  Accepted : Reply B
  InFull : Reply B
  Given : (result : B) → Reply B
  OutEmpty : Reply B
  Advanced : Reply B
  Stalled : Reply B

-- the result that a Take is given: of all results over the pieces, the one whose number is the count of those taken
abbrev pub taken_now : {S R B : Type 0} → (ℕ → Step S R) → ℕ → (R → B) → Account R → Option B
taken_now M v tap a = if nat_lt a.taken (left v a) then slice_get (through M v tap a.offered) a.taken else None

abbrev pub given : {B : Type 0} → Option B → Reply B
given None = OutEmpty
given (Some result) = Given result

abbrev pub reply : {S R B : Type 0} → (ℕ → Step S R) → ℕ → ℕ → (R → B) → Account R → Event R → Reply B
reply M v p tap a (Offer piece) = if nat_lt (length a.offered - length a.entries) 16 then Accepted else InFull
reply M v p tap a Take = given (taken_now M v tap a)
reply M v p tap a Cycle = if stalled v p a then Stalled else Advanced

-- the replies to events, in order
abbrev pub replies_from : {S R B : Type 0} → (ℕ → Step S R) → ℕ → ℕ → (R → B) → Account R → List (Event R) → List (Reply B)
replies_from M v p tap a [] = []
replies_from M v p tap a (e ∷ es) = reply M v p tap a e ∷ replies_from M v p tap (after v p a e) es

-- the results among replies
abbrev pub result_in : {B : Type 0} → Reply B → List B
result_in Accepted = []
result_in InFull = []
result_in (Given result) = result ∷ []
result_in OutEmpty = []
result_in Advanced = []
result_in Stalled = []

abbrev pub results_in : {B : Type 0} → List (Reply B) → List B
results_in [] = []
results_in (r ∷ rs) = result_in r ++ results_in rs
