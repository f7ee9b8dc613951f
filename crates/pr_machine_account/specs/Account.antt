-- The account of a history: counts and cycle numbers only, for v stages on p stripes and queues of 16.
use Rattle.std.specs.Prelude.{◌≡◌, ℕ, ◌+◌, ◌-◌, ◌≤◌, Bool, true, false, ◌&&◌, nat_lt, nat_eq, List, [], ◌∷◌, ◌++◌, length, count_by, if◌then◌else◌}
use Rattle.std.specs.List.{list_any}
use Rattle.pr_control.specs.Time.{turn}

-- what is asked of a running machine
pub data Event (R : Type 0) : Type 0 where
  Offer : (piece : R) → Event R
  Take : Event R
  Cycle : Event R

-- the cycles that advanced, the pieces that were accepted, the cycles in which samples entered, and the results taken
pub record Account (R : Type 0) : Type 0 where
  pub time : ℕ
  pub offered : List R
  pub entries : List ℕ
  pub taken : ℕ

-- how many entries came before cycle x
unfoldable pub below : ℕ → List ℕ → ℕ
below x es = count_by (λ e. nat_lt e x) es

-- whether a sample entered in cycle x
unfoldable pub enters : ℕ → List ℕ → Bool
enters x es = list_any (λ e. nat_eq e x) es

-- how many samples stage s has done by cycle t: those that entered s cycles before it, or more
unfoldable pub done : ℕ → ℕ → List ℕ → ℕ
done s t es = count_by (λ e. nat_lt (e + s) t) es

-- how many results have left the last stage
abbrev pub left : {R : Type 0} → ℕ → Account R → ℕ
left v a = done (v - 1) a.time a.entries

abbrev pub start : {R : Type 0} → Account R
start = record { time = 0; offered = []; entries = []; taken = 0 }

-- the entries with the cycle's own: a sample enters where stage 0 computes and one waits
abbrev pub entered : {R : Type 0} → ℕ → ℕ → Account R → List ℕ
entered v p a = if turn v p a.time && nat_lt (length a.entries) (length a.offered) then a.entries ++ a.time ∷ [] else a.entries

-- the last stage would compute a valid row, and 16 results wait; no sample ever enters in cycle 0, so that a sample of
-- cycle `time + 1 - v` is one that entered v - 1 cycles ago, also where v is above `time + 1`
abbrev pub stalled : {R : Type 0} → ℕ → ℕ → Account R → Bool
stalled v p a = enters (a.time + 1 - v) (entered v p a) && nat_eq (left v a - a.taken) 16

-- the account after one more event
abbrev pub after : {R : Type 0} → ℕ → ℕ → Account R → Event R → Account R
after v p a (Offer piece) = if nat_lt (length a.offered - length a.entries) 16 then record a { offered = a.offered ++ piece ∷ [] } else a
after v p a Take = if nat_lt a.taken (left v a) then record a { taken = a.taken + 1 } else a
after v p a Cycle = if stalled v p a then a else record a { entries = entered v p a; time = a.time + 1 }

abbrev pub account_from : {R : Type 0} → ℕ → ℕ → Account R → List (Event R) → Account R
account_from v p a [] = a
account_from v p a (e ∷ es) = account_from v p (after v p a e) es

-- the account of a history
unfoldable pub account : {R : Type 0} → ℕ → ℕ → List (Event R) → Account R
account v p h = account_from v p start h

-- a list of the cycles before t in which samples entered
pub record IsEntries (v p t : ℕ) (es : List ℕ) : Type 0 where
  -- all are before t
  pub total : below t es ≡ length es
  -- stage 0 computes in each of them
  pub turns : (x : ℕ) → enters x es ≡ true → turn v p x ≡ true
  -- none stands twice
  pub once : (x : ℕ) → below (x + 1) es ≡ below x es + (if enters x es then 1 else 0)
  -- none is still to come
  pub past : (x : ℕ) → t ≤ x → enters x es ≡ false

-- what holds of every account
pub record IsLawful {R : Type 0} (v p : ℕ) (a : Account R) : Type 0 where
  pub entries : IsEntries v p a.time a.entries
  pub few : length a.entries ≤ length a.offered
  pub waiting : length a.offered ≤ length a.entries + 16
  pub taken : a.taken ≤ left v a
  pub kept : left v a ≤ a.taken + 16
