-- The numbers of a history.
use Rattle.std.specs.Prelude.{◌≡◌, ◌≤◌, ℕ, ◌-◌, ◌++◌, Bool, true, false, List, length, count_by}
use Rattle.pr_machine_account.specs.Account.{Event, Offer, Take, Cycle, account}
use Rattle.pr_run_script.specs.Script.{Held, most_cycles, whole_run, script}

abbrev pub is_cycle : {R : Type 0} → Event R → Bool
is_cycle (Offer piece) = false
is_cycle Take = false
is_cycle Cycle = true

abbrev pub is_take : {R : Type 0} → Event R → Bool
is_take (Offer piece) = false
is_take Take = true
is_take Cycle = false

-- the cycles that were asked for, the stalled ones among them
unfoldable pub cycles_in : {R : Type 0} → List (Event R) → ℕ
cycles_in h = count_by is_cycle h

-- the cycles that were stalled
abbrev pub stalls_in : {R : Type 0} → ℕ → ℕ → List (Event R) → ℕ
stalls_in v p h = cycles_in h - (account v p h).time

-- a whole run: it is over, all samples were offered, all have left and all results were taken, within so many cycles
pub record IsWhole {R : Type 0} (v p : ℕ) (xs : List R) (stall : List Held) : Type 0 where
  pub over : (whole_run v p xs stall).over ≡ true
  pub offered : (account v p (script v p xs stall)).offered ≡ xs
  pub taken : (account v p (script v p xs stall)).taken ≡ length xs
  pub cycles : cycles_in (script v p xs stall) ≤ most_cycles v p stall (length xs)
  pub advanced : (account v p (script v p xs stall)).time ≤ cycles_in (script v p xs stall)

-- a list goes on from another
pub record IsPrefix {X : Type 0} (front all : List X) : Type 0 where
  pub more : List X
  pub is : all ≡ front ++ more
