-- The turns of a run: which samples are offered, which results are taken and which cycles are asked for, said by the
-- account alone, for v stages on p stripes.
use Rattle.std.specs.Prelude.{ℕ, zero, suc, ◌+◌, ◌-◌, ◌==◌, ◌&&◌, not, nat_lt, Bool, true, false, List, [], ◌∷◌, ◌++◌, length, replicate, slice_index_or, if◌then◌else◌}
use Rattle.pr_control.specs.Drain.{drain}
use Rattle.pr_machine_account.specs.Account.{Event, Offer, Take, Cycle, Account, account, left}

-- the sides that are held in a turn; a side that is not held is free
pub record Held : Type 0 where
  pub input : Bool
  pub output : Bool

abbrev pub free : Held
free = record { input = false; output = false }

-- turn k of a stall text: after its end every turn is free
abbrev pub held_at : List Held → ℕ → Held
held_at stall k = slice_index_or stall k free

-- a run between two steps: what the machine was asked, the samples that were not read, whether they were found to have
-- ended, and whether the run is over
pub record Run (R : Type 0) : Type 0 where
  pub history : List (Event R)
  pub rest : List R
  pub ended : Bool
  pub over : Bool

-- a run on these samples before its first turn
abbrev pub begun : {R : Type 0} → List R → Run R
begun xs = record { history = []; rest = xs; ended = false; over = false }

-- the account of what the machine was asked
abbrev pub account_at : {R : Type 0} → ℕ → ℕ → Run R → Account R
account_at v p r = account v p r.history

-- the results that left and were not taken
abbrev pub waiting : {R : Type 0} → ℕ → Account R → ℕ
waiting v a = left v a - a.taken

-- the feed step reads: the input side is free, the samples have not ended, and the input queue has room
abbrev pub reads : {R : Type 0} → ℕ → ℕ → Held → Run R → Bool
reads v p held r = not held.input && not r.ended && nat_lt (length (account_at v p r).offered - length (account_at v p r).entries) 16

-- the next sample is offered, or the samples are found to have ended
abbrev pub read_next : {R : Type 0} → Run R → List R → Run R
read_next r [] = record r { ended = true }
read_next r (x ∷ rest) = record r { history = r.history ++ Offer x ∷ []; rest = rest }

-- step 1, the feed
abbrev pub fed : {R : Type 0} → ℕ → ℕ → Held → Run R → Run R
fed v p held r = if reads v p held r then read_next r r.rest else r

-- step 2, the writing: where the output side is free, all waiting results are taken
abbrev pub emptied : {R : Type 0} → ℕ → ℕ → Held → Run R → Run R
emptied v p held r = if held.output then r else record r { history = r.history ++ replicate (waiting v (account_at v p r)) Take }

-- the samples have ended, every offered sample has left, and no result waits
abbrev pub is_finished : {R : Type 0} → ℕ → ℕ → Run R → Bool
is_finished v p r = r.ended && (left v (account_at v p r) == length (account_at v p r).offered) && (waiting v (account_at v p r) == 0)

-- steps 3 and 4: the run is over, or the machine is asked for one cycle
abbrev pub closed : {R : Type 0} → ℕ → ℕ → Run R → Run R
closed v p r = if is_finished v p r then record r { over = true } else record r { history = r.history ++ Cycle ∷ [] }

-- one turn; after its end a run stays as it is
abbrev pub turned : {R : Type 0} → ℕ → ℕ → Held → Run R → Run R
turned v p held r = if r.over then r else closed v p (emptied v p held (fed v p held r))

-- the first k turns under a stall text
unfoldable pub turns : {R : Type 0} → ℕ → ℕ → List Held → ℕ → Run R → Run R
turns v p stall zero r = r
turns v p stall (suc k) r = turned v p (held_at stall k) (turns v p stall k r)

-- so many cycles are enough for m samples: one for each turn of the stall text, and those that drain m samples
abbrev pub most_cycles : ℕ → ℕ → List Held → ℕ → ℕ
most_cycles v p stall m = length stall + drain v p m

-- the whole run on these samples: the turns of all these cycles, and the one that finds it over
abbrev pub whole_run : {R : Type 0} → ℕ → ℕ → List R → List Held → Run R
whole_run v p xs stall = turns v p stall (most_cycles v p stall (length xs) + 1) (begun xs)

-- the events of a run on these samples
abbrev pub script : {R : Type 0} → ℕ → ℕ → List R → List Held → List (Event R)
script v p xs stall = (whole_run v p xs stall).history
