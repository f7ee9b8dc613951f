-- The definitions at work.
use Rattle.std.proofs.Common.{◌≡◌, ℕ, zero, suc, ◌+◌, List, [], ◌∷◌, ◌++◌, length, replicate, refl}
use Rattle.pr_conf_pipeline.specs.Rows.{Step, rows}
use Rattle.pr_control.specs.Time.{turn}
use Rattle.pr_machine_account.specs.Account.{Event, Offer, Take, Cycle, account, start, left, enters, done}
use Rattle.pr_machine_account.specs.Drain.{free_turns}
use Rattle.pr_machine_account.specs.Replies.{Accepted, OutEmpty, Given, Advanced, replies_from}
use Rattle.pr_machine_account.proofs.CountLaws.{fresh}

-- five stages on two stripes: stage 0 computes in cycles 1, 6 and 11, and results leave in cycles 5, 10 and 15
three_samples : (free_turns {R = ℕ} 5 2 16 (fresh {R = ℕ} (7 ∷ 8 ∷ 9 ∷ []))).account ≡ record { time = 16; offered = 7 ∷ 8 ∷ 9 ∷ []; entries = 1 ∷ 6 ∷ 11 ∷ []; taken = 2 }
unfolding turn enters done
three_samples = refl

last_result_left : left {R = ℕ} 5 (free_turns {R = ℕ} 5 2 16 (fresh {R = ℕ} (7 ∷ 8 ∷ 9 ∷ []))).account ≡ 3
unfolding turn enters done
last_result_left = refl

not_a_cycle_before : left {R = ℕ} 5 (free_turns {R = ℕ} 5 2 15 (fresh {R = ℕ} (7 ∷ 8 ∷ 9 ∷ []))).account ≡ 2
unfolding turn enters done
not_a_cycle_before = refl

-- two stages whose results nobody takes: 16 have left by cycle 18, which then is stalled for good
abbrev turns_without_take : ℕ → List (Event ℕ)
turns_without_take zero = []
turns_without_take (suc k) = Offer 0 ∷ Cycle ∷ turns_without_take k

held_at_18 : (account 2 16 (turns_without_take 18)).time ≡ 18
unfolding account turn enters done
held_at_18 = refl

still_held : account 2 16 (turns_without_take 18 ++ Cycle ∷ Cycle ∷ []) ≡ account 2 16 (turns_without_take 18)
unfolding account turn enters done
still_held = refl

sixteen_left : left 2 (account 2 16 (turns_without_take 18)) ≡ 16
unfolding account turn enters done
sixteen_left = refl

-- one stage that adds 1
abbrev one_more : ℕ → Step ℕ ℕ
one_more s = record { init = 0; next = λ st x. st; out = λ st x. x + 1 }

answers : replies_from one_more 1 2 (λ x. x) start (Take ∷ Offer 5 ∷ Cycle ∷ Cycle ∷ Take ∷ Take ∷ []) ≡ OutEmpty ∷ Accepted ∷ Advanced ∷ Advanced ∷ Given 6 ∷ OutEmpty ∷ []
unfolding rows turn enters done
answers = refl

-- a queue of 16 refuses the next sample
seventeenth : length (account {R = ℕ} 3 2 (replicate 17 (Offer 0))).offered ≡ 16
unfolding account
seventeenth = refl
