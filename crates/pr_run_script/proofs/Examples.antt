-- The definitions at work.
use Rattle.std.proofs.Common.{◌≡◌, ℕ, true, false, List, [], ◌∷◌, replicate, Some, None, refl}
use Rattle.pr_control.specs.Time.{turn, event, occupant}
use Rattle.pr_machine_account.specs.Account.{Offer, Take, Cycle, account, enters, done}
use Rattle.pr_run_script.specs.Script.{Held, turns, script}
use Rattle.pr_run_script.specs.Counts.{cycles_in, stalls_in}
use Rattle.pr_run_script.specs.Text.{found_stage}

-- no sample: the first turn finds the end, and no cycle passes
no_samples : script {R = ℕ} 2 16 [] [] ≡ []
unfolding turns account turn enters done
no_samples = refl

-- but where the input side is held in the first turn, the end is found in the second
held_at_first : script {R = ℕ} 2 16 [] (record { input = true; output = false } ∷ []) ≡ Cycle ∷ []
unfolding turns account turn enters done
held_at_first = refl

-- one sample in two stages: it enters in cycle 1 and leaves in cycle 2
one_sample : script {R = ℕ} 2 16 (7 ∷ []) [] ≡ Offer 7 ∷ Cycle ∷ Cycle ∷ Cycle ∷ Take ∷ []
unfolding turns account turn enters done
one_sample = refl

-- three samples through five stages on two stripes take 16 cycles
five_stages : cycles_in (script {R = ℕ} 5 2 (1 ∷ 2 ∷ 3 ∷ []) []) ≡ 16
unfolding turns account turn enters done cycles_in
five_stages = refl

-- thirty samples through two stages, with the output side held in the first 40 turns: 32 cycles advance and 22 are stalled
held_output : List Held
held_output = replicate 40 (record { input = false; output = true })

held_advances : (account 2 16 (script {R = ℕ} 2 16 (replicate 30 0) held_output)).time ≡ 32
unfolding turns account turn enters done held_output
held_advances = refl

held_stalls : stalls_in 2 16 (script {R = ℕ} 2 16 (replicate 30 0) held_output) ≡ 22
unfolding turns account turn enters done held_output cycles_in
held_stalls = refl

-- five stages on three stripes: the event of cycle 3 brings stage 3 into stripe 0, where it finds stage 0
brings_three : event 5 3 3 ≡ Some (3, 0)
brings_three = refl

finds_none : found_stage 5 3 2 ≡ None
unfolding occupant
finds_none = refl

finds_zero : found_stage 5 3 3 ≡ Some 0
unfolding occupant
finds_zero = refl
