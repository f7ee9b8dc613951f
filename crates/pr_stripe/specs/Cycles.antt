-- What one cycle makes of a stripe in which a stage computes.
use Rattle.std.specs.Prelude.{ℕ, ◌==◌, List, Option}
use Rattle.pr_conf.specs.declared.pes.Pe.{Pe}
use Rattle.pr_conf.specs.StageMap.{step_of}
use Rattle.pr_machine_account.specs.Flow.{input_of, row_with, state_with}

-- the state after a cycle, by the stage's number and elements, its state, what is on the bus and what the stripe before shows
abbrev pub cycled_state : ℕ → ℕ → ℕ → List Pe → List ℕ → Option (List ℕ) → Option (List ℕ) → List ℕ
cycled_state N P stage pes state bus prev = state_with (step_of N P (stage == 0) pes) state (input_of stage bus prev)

-- the row that is shown after a cycle
abbrev pub cycled_row : ℕ → ℕ → ℕ → List Pe → List ℕ → Option (List ℕ) → Option (List ℕ) → Option (List ℕ)
cycled_row N P stage pes state bus prev = row_with (step_of N P (stage == 0) pes) state (input_of stage bus prev)
