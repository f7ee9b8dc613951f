-- The definitions at work: stages that add each row to their state and show the sum.
use Rattle.std.proofs.Common.{◌≡◌, ℕ, ◌+◌, [], ◌∷◌, refl}
use Rattle.pr_conf_pipeline.specs.Rows.{Step, rows, state_after, through, resumed}

abbrev running_sum : ℕ → Step ℕ ℕ
running_sum s = record { init = 0; next = λ st x. st + x; out = λ st x. st + x }

one_stage : rows running_sum 1 (1 ∷ 2 ∷ 3 ∷ []) ≡ 1 ∷ 3 ∷ 6 ∷ []
unfolding rows
one_stage = refl

two_stages : rows running_sum 2 (1 ∷ 2 ∷ 3 ∷ []) ≡ 1 ∷ 4 ∷ 10 ∷ []
unfolding rows
two_stages = refl

state_of_the_second : state_after running_sum 1 2 (1 ∷ 2 ∷ 3 ∷ []) ≡ 4
unfolding rows state_after
state_of_the_second = refl

results : through running_sum 2 (λ x. x + 100) (1 ∷ 2 ∷ 3 ∷ []) ≡ 101 ∷ 104 ∷ 110 ∷ []
unfolding rows
results = refl

going_on : rows (resumed running_sum (1 ∷ 2 ∷ [])) 2 (3 ∷ []) ≡ 10 ∷ []
unfolding rows state_after
going_on = refl
