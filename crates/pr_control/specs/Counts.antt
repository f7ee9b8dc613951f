-- How many cycles a run takes, for v stages on p stripes.
use Rattle.std.specs.Prelude.{ℕ, zero, suc, ◌+◌, ◌-◌, ◌*◌, ◌/◌, ◌%◌, nat_le, if◌then◌else◌}
use Rattle.pr_control.specs.Time.{turn}

-- in how many of the k cycles from t on stage 0 computes
unfoldable pub turns_in : ℕ → ℕ → ℕ → ℕ → ℕ
turns_in v p t zero = 0
turns_in v p t (suc k) = turns_in v p t k + (if turn v p (t + k) then 1 else 0)

-- after how many cycles the last of n results has left, where samples are always ready and results always taken
abbrev pub cycles_of : ℕ → ℕ → ℕ → ℕ
cycles_of v p zero = 0
cycles_of v p (suc m) = if nat_le v p then suc m + v else v * (m / (p - 1) + 1) + m % (p - 1) + 1
