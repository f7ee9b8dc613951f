-- The tables before anything is placed.
use Rattle.std.specs.Prelude.{ℕ, ◌*◌, true, false, List, length, replicate}
use Rattle.pr_place.specs.Registers.{Registers, Progress}

-- no register is held, and each cell is read so often
abbrev pub none_held : ℕ → ℕ → List ℕ → Registers
none_held N P uses = record { uses = uses; held = replicate (N * P) false; room = replicate N true }

-- no cell stands anywhere
abbrev pub nothing_put : ℕ → ℕ → List ℕ → Progress
nothing_put N P uses = record { table = none_held N P uses; taken = replicate N false; spots = replicate (length uses) (0, 0) }
