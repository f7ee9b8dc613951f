-- Machines in which nothing is under way.
use Rattle.std.specs.Prelude.{◌≡◌, ℕ, length}
use Rattle.pr_machine.specs.Stands.{waiting_samples, waiting_results}
use Rattle.pr_run.specs.Turns.{Going}

-- every sample that entered has left, and nothing waits on either side
pub record IsStill {N P : ℕ} (m : Going N P) : Type 0 where
  pub left : m.parts.entered ≡ m.parts.left
  pub input : length (waiting_samples m) ≡ 0
  pub output : length (waiting_results m) ≡ 0
