-- What a cycle reads, beside the configuration.
use Rattle.std.specs.Prelude.{ℕ, ◌≡◌, ◌-◌, vec_len}
use Rattle.pr_conf.specs.declared.configurations.Configuration.{Configuration}
use Rattle.pr_conf.specs.Configuration.{shape_of}
use Rattle.pr_conf.specs.Rules.{bytes_in}
use Rattle.pr_machine.specs.declared.buffers.Buffers.{Buffers}
use Rattle.pr_machine.specs.Ready.{AreReady}

-- the buffers fit a configuration: the sample has its bytes, and beside each of its stages stand that stage's rows
pub record Fits {N P : ℕ} (conf : Configuration N P) (buffers : Buffers N) : Type 0 where
  pub sample : vec_len buffers.sample ≡ bytes_in (shape_of conf).inputs
  pub ready : AreReady (P - 1) (shape_of conf).stages buffers.prepared.items
  pub count : vec_len buffers.prepared ≡ vec_len conf.stages
