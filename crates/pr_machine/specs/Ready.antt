-- Stages as whole rows, beside the stages that they are made of.
use Rattle.std.specs.Prelude.{ℕ, List, [], Option, None, slice_index_or}
use Rattle.std.specs.Option.{ForSome}
use Rattle.pr_conf.specs.declared.pes.Pe.{Pe}
use Rattle.pr_stripe_prepared.specs.declared.stages.Prepared.{Prepared}
use Rattle.pr_stripe_prepared.specs.Prepared.{IsPrepared}

-- the rows stand for these elements, where there are some
abbrev pub IsReady : ℕ → List Pe → Option Prepared → Type 0
IsReady registers pes prepared = ForSome prepared (λ q. IsPrepared q pes registers)

-- the rows of each stage stand for its elements
abbrev pub AreReady : ℕ → List (List Pe) → List (Option Prepared) → Type 0
AreReady registers stages prepared = (s : ℕ) → IsReady registers (slice_index_or stages s []) (slice_index_or prepared s None)
