use Rattle.std.proofs.Common.{◌≡◌, ◌+◌, ◌*◌, ◌/◌, ◌%◌, ◌<◌, ◌==◌, ℕ, false, List, length, get_or, take, if◌then◌else◌}
use Rattle.pr_base.specs.Pe.{PeResult}
use Rattle.pr_conf.specs.declared.pes.Pe.{Pe}
use Rattle.pr_conf.specs.StageMap.{registers_to}
use Rattle.pr_stripe_columns.specs.Elements.{outputs_of}
use Rattle.pr_stripe_prepared.proofs.steps.pass.Given as goal

abbrev pub invariant-loop-k : goal.invariant-loop-k
invariant-loop-k l = (pes : List Pe) (made : List PeResult) → length pes ≡ 16
    → ((j : ℕ) (d : Pe) → j < length l.marks → get_or l.marks j 0 ≡ (if (get_or pes (j % 16) d).write == j / 16 + 1 then 255 else 0))
    → l.output ≡ outputs_of made → take (l.k * 16) l.registers ≡ registers_to l.k 16 false pes made l.before
