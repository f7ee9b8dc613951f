-- What a call owes: its verdict, but for faults that were counted and want of memory.
use Rattle.std.specs.Prelude.{◌≡◌, ◌⊎◌, ℕ}
use Rattle.pr_edge.specs.Count.{Rose}
use Rattle.pr_tool_answers.specs.declared.answers.Answer.{Answer}

-- it is as a verdict is, or a fault that was counted, or want of memory; by the counts of the shelf and of the sink, before
-- and after
abbrev pub IsOwed : (Answer → Type 0) → ℕ → ℕ → ℕ → ℕ → Answer → Type 0
IsOwed IsVerdict shelf_before shelf_now sink_before sink_now a =
    IsVerdict a
    ⊎ (((a ≡ Answer.ReadFault) × Rose shelf_before shelf_now)
    ⊎ (((a ≡ Answer.WriteFault) × Rose sink_before sink_now)
    ⊎ (a ≡ Answer.Memory)))
