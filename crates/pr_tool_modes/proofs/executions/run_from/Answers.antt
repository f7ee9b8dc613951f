use Rattle.std.proofs.Common.{refl, inl, inr}
use Rattle.pr_tool_modes.proofs.executions.run_from.Goals as goal

-- no run was begun
pub returns-in-Err-clause-ended : goal.returns-in-Err-clause-ended
returns-in-Err-clause-ended g c = λ source count. inl (record {
  cause = c.in-Err.ensures.refused;
  unwritten = c.in-Err.ensures.unwritten;
  kept = refl;
  unread = c.in-Err.ensures.unread;
  shown = c.in-Err.ensures.shown;
})

pub returns-in-Ok-clause-ended : goal.returns-in-Ok-clause-ended
returns-in-Ok-clause-ended g c = λ source count. inr (c.in-Ok.ensures.ran source count)
