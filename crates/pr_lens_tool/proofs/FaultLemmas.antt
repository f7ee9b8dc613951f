-- Faults of the shelf that an outcome shows.
use Rattle.std.proofs.Common.{◌≡◌, ◌∙◌, ℕ, ap, inl, inr}
use Rattle.pr_tool_answers.specs.declared.answers.Answer.{Answer}
use Rattle.pr_tool_modes.specs.Files.{ShowsFault}
use Rattle.pr_lens_tool.specs.declared.outcomes.Outcome.{Outcome}
use Rattle.pr_lens_tool.specs.declared.outcomes.Outcome.TheVariants.{Plain, Streamed}
use Rattle.pr_lens_tool.specs.Outcomes.{Shows}

pub kept_shown : (before now : ℕ) (outcome : Outcome) → now ≡ before → Shows before now outcome
kept_shown before now outcome same = inr (inr same)

pub plain_shown : (before now : ℕ) (answer : Answer) → ShowsFault before now answer → Shows before now (Plain answer)
plain_shown before now answer (inl fault) = inl (ap (λ (a : Answer). Plain a) fault)
plain_shown before now answer (inr same) = inr (inr same)

-- a later read failed, and an earlier one did not
pub streamed_shown : (before middle now : ℕ) (answer : Answer) → middle ≡ before → ShowsFault middle now answer → Shows before now (Streamed answer)
streamed_shown before middle now answer steady (inl fault) = inr (inl (ap (λ (a : Answer). Streamed a) fault))
streamed_shown before middle now answer steady (inr same) = inr (inr (same ∙ steady))

pub shown_behind : (before middle now : ℕ) (outcome : Outcome) → middle ≡ before → Shows middle now outcome → Shows before now outcome
shown_behind before middle now outcome steady (inl plain) = inl plain
shown_behind before middle now outcome steady (inr (inl streamed)) = inr (inl streamed)
shown_behind before middle now outcome steady (inr (inr same)) = inr (inr (same ∙ steady))
