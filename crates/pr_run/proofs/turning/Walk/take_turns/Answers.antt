use Rattle.pr_run.proofs.turning.Walk.take_turns.Goals as goal

pub returns-then-self-clause-ended : goal.returns-then-self-clause-ended
returns-then-self-clause-ended g c = λ s is. c.turn_until_over.ensures.ended s (rw c.if-self.true at is)

pub returns-else-self-clause-ended : goal.returns-else-self-clause-ended
returns-else-self-clause-ended g c = λ s is. c.turn_until_over-else-self.ensures.ended s (rw c.if-self.false at is)

pub returns-then-self-clause-turned : goal.returns-then-self-clause-turned
returns-then-self-clause-turned g c = c.turn_until_over.ensures.turned

pub returns-else-self-clause-turned : goal.returns-else-self-clause-turned
returns-else-self-clause-turned g c = c.turn_until_over-else-self.ensures.turned
