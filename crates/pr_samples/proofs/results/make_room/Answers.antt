use Rattle.pr_samples.proofs.ResultLemmas.{put_written, put_front}
use Rattle.pr_samples.proofs.results.make_room.Goals as goal

pub returns-in-Err-clause-front : goal.returns-in-Err-clause-front
returns-in-Err-clause-front g c = λ old rest line h. put_front old _ _ _ rest line h (rw (c.as_bytes.ensures.value, c.as_str.ensures.value) at c.in-Err.ensures.front)

pub returns-in-Ok-clause-put : goal.returns-in-Ok-clause-put
returns-in-Ok-clause-put g c = λ old rest line h. rw c.clear.ensures (put_written old _ _ _ rest line h (rw (c.as_bytes.ensures.value, c.as_str.ensures.value) at c.in-Ok.ensures.all))
