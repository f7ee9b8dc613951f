use Rattle.piperench.proofs.NoteLemmas.{empty_sink}
use Rattle.piperench.proofs.calls.call.Goals as goal

pub ask-told-requires : goal.ask-told-requires
ask-told-requires g c = empty_sink c.in_ok-note.note c.in_ok-note.ensures.bytes c.in_ok-note.ensures.room c.in_ok-note.ensures.dropped
