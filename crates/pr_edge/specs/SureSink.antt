-- What a sink in memory that never fails holds.
use Rattle.std.specs.Prelude.{ℕ, Bool, List, Some, None, if◌then◌else◌}
use Rattle.pr_edge.specs.Tape.{Tape, Written}
use Rattle.pr_edge.specs.declared.sure_sink.SureSink.{SureSink}

-- the bytes that it keeps
abbrev pub bytes_of : SureSink → List ℕ
bytes_of s = s.kept.items

-- the number of bytes for which it has room
abbrev pub room_of : SureSink → ℕ
room_of s = s.room

-- bytes were dropped for want of room
abbrev pub has_dropped : SureSink → Bool
has_dropped s = s.dropped

-- it tells its bytes until it drops some
abbrev pub told_of : SureSink → Tape
told_of s = record { bytes = if s.dropped then None else Some s.kept.items; keeps = s.room }

-- it never fails
abbrev pub faults_of : SureSink → ℕ
faults_of s = 0

abbrev pub view_of : SureSink → Written
view_of s = record { told = told_of s; faults = faults_of s }
