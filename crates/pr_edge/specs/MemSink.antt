-- What a sink in memory holds, and which call of it fails.
use Rattle.std.specs.Prelude.{ℕ, ◌+◌, ◌==◌, Bool, List, Some, length, nat_lt, ◌||◌, ◌&&◌, not, if◌then◌else◌}
use Rattle.std.specs.List.{list_any}
use Rattle.pr_edge.specs.Count.{next_count}
use Rattle.pr_edge.specs.Tape.{Tape, Written}
use Rattle.pr_edge.specs.declared.mem_sink.MemSink.{MemSink}

-- the bytes that it keeps, which are all that were written
abbrev pub bytes_of : MemSink → List ℕ
bytes_of s = s.kept.items

-- the number of bytes for which it has room
abbrev pub room_of : MemSink → ℕ
room_of s = s.room

-- the numbers of the calls that fail
abbrev pub failing_of : MemSink → List ℕ
failing_of s = s.failing.items

-- the number of calls so far
abbrev pub calls_of : MemSink → ℕ
calls_of s = s.calls

abbrev pub faults_of : MemSink → ℕ
faults_of s = s.faults

-- it always tells its bytes
abbrev pub told_of : MemSink → Tape
told_of s = record { bytes = Some s.kept.items; keeps = s.room }

-- the next call fails at this piece: by its number, or for want of room; a piece without bytes never fails
abbrev pub refuses_next : MemSink → List ℕ → Bool
refuses_next s piece =
    not (length piece == 0) && (list_any (λ n. n == next_count s.calls) s.failing.items || nat_lt s.room (length s.kept.items + length piece))

-- the count of faults after the next call
abbrev pub faults_after : MemSink → List ℕ → ℕ
faults_after s piece = if refuses_next s piece then next_count s.faults else s.faults

abbrev pub view_of : MemSink → Written
view_of s = record { told = told_of s; faults = faults_of s }
