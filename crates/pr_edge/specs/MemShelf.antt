-- What a shelf in memory holds, and what a call of it answers.
use Rattle.std.specs.Prelude.{ℕ, ◌==◌, Bool, List, Option, Some, None, length, drop, min, is_none, option_map, if◌then◌else◌}
use Rattle.std.specs.List.{list_any}
use Rattle.pr_edge.specs.Count.{next_count}
use Rattle.pr_edge.specs.Files.{Told, View}
use Rattle.pr_edge.specs.Named.{Named, file_in, reach_in}
use Rattle.pr_edge.specs.declared.mem_shelf.MemShelf.{MemShelf}

abbrev pub files_of : MemShelf → List Named
files_of s = s.files.items

-- the numbers of the calls that fail
abbrev pub failing_of : MemShelf → List ℕ
failing_of s = s.failing.items

-- the number of calls so far
abbrev pub calls_of : MemShelf → ℕ
calls_of s = s.calls

abbrev pub faults_of : MemShelf → ℕ
faults_of s = s.faults

-- it tells all its files, and how far each was read in order
abbrev pub told_of : MemShelf → Told
told_of s = Some (file_in s.files.items)

abbrev pub reach_of : MemShelf → List ℕ → Option ℕ
reach_of s name = reach_in s.files.items s.reached.items name

-- the next call fails by its number
abbrev pub fails_next : MemShelf → Bool
fails_next s = list_any (λ n. n == next_count s.calls) s.failing.items

-- the number of bytes that the next call reads, where it does not fail: as many as there are and fit
abbrev pub answer_of : MemShelf → List ℕ → ℕ → ℕ → Option ℕ
answer_of s name place size =
    if fails_next s then None else option_map (λ file. min size (length (drop place file))) (file_in s.files.items name)

-- the count of faults after the next call: a file that is not there is none
abbrev pub faults_after : MemShelf → List ℕ → ℕ
faults_after s name =
    if is_none (file_in s.files.items name) then s.faults else (if fails_next s then next_count s.faults else s.faults)

abbrev pub view_of : MemShelf → View
view_of s = record { told = told_of s; reach = reach_of s; faults = faults_of s }
