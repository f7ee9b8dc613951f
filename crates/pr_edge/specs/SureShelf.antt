-- What a shelf in memory that never fails holds.
use Rattle.std.specs.Prelude.{ℕ, List, Option, Some, None}
use Rattle.pr_edge.specs.Files.{Told, View}
use Rattle.pr_edge.specs.Named.{Named, sure_file}
use Rattle.pr_edge.specs.declared.sure_shelf.SureShelf.{SureShelf}

abbrev pub files_of : SureShelf → List Named
files_of s = s.files.items

-- it tells a file for every name
abbrev pub told_of : SureShelf → Told
told_of s = Some (λ name. Some (sure_file s.files.items name))

-- it does not tell how far it was read
abbrev pub reach_of : SureShelf → List ℕ → Option ℕ
reach_of s name = None

-- it never fails
abbrev pub faults_of : SureShelf → ℕ
faults_of s = 0

abbrev pub view_of : SureShelf → View
view_of s = record { told = told_of s; reach = reach_of s; faults = faults_of s }
