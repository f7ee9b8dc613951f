-- A list that another begins with.
use Rattle.std.specs.Prelude.{◌≡◌, List, length, take}
use Rattle.pr_net.specs.declared.cells.Cell.{Cell}

abbrev pub IsPrefix : List (List Cell) → List (List Cell) → Type 0
IsPrefix part whole = take (length part) whole ≡ part
