use Rattle.std.proofs.Common.{◌≡◌, ◌++◌, drop}
use Rattle.std.specs.Prelude.{nat_lt}
use Rattle.std.specs.Simd.Lanes.{zip2}
use Rattle.pr_lens_tracks.specs.Tables.{cell_text, numbers_line, rest_cells}
use Rattle.pr_lens_tracks.proofs.tables.put_numbers.Given as goal

abbrev pub invariant-loop-place : goal.invariant-loop-place
invariant-loop-place l = l.text.items ++ rest_cells (nat_lt 0 l.place) (drop l.place (zip2 cell_text l.tracks l.numbers)) ≡ l.fn.text.items ++ numbers_line l.tracks l.numbers
