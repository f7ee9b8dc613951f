use Rattle.std.proofs.Common.{◌≡◌, ◌++◌, drop, map}
use Rattle.std.specs.Prelude.{nat_lt}
use Rattle.pr_lens_tracks.specs.Tables.{names_line, rest_cells, track_text}
use Rattle.pr_lens_tracks.proofs.tables.put_names.Given as goal

abbrev pub invariant-loop-place : goal.invariant-loop-place
invariant-loop-place l = l.text.items ++ rest_cells (nat_lt 0 l.place) (drop l.place (map track_text l.tracks)) ≡ l.fn.text.items ++ names_line l.tracks
