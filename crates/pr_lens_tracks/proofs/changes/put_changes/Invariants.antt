use Rattle.std.proofs.Common.{◌≡◌, ◌++◌, map}
use Rattle.std.specs.List.{flat_map, range_with_len}
use Rattle.pr_lens_tracks.specs.Waves.{change_text, width_of}
use Rattle.pr_lens_tracks.proofs.changes.put_changes.Given as goal

abbrev pub invariant-loop-place : goal.invariant-loop-place
invariant-loop-place l = l.text.items ≡ l.fn.text.items ++ flat_map (change_text (map width_of l.tracks) l.begun l.before l.now) (range_with_len 0 l.place)
