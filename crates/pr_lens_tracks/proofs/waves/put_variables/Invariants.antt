use Rattle.std.proofs.Common.{◌≡◌, ◌++◌, drop}
use Rattle.pr_lens_tracks.specs.Waves.{variables_text}
use Rattle.pr_lens_tracks.proofs.waves.put_variables.Given as goal

abbrev pub invariant-loop-place : goal.invariant-loop-place
invariant-loop-place l = l.text.items ++ variables_text l.place (drop l.place l.tracks) ≡ l.fn.text.items ++ variables_text 0 l.tracks
