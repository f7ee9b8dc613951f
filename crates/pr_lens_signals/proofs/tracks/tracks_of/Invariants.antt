use Rattle.std.proofs.Common.{◌≡◌, ◌++◌, drop}
use Rattle.std.specs.Prelude.{option_map}
use Rattle.pr_lens_signals.specs.Reading.{tracks_in}
use Rattle.pr_lens_signals.proofs.tracks.tracks_of.Given as goal

abbrev pub invariant-loop-place : goal.invariant-loop-place
invariant-loop-place l = l.tracks.items ++ drop l.place (tracks_in (option_map (λ s. s.now) l.signed) l.showing) ≡ tracks_in (option_map (λ s. s.now) l.signed) l.showing
