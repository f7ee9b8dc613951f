-- Frames, one more.
use Rattle.std.proofs.Common.{◌≡◌, ◌++◌, ◌∷◌, [], List}
use Rattle.std.proofs.lemmas.List.{map-append}
use Rattle.pr_lens_items.specs.declared.points.Frame.{Frame}
use Rattle.pr_lens_items.specs.Steps.{entry_of, entries_of}

pub pushed : (fs : List Frame) (f : Frame) → entries_of (fs ++ f ∷ []) ≡ entries_of fs ++ entry_of f ∷ []
pushed fs f = map-append entry_of fs (f ∷ [])
