use Rattle.std.proofs.Common.{◌≡◌, ℕ, map, take}
use Rattle.std.specs.Global.{Vec}
use Rattle.pr_lens_notes.specs.Labels.{label_of}
use Rattle.pr_lens_notes.proofs.labels.labels.Given as goal

abbrev pub invariant-loop-stream : goal.invariant-loop-stream
invariant-loop-stream l = map (λ (text : Vec ℕ). text.items) l.labels.items ≡ map label_of (take l.stream-index l.streams)
