use Rattle.std.proofs.Common.{◌≡◌, ◌++◌, take}
use Rattle.std.specs.List.{flat_map}
use Rattle.pr_lens_needs.specs.Texts.{narrower_text}
use Rattle.pr_lens_needs.proofs.telling.tell_widths.Given as goal

abbrev pub invariant-loop-found : goal.invariant-loop-found
invariant-loop-found l = l.message.items ≡ l.fn.message.items ++ flat_map narrower_text (take l.found-index l.narrower)
