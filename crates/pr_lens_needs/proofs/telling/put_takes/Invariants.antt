use Rattle.std.proofs.Common.{◌≡◌, ◌++◌, take}
use Rattle.std.specs.List.{flat_map}
use Rattle.pr_lens_needs.specs.Texts.{take_text}
use Rattle.pr_lens_needs.proofs.telling.put_takes.Given as goal

abbrev pub invariant-loop-one : goal.invariant-loop-one
invariant-loop-one l = l.message.items ≡ l.fn.message.items ++ flat_map take_text (take l.one-index l.takes)
