use Rattle.std.proofs.Common.{◌≡◌, ◌++◌}
use Rattle.pr_gen.specs.Texts.{sample_lines}
use Rattle.pr_gen.proofs.lines.put_samples.Given as goal

abbrev pub invariant-loop-j : goal.invariant-loop-j
invariant-loop-j l = l.text.items ≡ l.initial.text.items ++ sample_lines l.j
