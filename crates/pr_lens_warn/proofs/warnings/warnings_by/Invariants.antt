use Rattle.std.proofs.Common.{◌≡◌, ◌++◌, length}
use Rattle.pr_lens_warn.specs.Warnings.{warning_at}
use Rattle.pr_lens_warn.proofs.WarningLemmas.{rest_from}
use Rattle.pr_lens_warn.proofs.warnings.warnings_by.Given as goal

abbrev pub invariant-loop-at : goal.invariant-loop-at
invariant-loop-at l =
    let h = warning_at l.source.text.now l.source.tokens.now l.source.spans.now l.needed l.verdicts l.tails in
    l.found.items ++ rest_from h (length l.needed) l.at ≡ rest_from h (length l.needed) 0
