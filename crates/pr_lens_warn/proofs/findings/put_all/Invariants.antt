use Rattle.pr_lens_warn.proofs.FindingLemmas.{TellsRest}
use Rattle.pr_lens_warn.proofs.findings.put_all.Given as goal

abbrev pub invariant-loop-warning : goal.invariant-loop-warning
invariant-loop-warning l =
    TellsRest l.json l.name l.source.text.now l.source.tokens.now l.warnings l.warning-index l.fn.told.items l.told.items
