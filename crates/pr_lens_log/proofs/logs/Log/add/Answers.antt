use Rattle.std.proofs.Common.{sym}
use Rattle.pr_lens_log.proofs.ReaderLaws.{on_ok}
use Rattle.pr_lens_log.proofs.logs.Log.add.Goals as goal

pub returns-clause-told : goal.returns-clause-told
returns-clause-told c = on_ok c.add.result _ _ c.add.ensures (λ more stripes cycles written totals excerpt.
    (c.with-self.ensures.totals cycles c.args.self.now.totals.results totals, more stripes cycles written (sym totals.count) excerpt))
