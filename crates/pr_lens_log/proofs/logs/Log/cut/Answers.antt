use Rattle.std.proofs.Common.{refl}
use Rattle.pr_lens_log.proofs.ReaderLaws.{cut_told}
use Rattle.pr_lens_log.proofs.logs.Log.cut.Goals as goal

pub returns : goal.returns
returns c = λ choice tale few h. cut_told choice tale c.args.self.now _ few h refl refl refl refl c.cut.ensures.board c.cut.ensures.entered c.cut.ensures.left
