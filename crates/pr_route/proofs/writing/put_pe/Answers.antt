use Rattle.std.proofs.Common.{refl}
use Rattle.pr_route.proofs.Elements.{put_stage}
use Rattle.pr_route.proofs.writing.put_pe.Goals as goal

pub returns : goal.returns
returns g c = put_stage c.args.stages.now _ c.index-stages-stage.result c.args.stage c.args.col c.args.pe c.requires.stage c.requires.col refl
