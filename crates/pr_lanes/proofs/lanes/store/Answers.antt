use Rattle.std.proofs.Common.{arith}
use Rattle.std.proofs.lemmas.Simd.{put_chunk_whole}
use Rattle.pr_lanes.proofs.lanes.store.Goals as goal

pub returns : goal.returns
returns c = put_chunk_whole c.args.into.now c.args.row (omega (arith, c.requires.into, c.requires.row))
