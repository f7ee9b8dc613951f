use Rattle.pr_lens_origins.specs.Spots.{is_stream_name}
use Rattle.pr_lens_origins.proofs.PlaceLaws.{names_step}
use Rattle.pr_lens_origins.proofs.names.names_in.Goals as goal

pub loop-at-preserved : goal.loop-at-preserved
loop-at-preserved c = names_step (is_stream_name c.args.source.now.tokens.now) _ c.loop-at.at c.loop-at.names.items c.put_name.new.names.items _ c.loop-at-test.true c.in_ok-put_name.ensures c.loop-at.invariant
