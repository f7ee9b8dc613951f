use Rattle.pr_lens_origins.proofs.spots.last_spot.Goals as goal

pub moved-cursor-requires-clause-is : goal.moved-cursor-requires-clause-is
moved-cursor-requires-clause-is c = c.begin.ensures.is c.args.source.now.text.now
