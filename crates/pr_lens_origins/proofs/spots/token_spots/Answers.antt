use Rattle.pr_lens_origins.proofs.spots.token_spots.Goals as goal

pub loop-token-init : goal.loop-token-init
loop-token-init c = record { spots = c.new-spots.ensures.items; cursor = c.begin-cursor.ensures.is c.args.source.now.text.now }
