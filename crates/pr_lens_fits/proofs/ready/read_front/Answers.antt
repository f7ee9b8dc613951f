use Rattle.pr_lens_fits.proofs.ready.read_front.Goals as goal

pub returns-in_ok-refused-in-Err-clause-none : goal.returns-in_ok-refused-in-Err-clause-none
returns-in_ok-refused-in-Err-clause-none c = record { fault = c.in-Err.fault; refused = c.in_ok-refused-in-Err.ensures c.args.text.now c.in-Err.ensures.refused }
