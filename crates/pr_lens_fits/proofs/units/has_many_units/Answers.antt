use Rattle.std.proofs.Common.{◌≡◌}
use Rattle.pr_base.specs.declared.caps.Cap.{Cap}
use Rattle.pr_lens_fits.proofs.UnfitLemmas.{passes}
use Rattle.pr_lens_fits.proofs.TargetLemmas.{within_limits, other_limit}
use Rattle.pr_lens_fits.proofs.units.has_many_units.Goals as goal

pub returns-in-Ok-clause-few : goal.returns-in-Ok-clause-few
returns-in-Ok-clause-few c = λ _. within_limits c.args.narrowed c.args.text.now c.in-Some.flat c.in-Some.widths (rw c.in-Some.is at c.in_ok-flat.ensures.told) c.in-Ok.ensures.within

pub returns-in-Err-Limit-clause-many : goal.returns-in-Err-Limit-clause-many
returns-in-Err-Limit-clause-many c = λ yes.
    let is : c.in-Err-Limit.cap ≡ Cap.Units = c.is_units.ensures.0 yes in
    passes 64 c.args.narrowed c.args.text.now c.in-Some.flat c.in-Some.widths Cap.Units (rw c.in-Some.is at c.in_ok-flat.ensures.told) (rw is at (c.in-Err-Limit.ensures.limit c.in-Err-Limit.cap (cc)))

pub returns-in-Err-Limit-clause-few : goal.returns-in-Err-Limit-clause-few
returns-in-Err-Limit-clause-few c = λ no.
    other_limit c.args.narrowed c.args.text.now c.in-Some.flat c.in-Some.widths c.in-Err-Limit.cap (rw c.in-Some.is at c.in_ok-flat.ensures.told) (c.in-Err-Limit.ensures.limit c.in-Err-Limit.cap (cc))
    (λ is. let yes = c.is_units.ensures.1 is in cc)
