use Rattle.std.proofs.Common.{◌≡◌, length, arith}
use Rattle.pr_lens_find.specs.Fronts.{spot_of}
use Rattle.pr_lens_find.specs.Offences.{NoConstant}
use Rattle.pr_lens_items.specs.Steps.{entry_of}
use Rattle.pr_lens_find.proofs.OffenceLemmas.{constant_found}
use Rattle.pr_lens_find.proofs.offences.in_fixeds.Goals as goal

pub returns-in-None : goal.returns-in-None
returns-in-None c =
    let whole : c.len-most.result ≡ length c.args.frame.now.fixeds.items = omega (arith, c.args.frame.now.fixeds.ok.0) in
    NoConstant c.requires.rule (rw whole at (rw c.in-None.is at c.in_ok-first_count.ensures))

pub returns-in-Some : goal.returns-in-Some
returns-in-Some c =
    let broken = c.args.broken.now in
    let whole : c.len-most.result ≡ length c.args.frame.now.fixeds.items = omega (arith, c.args.frame.now.fixeds.ok.0) in
    constant_found (spot_of broken.part) broken.rule c.args.number (entry_of c.args.frame.now) c.in-Some.count c.numbered.result c.requires.rule (rw c.deref.ensures.value at c.numbered.ensures) (rw whole at (rw c.in-Some.is at c.in_ok-first_count.ensures))
