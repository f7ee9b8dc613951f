use Rattle.std.proofs.Common.{◌≡◌, length, arith}
use Rattle.pr_lens_find.specs.Fronts.{spot_of}
use Rattle.pr_lens_find.proofs.OffenceLemmas.{value_found}
use Rattle.pr_lens_find.proofs.offences.in_values.Goals as goal

pub returns-in-None : goal.returns-in-None
returns-in-None c =
    let whole : c.len-most.result ≡ length c.args.points.now.values.items = omega (arith, c.args.points.now.values.ok.0) in
    rw whole at (rw c.in-None.is at c.in_ok-first_count.ensures)

pub returns-in-Some : goal.returns-in-Some
returns-in-Some c =
    let broken = c.args.broken.now in
    let values = c.args.points.now.values.items in
    let whole : c.len-most.result ≡ length values = omega (arith, c.args.points.now.values.ok.0) in
    value_found (spot_of broken.part) broken.rule c.args.frames values c.in-Some.count c.numbered.result (rw c.deref.ensures.value at c.numbered.ensures) (rw whole at (rw c.in-Some.is at c.in_ok-first_count.ensures))
