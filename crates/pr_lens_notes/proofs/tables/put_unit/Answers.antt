use Rattle.std.proofs.Common.{◌≡◌, ◌+◌, ◌*◌, arith, length, min}
use Rattle.pr_place.specs.Placements.{home_shape}
use Rattle.pr_lens_notes.proofs.TableLemmas.{put_is}
use Rattle.pr_lens_notes.proofs.tables.put_unit.Goals as goal

pub returns-clause-put : goal.returns-clause-put
returns-clause-put c =
    let home = c.args.home.now in
    let columns = c.args.columns in
    let len = length c.args.owners.now.items in
    let from_is : c.place_of-from.result ≡ min (home.stage * columns + min home.col columns) len = omega (arith, c.place_of-from.ensures, c.len-len.ensures, c.args.owners.now.ok.0, c.from.ensures) in
    let to_is : c.place_of-to.result ≡ min (home.stage * columns + min c.end_of-end.result columns) len = omega (arith, c.place_of-to.ensures, c.len-len.ensures, c.args.owners.now.ok.0) in
    let end_is : min c.end_of-end.result columns ≡ min (home.col + length home.regs.items) columns = omega (arith, c.end_of-end.ensures, c.len.ensures, home.regs.ok.0) in
    λ stage col low there.
    put_is (home_shape home) columns len stage col c.end_of-end.result c.place_of-from.result c.place_of-to.result low there from_is to_is end_is _ _ _ (λ lt. c.fill.ensures.before _ lt) (λ le lt. c.fill.ensures.inside _ le lt) (λ le. c.fill.ensures.behind _ le)
