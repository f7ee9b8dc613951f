use Rattle.std.proofs.Common.{◌≡◌, ◌+◌, ◌∙◌, ℕ, [], None, Option, map, length, get_or, ap, ap₂, arith}
use Rattle.std.specs.List.{range_with_len}
use Rattle.std.specs.Option.{unwrap_or}
use Rattle.pr_net.specs.Shape.{cells_of}
use Rattle.pr_net.specs.Whole.{shape_of}
use Rattle.pr_place.specs.Registers.{spotted}
use Rattle.pr_place.proofs.Ending.{at_now, cells_inside, first_inside, owner_inside, same_home}
use Rattle.pr_place.proofs.homes.home.Goals as goal

pub index-requires : goal.index-requires
index-requires g c =
    let t = c.args.tables.now in
    let l = first_inside g.row.N g.row.P (shape_of c.args.net.now) t c.args.unit c.requires.tables c.requires.unit in
    let e = at_now t.cells.first.items c.args.unit c.index-first.result.now 0 c.index-first.ensures (let a = c.requires.tables.first_long in let b = c.requires.unit in omega (arith, a, b)) in
    omega (arith, l, e)

pub index-requires-2 : goal.index-requires-2
index-requires-2 g c =
    let t = c.args.tables.now in
    let net = shape_of c.args.net.now in
    let l = first_inside g.row.N g.row.P net t c.args.unit c.requires.tables c.requires.unit in
    let e = at_now t.cells.first.items c.args.unit c.index-first.result.now 0 c.index-first.ensures (let a = c.requires.tables.first_long in let b = c.requires.unit in omega (arith, a, b)) in
    let own = at_now t.cells.owner.items c.index-first.result.now c.index.result.now 0 c.index.ensures (omega (arith, l, e)) ∙ ap (λ (k : ℕ). get_or t.cells.owner.items k 0) e in
    let m = owner_inside g.row.N g.row.P net t c.args.unit c.requires.tables c.requires.unit in
    let long = c.requires.opens.opening.standing.long in
    omega (arith, own, m, long)

pub spot-col-requires : goal.spot-col-requires
spot-col-requires g c =
    let t = c.args.tables.now in
    let l = first_inside g.row.N g.row.P (shape_of c.args.net.now) t c.args.unit c.requires.tables c.requires.unit in
    let e = at_now t.cells.first.items c.args.unit c.index-first.result.now 0 c.index-first.ensures (let a = c.requires.tables.first_long in let b = c.requires.unit in omega (arith, a, b)) in
    let spots = c.requires.opens.spots in
    omega (arith, l, e, spots)

pub registers-requires : goal.registers-requires
registers-requires g c =
    let t = c.args.tables.now in
    let net = shape_of c.args.net.now in
    let u = c.args.unit in
    let first = at_now t.cells.first.items u c.index-first.result.now 0 c.index-first.ensures (let a = c.requires.tables.first_long in let b = c.requires.unit in omega (arith, a, b)) in
    let cells : c.behind-net.inside.cells.items ≡ cells_of net u = c.behind-net.view_is ∙ at_now net.units u c.index-3.result.now [] c.index-3.ensures c.requires.unit in
    let long = ap length cells in
    let len = c.len.ensures in
    let count : c.len.result ≡ length (cells_of net u) = omega (arith, long, len) in
    let all = cells_inside g.row.N g.row.P net t u c.requires.tables c.requires.unit in
    let spots = c.requires.opens.spots in
    let a = t.cells.owner.ok.0 in
    let b = t.cells.owner.ok.1 in
    let d = t.cells.owner.small in
    record { inside = omega (arith, first, count, all, spots); small = omega (arith, first, count, all, a, b, d) }

pub returns : goal.returns
returns g c =
    let t = c.args.tables.now in
    let net = shape_of c.args.net.now in
    let u = c.args.unit in
    let first = at_now t.cells.first.items u c.index-first.result.now 0 c.index-first.ensures (let a = c.requires.tables.first_long in let b = c.requires.unit in omega (arith, a, b)) in
    let cells : c.behind-net.inside.cells.items ≡ cells_of net u = c.behind-net.view_is ∙ at_now net.units u c.index-3.result.now [] c.index-3.ensures c.requires.unit in
    let long = ap length cells in
    let len = c.len.ensures in
    let count : c.len.result ≡ length (cells_of net u) = omega (arith, long, len) in
    let l = first_inside g.row.N g.row.P net t u c.requires.tables c.requires.unit in
    let own = at_now t.cells.owner.items c.index-first.result.now c.index.result.now 0 c.index.ensures (omega (arith, l, first)) ∙ ap (λ (k : ℕ). get_or t.cells.owner.items k 0) first in
    let m = owner_inside g.row.N g.row.P net t u c.requires.tables c.requires.unit in
    let stages = c.args.course.now.stages.items in
    let stands = c.requires.opens.opening.standing.long in
    let stage_at = at_now stages c.index.result.now c.index-2.result.now None c.index-2.ensures (omega (arith, own, m, stands)) ∙ ap (λ (k : ℕ). get_or stages k None) own in
    let spots = c.args.course.now.progress.spots in
    let col = ap (λ (q : ℕ × ℕ). q.0) c.spot-col.ensures ∙ ap (λ (k : ℕ). (spotted spots k).0) first in
    let regs = c.in_ok-regs.ensures ∙ ap₂ (λ (k n : ℕ). map (λ i. (spotted spots (k + i)).1) (range_with_len 0 n)) first count in
    same_home (c.unwrap_or-stage.ensures ∙ ap (λ (o : Option ℕ). unwrap_or o 0) stage_at) col regs
