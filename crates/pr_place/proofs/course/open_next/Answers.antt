use Rattle.std.proofs.Common.{length, refl, arith}
use Rattle.std.proofs.Math.Facts.{Fits-of_lt}
use Rattle.pr_net.specs.Whole.{shape_of}
use Rattle.pr_place.proofs.Advancing.{all_inside, groups_inside, can_wake, few_stages, opens_next}
use Rattle.pr_place.proofs.course.open_next.Goals as goal

pub note-requires : goal.note-requires
note-requires g c =
    let f = c.requires.filled in
    let e = f.standing.long in
    all_inside (length c.args.course.now.stages.items) c.args.groups.now (λ k m. (let l = groups_inside g.row.N g.row.P (shape_of c.args.net.now) c.args.tables.now c.args.course.now c.args.groups.now f k m in omega (arith, l, e)))

pub tighten_all-requires-clause-inside : goal.tighten_all-requires-clause-inside
tighten_all-requires-clause-inside g c =
    let f = c.requires.filled in
    let e = f.filled.ready_long in
    all_inside (length c.args.course.now.candidates.ready.items) c.args.groups.now (λ k m. (let l = groups_inside g.row.N g.row.P (shape_of c.args.net.now) c.args.tables.now c.args.course.now c.args.groups.now f k m in omega (arith, l, e)))

pub wake-requires-clause-groups : goal.wake-requires-clause-groups
wake-requires-clause-groups g c =
    let f = c.requires.filled in
    let e = f.waiting.long in
    all_inside (length c.args.course.now.waits.items) c.args.groups.now (λ k m. (let l = groups_inside g.row.N g.row.P (shape_of c.args.net.now) c.args.tables.now c.args.course.now c.args.groups.now f k m in omega (arith, l, e)))

pub wake-requires-clause-waits : goal.wake-requires-clause-waits
wake-requires-clause-waits g c = can_wake g.row.N g.row.P (shape_of c.args.net.now) c.args.tables.now c.args.course.now c.args.groups.now c.requires.tables c.requires.filled

pub overflow_add-course : goal.overflow_add-course
overflow_add-course g c =
    let l = few_stages g.row.N g.row.P (shape_of c.args.net.now) c.args.tables.now c.args.course.now c.args.groups.now c.requires.tables c.requires.filled in
    Fits-of_lt (omega (arith, l))

pub returns-clause-opens : goal.returns-clause-opens
returns-clause-opens g c = opens_next g.row.N g.row.P (shape_of c.args.net.now) c.args.tables.now c.args.course.now _ c.args.groups.now c.tighten_all.new.self.ready.items c.requires.tables c.requires.filled c.requires.some (record {
  stage = refl;
  left = refl;
  progress = c.open.ensures;
  stages = c.note.ensures;
  ready_is = c.tighten_all.ensures.ready;
  lists = c.wake.ensures.lists;
  long = c.wake.ensures.long;
  counted = c.wake.ensures.waits;
  woken = c.wake.ensures.woken;
})
