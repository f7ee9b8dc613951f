use Rattle.pr_net.specs.Whole.{shape_of}
use Rattle.pr_place.proofs.Ending.{filled_now}
use Rattle.pr_place.proofs.greedy.placement.Goals as goal

pub returns : goal.returns
returns g c = record {
  filled = filled_now g.row.N g.row.P (shape_of c.args.net.now) c.args.tables.now c.args.course.now c.requires.opens c.requires.none;
  homes = c.in_ok-homes.ensures;
}
