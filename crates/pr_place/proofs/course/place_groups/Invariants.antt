use Rattle.pr_net.specs.Whole.{shape_of}
use Rattle.pr_place.specs.Courses.{Opens}
use Rattle.pr_place.proofs.course.place_groups.Given as goal

abbrev pub invariant-loop-course : goal.invariant-loop-course
invariant-loop-course g l = Opens g.row.N g.row.P (shape_of l.net) l.tables l.course

abbrev pub decreases-loop-course : goal.decreases-loop-course
decreases-loop-course g l = l.course.left
