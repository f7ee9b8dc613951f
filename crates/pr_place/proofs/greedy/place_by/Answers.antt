use Rattle.std.proofs.Common.{◌∙◌, ap}
use Rattle.std.proofs.lemmas.Result.{IfOk-from_err}
use Rattle.pr_net.specs.Whole.{shape_of}
use Rattle.pr_place.specs.Courses.{first_open}
use Rattle.pr_place.proofs.Ending.{no_fit_now}
use Rattle.pr_place.proofs.greedy.place_by.Goals as goal

pub returns-then-not-all-clause-no_fit : goal.returns-then-not-all-clause-no_fit
returns-then-not-all-clause-no_fit g c = no_fit_now g.row.N g.row.P (shape_of c.args.net.now) c.place_groups.new.course.stages.items c.number_left-unit.result (c.in_ok-all.ensures.stuck c.if-not-all.true) (λ k e. c.number_left-unit.ensures k (ap first_open c.deref.ensures.value ∙ e))

pub returns-in_err-course-clause-greedy : goal.returns-in_err-course-clause-greedy
returns-in_err-course-clause-greedy g c = IfOk-from_err _ _ c.from_residual.ensures.0

pub returns-in_err-all-clause-greedy : goal.returns-in_err-all-clause-greedy
returns-in_err-all-clause-greedy g c = IfOk-from_err _ _ c.from_residual-in_err-all.ensures.0

pub returns-in_err-placement-clause-greedy : goal.returns-in_err-placement-clause-greedy
returns-in_err-placement-clause-greedy g c = IfOk-from_err _ _ c.from_residual-in_err-placement.ensures.0
