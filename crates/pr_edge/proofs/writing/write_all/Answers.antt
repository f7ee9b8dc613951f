use Rattle.std.proofs.Common.{◌+◌}
use Rattle.std.proofs.lemmas.List.{take_rest}
use Rattle.std.proofs.lemmas.Result.{on_err_weaker}
use Rattle.pr_edge.proofs.Appending.{appends_more}
use Rattle.pr_edge.proofs.writing.write_all.Goals as goal

pub returns-else-count-bytes-clause-front : goal.returns-else-count-bytes-clause-front
returns-else-count-bytes-clause-front g c = on_err_weaker c.write_pieces.result
    (λ front. (c.in-Ok.count + front.0, appends_more _ _ _ _ _ _ c.in-Ok.ensures.appended (rw take_rest at front.1)))
    c.write_pieces.ensures.front
