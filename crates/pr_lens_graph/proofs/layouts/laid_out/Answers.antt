use Rattle.std.proofs.Common.{Err, ap}
use Rattle.std.proofs.lemmas.Result.{err_from_is_err_and}
use Rattle.pr_compile.proofs.Steps.{cut_lawful, cut_answer, at_net_exit}
use Rattle.pr_lens_graph.proofs.LayoutLemmas.{laid_out_is}
use Rattle.pr_lens_graph.proofs.layouts.laid_out.Goals as goal

pub place-requires-clause-net : goal.place-requires-clause-net
place-requires-clause-net g c = cut_lawful _ _ _ _ _ c.args.flat.now.lawful c.requires.widths c.in_ok-net.ensures.net c.in_ok-net.ensures.within

pub returns-in_err-net-clause-refused : goal.returns-in_err-net-clause-refused
returns-in_err-net-clause-refused g c =
    let p = err_from_is_err_and c.from_residual.result c.from_residual.ensures.1 in
    at_net_exit g.row.N g.row.P _ c.from_residual.result _ p (cut_answer g.row.N g.row.P _ _ (λ cap e. c.in_err-net.ensures.refused cap (ap Err e)))

pub returns-clause-layout : goal.returns-clause-layout
returns-clause-layout g c =
    laid_out_is g.row.N g.row.P _ _ _ c.in_ok-placement.placement c.deref.result.now c.in_ok-net.ensures.net c.in_ok-net.ensures.within c.in_ok-placement.ensures.greedy c.deref.ensures.value c.in_ok-stages.ensures
