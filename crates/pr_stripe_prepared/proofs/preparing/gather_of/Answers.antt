use Rattle.std.proofs.Common.{get_or, ap, ◌∙◌, arith}
use Rattle.pr_conf.specs.declared.pes.Source.{Source}
use Rattle.pr_lanes.specs.Lanes.{is_place}
use Rattle.pr_stripe_prepared.proofs.PlaceLaws.{lane_is}
use Rattle.pr_stripe_prepared.proofs.PrepareLaws.{place_ok, here_ok}
use Rattle.pr_stripe_prepared.proofs.preparing.gather_of.Goals as goal

abbrev none : Source
none = Source.Const 0

pub invariant_of-result : goal.invariant_of-result
invariant_of-result c = record {
  states_in = λ k l. ap is_place (c.state_row-states.ensures.each k none l) ∙ place_ok c.args.registers (get_or c.args.sources.now k none) (c.requires.suited k none l);
  heres_in = λ k l. ap is_place (c.here_row.ensures.each k none l) ∙ here_ok c.args.registers (get_or c.args.sources.now k none) (c.requires.suited k none l);
  unread = c.is_any-reads_state.ensures;
}

pub returns-clause-gives : goal.returns-clause-gives
returns-clause-gives c = λ k d row st made l.
    let s = get_or c.args.sources.now k d in
    lane_is c.args.registers c.known_row.result c.state_row-states.result c.here_row.result c.row_row.result c.in_ok-terms.terms.items c.any_here.result s k (omega arith) (c.requires.suited k d l) (c.known_row.ensures.each k d l) (c.state_row-states.ensures.each k d l) (c.here_row.ensures.each k d l) (λ h. c.any_here.ensures h k d l) (c.row_row.ensures.each k d l) (λ x row. c.in_ok-terms.ensures.gives k x row l) row st made
