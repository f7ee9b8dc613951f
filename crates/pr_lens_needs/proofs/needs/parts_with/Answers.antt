use Rattle.pr_lens_needs.proofs.needs.parts_with.Goals as goal

pub returns-clause-some : goal.returns-clause-some
returns-clause-some c = record {
  rec = c.in-Some.ensures.some;
  width = c.width_at.ensures;
  takes = cc (c.in_ok-takes.ensures, c.group_ending-units.ensures);
  keeps = cc (c.columns_between.ensures, c.group_ending-units.ensures, c.first_unit.ensures);
}
