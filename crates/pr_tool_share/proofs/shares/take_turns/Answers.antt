use Rattle.std.proofs.Common.{refl, inl, inr}
use Rattle.pr_tool_share.proofs.shares.take_turns.Goals as goal

pub returns-in-WriteFault-clause-turned : goal.returns-in-WriteFault-clause-turned
returns-in-WriteFault-clause-turned g c = record {
  machine = c.args.machine;
  stripes_are = refl;
  taken = inr (c.share.ensures.stopped c.in-WriteFault.is, (refl, c.share.ensures.write_fault c.in-WriteFault.is));
}

pub returns-in-Done-clause-turned : goal.returns-in-Done-clause-turned
returns-in-Done-clause-turned g c = record {
  machine = c.args.machine;
  stripes_are = refl;
  taken = inl (c.share.ensures.shared c.in-Done.is, c.answer_of_all.ensures);
}
