use Rattle.pr_lens_find.proofs.widths.missing_in.Goals as goal

pub told_by-requires : goal.told_by-requires
told_by-requires c = rw c.in-Some.is at c.in_ok-first_without.ensures
