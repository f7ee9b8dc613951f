use Rattle.std.proofs.Common.{inl}
use Rattle.pr_lens_find.proofs.widths.extents.Goals as goal

pub returns-in-Err-NoWidth : goal.returns-in-Err-NoWidth
returns-in-Err-NoWidth c = inl (record { number = c.in-Err-NoWidth._number; without = c.in-Err-NoWidth.ensures.without c.in-Err-NoWidth._number (cc); none = c.new.ensures.items })
