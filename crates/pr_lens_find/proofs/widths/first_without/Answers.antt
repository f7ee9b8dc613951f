use Rattle.pr_lens_find.proofs.widths.first_without.Goals as goal

pub returns-in-Ok : goal.returns-in-Ok
returns-in-Ok c = record { widths = c.in-Ok._widths; are = c.in-Ok.ensures.widths }

pub returns-in-Err-NoWidth : goal.returns-in-Err-NoWidth
returns-in-Err-NoWidth c = c.in-Err-NoWidth.ensures.without c.in-Err-NoWidth.equation (cc)
