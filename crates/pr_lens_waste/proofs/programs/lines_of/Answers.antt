use Rattle.std.proofs.Common.{inr, subst}
use Rattle.pr_lens_waste.specs.Programs.{IsWhy}
use Rattle.pr_lens_waste.proofs.programs.lines_of.Goals as goal

pub returns-in-Err-Untold : goal.returns-in-Err-Untold
returns-in-Err-Untold c = inr (record { none = c.no_lines.ensures; why = subst (IsWhy c.args.text.now) c.in-Err-Untold.field-0-is c.in-Err-Untold.ensures.untold })
