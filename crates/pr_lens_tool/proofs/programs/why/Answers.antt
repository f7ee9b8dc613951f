use Rattle.std.proofs.Common.{subst}
use Rattle.pr_lens_why.specs.Verdicts.{IsVerdict}
use Rattle.pr_lens_tool.specs.Asked.{target_in}
use Rattle.pr_lens_tool.proofs.ProgramLemmas.{why_told}
use Rattle.pr_lens_tool.proofs.programs.why.Goals as goal

pub returns-in_ok-explained-in-Refused-clause-told : goal.returns-in_ok-explained-in-Refused-clause-told
returns-in_ok-explained-in-Refused-clause-told g c =
    let written = c.in_ok-explained-in-Refused in
    let explained = subst (IsVerdict g.row.N g.row.P c.args.target.now.narrowed c.args.text.now) c.in-Refused.is c.in_ok-explain.ensures in
    why_told g.row.N g.row.P (target_in c.args.target.now) c.args.text.now written.field-0.items c.args.json c.in-Refused.explanation c.compile_answer-answer.result explained c.compile_answer-answer.ensures written.ensures
