use Rattle.std.proofs.Common.{Bool, cond, map, sym, ap, ◌∙◌}
use Rattle.pr_tool_answers.specs.declared.answers.Answer.{Answer}
use Rattle.pr_tool_share.specs.Ends.{first_part}
use Rattle.pr_tool_share.specs.Items.{end_of}
use Rattle.pr_tool_share.proofs.EndLemmas.{ends_any}
use Rattle.pr_tool_share.proofs.ends.answer_of_all.Goals as goal

pub returns-then-is_unread : goal.returns-then-is_unread
returns-then-is_unread c =
    let some = ends_any c.args.items.now ∙ (sym c.is_unread.ensures ∙ c.if-is_unread.true) in
    sym (ap (λ (b : Bool). cond b Answer.ReadFault (first_part 0 (map end_of c.args.items.now))) some)

pub returns-else-is_unread : goal.returns-else-is_unread
returns-else-is_unread c =
    let none = ends_any c.args.items.now ∙ (sym c.is_unread.ensures ∙ c.if-is_unread.false) in
    c.first_part.ensures ∙ sym (ap (λ (b : Bool). cond b Answer.ReadFault (first_part 0 (map end_of c.args.items.now))) none)
