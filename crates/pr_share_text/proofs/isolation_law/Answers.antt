use Rattle.std.proofs.Common.{sym, ◌∙◌}
use Rattle.pr_share_text.proofs.RoundLaws.{own_lines}
use Rattle.pr_share_text.proofs.isolation_law.Goals as goal

pub returns : goal.returns
returns c = record {
  own = λ parts k part h e. own_lines parts k part h e;
  alone = λ parts others k part h q e f. own_lines parts k part h e ∙ sym (own_lines others k part q f);
}
