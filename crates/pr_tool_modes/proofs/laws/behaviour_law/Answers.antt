use Rattle.pr_tool_modes.proofs.BehaviourLemmas.{kept_gives, kept_verdict, same_text}
use Rattle.pr_tool_modes.proofs.laws.behaviour_law.Goals as goal

pub returns : goal.returns
returns c = record {
  gives = kept_gives;
  verdict = λ files name fabric kept j a k. kept_verdict files name fabric kept k j a;
  text = λ files name fabric kept j samples c d one other e f k. same_text files name fabric kept k j samples c d one other e f;
}
