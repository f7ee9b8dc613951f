use Rattle.pr_compile.proofs.Ready.{one_ready}
use Rattle.pr_compile.proofs.Programs.{same_equations}
use Rattle.pr_compile.proofs.OneAnswer.{one_configuration, one_net_refusal, refused_or_configured, one_answer, no_answer, one_compiled}
use Rattle.pr_compile.proofs.laws.answer_law.Goals as goal

pub returns : goal.returns
returns c = record {
  conf = one_configuration;
  net = one_net_refusal;
  apart = refused_or_configured;
  same = same_equations;
  ready = one_ready;
  one = one_answer;
  none = no_answer;
  compiled = one_compiled;
}
