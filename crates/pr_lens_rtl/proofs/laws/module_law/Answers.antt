use Rattle.pr_lens_rtl.proofs.TraceLaws.{clock_law, trace_law}
use Rattle.pr_lens_rtl.proofs.laws.module_law.Goals as goal

pub returns : goal.returns
returns c = record {
  clock = λ N P s lawful bytes now after k r. clock_law N P s lawful bytes now after k r;
  trace = λ N P s lawful bytes first now rest h. trace_law N P s lawful bytes first now rest h;
}
