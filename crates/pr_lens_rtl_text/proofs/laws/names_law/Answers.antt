use Rattle.pr_lens_rtl_text.proofs.NamingLaws.{bench_apart, names_apart, names_unreserved}
use Rattle.pr_lens_rtl_text.proofs.laws.names_law.Goals as goal

pub returns : goal.returns
returns c = record {
  apart = λ names nets lawful apart small once. names_apart names nets lawful apart small once;
  plain = λ names nets. names_unreserved names nets;
  bench = λ name. bench_apart name;
}
