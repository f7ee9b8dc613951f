use Rattle.std.proofs.Common.{arith, inl, refl}
use Rattle.pr_lens_log.specs.Logs.{nothing, nothing_told}
use Rattle.pr_lens_log.proofs.readers.Reader.make.Goals as goal

pub returns-clause-read : goal.returns-clause-read
returns-clause-read c = record {
  from = 0;
  within = omega arith;
  begins = inl refl;
  taken = record { tale = nothing_told; tells = nothing; has = c.in_ok-make.ensures.told c.args.choice };
  short = omega arith;
  pending = c.new.ensures.items;
  none = λ k low high is. absurd (omega (arith, high));
}
