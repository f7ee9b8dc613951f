use Rattle.std.proofs.Common.{arith}
use Rattle.std.proofs.lemmas.Simd.{get_or-replicate}
use Rattle.pr_stripe_prepared.proofs.terms.picks_in.Goals as goal

pub loop-k-init : goal.loop-k-init
loop-k-init c = record { done = λ j l. absurd (omega arith); rest = λ j l h. get_or-replicate 32 j 128 0 h }
