use Rattle.std.proofs.Common.{◌<◌, ◌≤◌, ℕ, get_or}
use Rattle.std.specs.Prelude.{All}
use Rattle.pr_lang.specs.declared.tokens.Token.{Token}
use Rattle.pr_lens_fits.specs.Targets.{IsShort}
use Rattle.pr_lens_fits.proofs.targets.longest_token.Given as goal

abbrev pub invariant-loop-token : goal.invariant-loop-token
invariant-loop-token l = record {
  all : (k : ℕ) (d : Token) → k < l.token-index → IsShort l.longest (get_or l.source.tokens.now k d);
  least : (n : ℕ) → All (IsShort n) l.source.tokens.now → l.longest ≤ n;
}
