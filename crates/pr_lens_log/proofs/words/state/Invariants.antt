use Rattle.std.proofs.Common.{◌≡◌, ◌<◌, ℕ, List, length, get_or}
use Rattle.std.specs.List.{flat_map}
use Rattle.pr_log.specs.Lines.{hex_byte}
use Rattle.pr_lens_log.specs.Words.{AreBytes}
use Rattle.pr_lens_log.proofs.words.state.Given as goal

abbrev pub invariant-loop-column : goal.invariant-loop-column
invariant-loop-column l = record {
  size : length l.bytes ≡ 64;
  same : (k : ℕ) → k < l.column → (state : List ℕ) → AreBytes state → l.word ≡ flat_map hex_byte state → k < length state → get_or l.bytes k 0 ≡ get_or state k 0;
}
