-- Numbers of 64 bits that are written in decimal digits.
use Rattle.std.proofs.Common.{◌≡◌, ◌≤◌, ℕ, List, None, Result, Ok, Err, sym, ap, ◌∙◌, arith, decimal, true≢false, is_ok}
use Rattle.std.specs.Result.{result_unwrap_or}
use Rattle.std.specs.Str.Parse.{ParsesUnsigned}
use Rattle.std.proofs.lemmas.Fmt.{parse-decimal}
use Rattle.pr_tool_words.specs.Lawful.{number_in}
use Rattle.pr_tool_words.proofs.QuantityLemmas.{number_in-none}

module _ {E : Type 0} (text : List ℕ) (r : Result ℕ E) (parses : ParsesUnsigned 64 10 text r) where
  reads : (n : ℕ) → decimal n ≡ text → n ≤ 18446744073709551615 → r ≡ Ok n
  reads n spelled below = parse-decimal 64 n text r (omega arith) (omega arith) (sym spelled) parses

  -- a text that is no number of 64 bits
  pub long_unread : (e : E) → r ≡ Err e → number_in 0 18446744073709551615 text ≡ None
  long_unread e is = number_in-none 0 18446744073709551615 text (λ n spelled above below. true≢false (sym (ap is_ok (reads n spelled below)) ∙ ap is_ok is))

  -- a number that is spelled otherwise
  pub long_other : (number : ℕ) → r ≡ Ok number → (decimal number ≡ text → ⊥) → number_in 0 18446744073709551615 text ≡ None
  long_other number is other =
      number_in-none 0 18446744073709551615 text (λ n spelled above below.
      let same : number ≡ n = ap (λ x. result_unwrap_or x 0) (sym is ∙ reads n spelled below) in
      other (ap decimal same ∙ spelled))
