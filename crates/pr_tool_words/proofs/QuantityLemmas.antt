-- Numbers that are written in decimal digits.
use Rattle.std.proofs.Common.{◌≡◌, ◌<◌, ◌≤◌, ◌^◌, ◌&&◌, ℕ, Bool, true, false, List, Some, None, Result, Ok, Err, refl, sym, ap, ◌∙◌, subst, arith, decimal, cond, true≢false, is_ok}
use Rattle.std.specs.Result.{result_unwrap_or}
use Rattle.std.specs.Prelude.{nat_le, bytes_eq}
use Rattle.std.specs.Str.Parse.{digits_value, ParsesUnsigned}
use Rattle.std.proofs.lemmas.Fmt.{decimal_is_IsNumeral, parse-decimal}
use Rattle.std.proofs.lemmas.Bool.{and_parts, leb-true, le-leb}
use Rattle.std.proofs.lemmas.Slice.Eq.{bytes_eq-Decides}
use Rattle.pr_tool_words.specs.Lawful.{number_in}

-- the digits of a number of the range
pub number_in-some : (least greatest n : ℕ) (text : List ℕ) → decimal n ≡ text → n < 2 ^ 64 → least ≤ n → n ≤ greatest → number_in least greatest text ≡ Some n
unfolding number_in
number_in-some least greatest n text e lt above below =
    let value : digits_value 10 text ≡ n = ap (digits_value 10) (sym e) ∙ (decimal_is_IsNumeral n lt).1 in
    let same : bytes_eq (decimal n) text ≡ true = (bytes_eq-Decides (decimal n) text).1 e in
    rw (value, same, le-leb _ _ above, le-leb _ _ below) refl

-- no number of the range has the text as its digits
pub number_in-none : (least greatest : ℕ) (text : List ℕ) → ((n : ℕ) → decimal n ≡ text → least ≤ n → n ≤ greatest → ⊥) → number_in least greatest text ≡ None
unfolding number_in
number_in-none least greatest text none = go _ refl
  where
    n : ℕ
    n = digits_value 10 text

    go : (b : Bool) → (bytes_eq (decimal n) text && (nat_le least n && nat_le n greatest)) ≡ b → cond b (Some n) None ≡ None
    go false e = refl
    go true e =
        let parts = and_parts (bytes_eq (decimal n) text) _ e in
        let range = and_parts (nat_le least n) _ parts.1 in
        absurd (none n ((bytes_eq-Decides (decimal n) text).0 parts.0) (leb-true _ _ range.0) (leb-true _ _ range.1))

module _ {E : Type 0} (least greatest : ℕ) (text : List ℕ) (few : greatest < 2 ^ 32) (r : Result ℕ E) (parses : ParsesUnsigned 32 10 text r) where
  -- what the parser makes of the digits of a number of the range
  reads : (n : ℕ) → decimal n ≡ text → n ≤ greatest → r ≡ Ok n
  reads n spelled below = parse-decimal 32 n text r (omega arith) (omega arith) (sym spelled) parses

  -- a text that is no number of 32 bits
  pub number_in-unread : (e : E) → r ≡ Err e → number_in least greatest text ≡ None
  number_in-unread e is = number_in-none least greatest text (λ n spelled above below. true≢false (sym (ap is_ok (reads n spelled below)) ∙ ap is_ok is))

  -- a number that is spelled otherwise, or is out of the range
  pub number_in-other : (number : ℕ) → r ≡ Ok number → (decimal number ≡ text → least ≤ number → number ≤ greatest → ⊥) → number_in least greatest text ≡ None
  number_in-other number is other =
      number_in-none least greatest text (λ n spelled above below.
      let same : number ≡ n = ap (λ x. result_unwrap_or x 0) (sym is ∙ reads n spelled below) in
      other (ap decimal same ∙ spelled) (subst (λ m. least ≤ m) (sym same) above) (subst (λ m. m ≤ greatest) (sym same) below))
