-- Words that are cut off, and what is read from them.
use Rattle.std.proofs.Common.{◌≡◌, ◌≢◌, ◌<◌, ◌≤◌, ◌+◌, ◌*◌, ◌/◌, ◌%◌, ◌^◌, ◌==◌, ◌||◌, ◌∙◌, ℕ, zero, suc, Bool, true, false, List, [], ◌∷◌, ◌++◌, length, take, drop, get_or, nat_lt, if◌then◌else◌, length-take-le, get_or-take, ext_get_or, Option, Some, None, IfNone, codes, decimal, refl, sym, ap, subst, inl, inr, arith, append_assoc, length-append, take_at, drop_at, eq-eqb, true≢false}
use Rattle.std.specs.Int.{IsInRange}
use Rattle.std.specs.List.{flat_map, list_any}
use Rattle.std.specs.Str.{IsUtf8}
use Rattle.std.proofs.lemmas.Bool.{cases_lt}
use Rattle.std.proofs.lemmas.Fmt.{IsAscii-decimal, decimal_nonempty, digits_decimal}
use Rattle.std.proofs.lemmas.List.{get_or_append_left, get_or_at}
use Rattle.std.proofs.lemmas.Str.{IsUtf8-from_ascii}
use Rattle.std.proofs.lemmas.Str.Parse.{numerals_by_value, tells_by_index}
use Rattle.pr_log.specs.Lines.{configured_text, entry_text, hex_byte, hex_digit}
use Rattle.pr_lens_log.specs.Words.{AreShort, HasNone, IsCut, IsLong}

-- ---- where a sign does not stand
or_false : (a b : Bool) → (a || b) ≡ false → (a ≡ false) × (b ≡ false)
or_false true b e = absurd (true≢false e)
or_false false b e = (refl, e)

module _ (sign : ℕ) where
  pub none_nil : HasNone sign []
  none_nil k h = absurd (omega arith)

  pub none_cons : (x : ℕ) (xs : List ℕ) → x ≢ sign → HasNone sign xs → HasNone sign (x ∷ xs)
  none_cons x xs here rest zero h = here
  none_cons x xs here rest (suc k) h = rest k (omega arith)

  pub none_append : (xs ys : List ℕ) → HasNone sign xs → HasNone sign ys → HasNone sign (xs ++ ys)
  none_append [] ys hx hy = hy
  none_append (x ∷ xs) ys hx hy = none_cons x (xs ++ ys) (hx 0 (omega arith)) (none_append xs ys (λ k h. hx (suc k) (omega arith)) hy)

  pub none_by_test : (xs : List ℕ) → list_any (λ b. b == sign) xs ≡ false → HasNone sign xs
  none_by_test [] e = none_nil
  none_by_test (x ∷ xs) e =
      let parts = or_false (x == sign) (list_any (λ b. b == sign) xs) e in
      none_cons x xs (λ is. true≢false (sym (eq-eqb x sign is) ∙ parts.0)) (none_by_test xs parts.1)

  -- the place that is found is that of the first
  pub cut_place : (bytes before rest : List ℕ) (n : ℕ) → IsCut sign bytes before rest → n ≤ length bytes
      → ((k : ℕ) → k < n → get_or bytes k 0 ≢ sign) → (n < length bytes → get_or bytes n 0 ≡ sign) → n ≡ length before
  cut_place bytes before rest n cut within none found =
      let size : length bytes ≡ length before + suc (length rest) = ap length cut.is ∙ length-append before (sign ∷ rest) in
      elim (cases_lt n (length before)) [
        | inl less ↦ (
            let inside : n < length bytes = omega arith in
            let same : get_or bytes n 0 ≡ get_or before n 0 = ap (λ b. get_or b n 0) cut.is ∙ get_or_append_left before (sign ∷ rest) 0 n less in
            absurd (cut.none n less (sym same ∙ found inside)))
        | inr least ↦ elim (cases_lt (length before) n) [
          | inl more ↦ absurd (none (length before) more (ap (λ b. get_or b (length before) 0) cut.is ∙ get_or_at before sign rest 0 (length before) refl))
          | inr most ↦ omega arith
        ]
      ]

  pub cut_before : (bytes before rest : List ℕ) (n : ℕ) → IsCut sign bytes before rest → n ≡ length before → take n bytes ≡ before
  cut_before bytes before rest n cut e = ap (take n) cut.is ∙ take_at before (sign ∷ rest) n (sym e)

  pub cut_behind : (bytes before rest : List ℕ) (n : ℕ) → IsCut sign bytes before rest → n ≡ length before → drop 1 (drop n bytes) ≡ rest
  cut_behind bytes before rest n cut e = ap (λ b. drop 1 (drop n b)) cut.is ∙ ap (drop 1) (drop_at before (sign ∷ rest) n (sym e))

-- ---- digits
pub decimal_digit : (n : ℕ) → n < 2 ^ 64 → (k : ℕ) → k < length (decimal n) → IsInRange 48 57 (get_or (decimal n) k 0)
decimal_digit n h = digits_decimal (numerals_by_value _ tells_by_index) n h

pub decimal_none : (sign n : ℕ) → n < 2 ^ 64 → ((c : ℕ) → IsInRange 48 57 c → c ≢ sign) → HasNone sign (decimal n)
decimal_none sign n h other k less = other (get_or (decimal n) k 0) (decimal_digit n h k less)

pub no_blank : (c : ℕ) → IsInRange 48 57 c → c ≢ 32
no_blank c h e = omega (arith, h.0, e)

pub no_feed : (c : ℕ) → IsInRange 48 57 c → c ≢ 10
no_feed c h e = omega (arith, h.0, e)

pub no_at : (c : ℕ) → IsInRange 48 57 c → c ≢ 64
no_at c h e = omega (arith, h.1, e)

pub decimal_utf8 : (word : List ℕ) (n : ℕ) → n < 2 ^ 64 → word ≡ decimal n → IsUtf8 word
decimal_utf8 word n h is = subst (λ w. IsUtf8 w) (sym is) (IsUtf8-from_ascii (decimal n) (IsAscii-decimal n h))

-- ---- numbers and hyphens
decimal_other : (n : ℕ) (tail : List ℕ) → n < 2 ^ 64 → decimal n ++ tail ≡ codes "-" → ⊥
decimal_other n tail h is =
    let some = decimal_nonempty n h in
    let digit = decimal_digit n h 0 some in
    let first : get_or (decimal n ++ tail) 0 0 ≡ get_or (decimal n) 0 0 = get_or_append_left (decimal n) tail 0 0 some in
    let hyphen : get_or (decimal n ++ tail) 0 0 ≡ 45 = ap (λ w. get_or w 0 0) is in
    omega (arith, digit.0, first, hyphen)

pub number_other : (n : ℕ) → n < 2 ^ 64 → decimal n ≡ codes "-" → ⊥
number_other n h is =
    let digit = decimal_digit n h 0 (decimal_nonempty n h) in
    let hyphen : get_or (decimal n) 0 0 ≡ 45 = ap (λ w. get_or w 0 0) is in
    omega (arith, digit.0, hyphen)

pub entry_none : (word : List ℕ) (e : Option ℕ) → word ≡ codes "-" → IsLong e → word ≡ entry_text e → None ≡ e
entry_none word None hyphen long is = refl
entry_none word (Some n) hyphen long is = absurd (number_other n long (sym is ∙ hyphen))

pub entry_some : (word : List ℕ) (r : ℕ) (e : Option ℕ) → (word ≡ codes "-" → ⊥) → ((n : ℕ) → n < 2 ^ 64 → word ≡ decimal n → r ≡ n)
    → IsLong e → word ≡ entry_text e → Some r ≡ e
entry_some word r None other reads long is = absurd (other is)
entry_some word r (Some n) other reads long is = ap Some (reads n long is)

pub pair_none : (word : List ℕ) (c : Option (ℕ × ℕ)) → word ≡ codes "-" → AreShort c → word ≡ configured_text c → None ≡ c
pair_none word None hyphen short is = refl
pair_none word (Some (stage, stripe)) hyphen short is =
    let few : stage < 2 ^ 64 = omega (arith, short.0) in
    absurd (decimal_other stage (codes "@" ++ decimal stripe) few (sym (append_assoc (decimal stage) (codes "@") (decimal stripe)) ∙ (sym is ∙ hyphen)))

-- what stands before the sign and behind it
pub pair_cut : (word : List ℕ) (stage stripe : ℕ) → stage < 2 ^ 32 → word ≡ configured_text (Some (stage, stripe)) → IsCut 64 word (decimal stage) (decimal stripe)
pair_cut word stage stripe short is =
    let few : stage < 2 ^ 64 = omega arith in
    record { is = is ∙ append_assoc (decimal stage) (codes "@") (decimal stripe); none = decimal_none 64 stage few no_at }

pub pair_some : (word before rest : List ℕ) (r s : ℕ) (c : Option (ℕ × ℕ)) → (word ≡ codes "-" → ⊥)
    → ((a b : List ℕ) → IsCut 64 word a b → (before ≡ a) × (rest ≡ b))
    → ((n : ℕ) → n < 2 ^ 32 → before ≡ decimal n → r ≡ n) → ((n : ℕ) → n < 2 ^ 32 → rest ≡ decimal n → s ≡ n)
    → AreShort c → word ≡ configured_text c → ◌≡◌ {A = Option (ℕ × ℕ)} (Some (r, s)) c
pair_some word before rest r s None other cut left right short is = absurd (other is)
pair_some word before rest r s (Some (stage, stripe)) other cut left right short is =
    let parts = cut (decimal stage) (decimal stripe) (pair_cut word stage stripe short.0 is) in
    let a = left stage short.0 parts.0 in
    let b = right stripe short.1 parts.1 in
    λ i. Some (a i, b i)

-- ---- states
pub hex_even : (state : List ℕ) (k : ℕ) → k < length state → get_or (flat_map hex_byte state) (2 * k) 0 ≡ hex_digit (get_or state k 0 / 16)
hex_even [] k h = absurd (omega arith)
hex_even (b ∷ state) zero h = refl
hex_even (b ∷ state) (suc k) h = let two : 2 * suc k ≡ suc (suc (2 * k)) = omega arith in ap (λ n. get_or (flat_map hex_byte (b ∷ state)) n 0) two ∙ hex_even state k (omega arith)

pub hex_odd : (state : List ℕ) (k : ℕ) → k < length state → get_or (flat_map hex_byte state) (2 * k + 1) 0 ≡ hex_digit (get_or state k 0 % 16)
hex_odd [] k h = absurd (omega arith)
hex_odd (b ∷ state) zero h = refl
hex_odd (b ∷ state) (suc k) h = let two : 2 * suc k + 1 ≡ suc (suc (2 * k + 1)) = omega arith in ap (λ n. get_or (flat_map hex_byte (b ∷ state)) n 0) two ∙ hex_odd state k (omega arith)

pub length-hex : (state : List ℕ) → length (flat_map hex_byte state) ≡ 2 * length state
length-hex [] = refl
length-hex (b ∷ state) = let rest = length-hex state in omega (arith, rest)

least_digit : (n : ℕ) → 48 ≤ hex_digit n
least_digit n = go (nat_lt n 10)
  where
    go : (b : Bool) → 48 ≤ (if b then 48 + n else 87 + n)
    go true = omega arith
    go false = omega arith

digit_other : (n : ℕ) → hex_digit n ≢ 32
digit_other n is = let least = least_digit n in omega (arith, least, is)

pub hex_none : (state : List ℕ) → HasNone 32 (flat_map hex_byte state)
hex_none [] = none_nil 32
hex_none (b ∷ state) = none_cons 32 (hex_digit (b / 16)) (hex_digit (b % 16) ∷ flat_map hex_byte state) (digit_other (b / 16)) (none_cons 32 (hex_digit (b % 16)) (flat_map hex_byte state) (digit_other (b % 16)) (hex_none state))

pub state_is : (bytes state : List ℕ) (n : ℕ) → length bytes ≡ 64 → n ≡ length state → length state ≤ 64
    → ((k : ℕ) → k < length state → get_or bytes k 0 ≡ get_or state k 0) → take n bytes ≡ state
state_is bytes state n all e few same =
    let within : n ≤ length bytes = omega arith in
    let size : length (take n bytes) ≡ n = length-take-le n bytes within in
    ext_get_or 0 (take n bytes) state (size ∙ e) (λ k h.
    let less : k < n = omega (arith, h, size) in
    let low : k < length state = omega (arith, h, size) in
    get_or-take n bytes k 0 less ∙ same k low)

-- ---- options
pub if_none_then : {A P Q : Type 0} (r : Option A) → IfNone r P → (P → Q) → IfNone r Q
if_none_then None h f = f h
if_none_then (Some x) h f = tt
