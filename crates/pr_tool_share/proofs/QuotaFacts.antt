-- The names and the quota of a line.
use Rattle.std.proofs.Common.{◌≡◌, ◌<◌, ◌^◌, ◌&&◌, ℕ, Bool, true, false, cond, List, [], ◌∷◌, Option, None, refl, sym, ap, ◌∙◌, subst, arith, decimal, true≢false}
use Rattle.std.specs.Str.{is_utf8, IsUtf8}
use Rattle.std.proofs.lemmas.Str.{is_utf8-from_IsUtf8, IsUtf8-from_is_utf8, IsUtf8-from_ascii}
use Rattle.std.proofs.lemmas.Fmt.{IsAscii-decimal}
use Rattle.pr_tool_words.specs.Lawful.{number_in}
use Rattle.pr_samples.specs.Lines.{words_of}
use Rattle.pr_tool_share.specs.Entries.{Entry, entry_by, entry_with}
use Rattle.pr_tool_words.proofs.QuantityLemmas.{number_in-none}

-- what is not UTF-8 is no number
pub quota_none : (text : List ℕ) → is_utf8 text ≡ false → number_in 1 1000000 text ≡ None
quota_none text e =
    number_in-none 1 1000000 text (λ n spelled above below.
    let few : n < 2 ^ 64 = omega (arith, below) in
    let is : is_utf8 (decimal n) ≡ true = is_utf8-from_IsUtf8 (decimal n) (IsUtf8-from_ascii (decimal n) (IsAscii-decimal n few)) in
    true≢false (sym is ∙ subst (λ (t : List ℕ). is_utf8 t ≡ false) (sym spelled) e))

pub not_utf8 : (bytes : List ℕ) → (IsUtf8 bytes → ⊥) → is_utf8 bytes ≡ false
not_utf8 bytes never = by_test (is_utf8 bytes) refl
  where
    by_test : (t : Bool) → is_utf8 bytes ≡ t → t ≡ false
    by_test true e = absurd (never (IsUtf8-from_is_utf8 bytes e))
    by_test false e = refl

-- three words of which the last is no number
pub quota_wrong : (line program samples quota : List ℕ) → words_of line ≡ program ∷ samples ∷ quota ∷ [] → is_utf8 quota ≡ false → entry_by (words_of line) ≡ None
quota_wrong line program samples quota is e =
    ap entry_by is ∙ (ap (entry_with program samples) (quota_none quota e) ∙ by_test (is_utf8 program && is_utf8 samples))
  where
    by_test : (t : Bool) → cond {A = Option Entry} t None None ≡ None
    by_test true = refl
    by_test false = refl
