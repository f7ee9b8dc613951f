-- What could stand in the place of a token, by what stands before it.
use Rattle.std.specs.Prelude.{ℕ, ◌≡◌, ◌++◌, ◌&&◌, [], ◌∷◌, Bool, true, false, List, Option, None, Some, codes, filter, length, nat_le, nat_lt}
use Rattle.pr_lang.specs.declared.tokens.Keyword.{Keyword}
use Rattle.pr_lang.specs.declared.tokens.Keyword.TheVariants as keyword
use Rattle.pr_lang.specs.declared.tokens.Symbol.{Symbol}
use Rattle.pr_lang.specs.declared.tokens.Symbol.TheVariants as symbol
use Rattle.pr_lang.specs.Spelling.{keyword_text, symbol_text}
use Rattle.pr_lang.specs.Syntax.{Refusal, AtToken, TooDeep, refusal_of}
use Rattle.pr_lens_find.specs.declared.expected.Expected.{Expected}

-- no token up to this one is wrong
abbrev pub is_taken : Option Refusal → ℕ → Bool
is_taken None at = true
is_taken (Some TooDeep) at = true
is_taken (Some (AtToken wrong)) at = nat_lt at wrong

-- no token is refused
abbrev pub is_good : Option Refusal → Bool
is_good None = true
is_good (Some refusal) = false

-- what stands before a token, and these bytes in its place
abbrev pub with_token : List ℕ → List ℕ → List ℕ
with_token front bytes = (((front ++ 32 ∷ []) ++ bytes) ++ 32 ∷ [])

-- such a text is no longer than a program, and no token of it up to this one is wrong
abbrev pub could_stand : List ℕ → ℕ → List ℕ → Bool
could_stand front at bytes = nat_le (length (with_token front bytes)) 1048576 && is_taken (refusal_of (with_token front bytes)) at

-- the words and the symbols, in the order in which they are told
unfoldable pub told_keywords : List Keyword
told_keywords =
    keyword.Input ∷ keyword.Output ∷ keyword.Const ∷ keyword.Fn ∷ keyword.Let ∷ keyword.Rec ∷ keyword.For ∷ keyword.Return ∷ keyword.By ∷ keyword.Within ∷ keyword.Cat ∷ []

unfoldable pub told_symbols : List Symbol
told_symbols =
    symbol.Semi ∷ symbol.Comma ∷ symbol.Colon ∷ symbol.Assign ∷ symbol.OpenRound ∷ symbol.CloseRound ∷ symbol.OpenSquare ∷ symbol.CloseSquare ∷ symbol.OpenCurly ∷ symbol.CloseCurly
    ∷ symbol.Dots ∷ symbol.At ∷ symbol.Ask ∷ symbol.Tilde ∷ symbol.Plus ∷ symbol.Minus ∷ symbol.Star ∷ symbol.Slash ∷ symbol.Percent ∷ symbol.Amp ∷ symbol.Bar ∷ symbol.Caret
    ∷ symbol.ShiftLeft ∷ symbol.ShiftRight ∷ symbol.Equal ∷ symbol.NotEqual ∷ symbol.Less ∷ symbol.LessEqual ∷ symbol.Greater ∷ symbol.GreaterEqual ∷ []

-- what is spelled so could stand there
unfoldable pub can_stand : {X : Type 0} → List ℕ → ℕ → (X → List ℕ) → X → Bool
can_stand front at spelling x = could_stand front at (spelling x)

-- what is told is what could stand there; of names and numbers one is tried, and the text could end there
pub record IsExpected (front : List ℕ) (at : ℕ) (expected : Expected) : Type 0 where
  pub name : expected.name ≡ could_stand front at (codes "name")
  pub number : expected.number ≡ could_stand front at (codes "1")
  pub end : expected.end ≡ is_good (refusal_of front)
  pub keywords : expected.keywords.items ≡ filter (can_stand front at keyword_text) told_keywords
  pub symbols : expected.symbols.items ≡ filter (can_stand front at symbol_text) told_symbols
