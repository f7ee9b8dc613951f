-- The words of a line, and the numbers that they say.
use Rattle.std.specs.Prelude.{◌≡◌, ◌≢◌, ◌<◌, ◌^◌, ℕ, List, [], ◌∷◌, ◌++◌, length, slice_index, Option, None, Some, IfSome}
use Rattle.std.specs.List.{flat_map}
use Rattle.pr_log.specs.Lines.{hex_byte}

-- a byte stands nowhere among these
abbrev pub HasNone : ℕ → List ℕ → Type 0
HasNone sign bytes = (k : ℕ) → k < length bytes → slice_index bytes k ≢ sign

-- these bytes stand before the first such sign, and the rest stands behind it
pub record IsCut (sign : ℕ) (bytes before rest : List ℕ) : Type 0 where
  pub is : bytes ≡ before ++ sign ∷ rest
  pub none : HasNone sign before

-- ---- numbers of 32 bits and of 64, where there are any
abbrev pub AreShort : Option (ℕ × ℕ) → Type 0
AreShort pair = IfSome pair (λ p. (p.0 < 2 ^ 32) × (p.1 < 2 ^ 32))

abbrev pub IsShort : Option ℕ → Type 0
IsShort number = IfSome number (λ n. n < 2 ^ 32)

abbrev pub IsLong : Option ℕ → Type 0
IsLong number = IfSome number (λ n. n < 2 ^ 64)

-- ---- states
abbrev pub AreBytes : List ℕ → Type 0
AreBytes state = (k : ℕ) → k < length state → slice_index state k < 256

-- the digits of the state that was saved
abbrev pub row_text : Option ℕ → List ℕ → List ℕ
row_text None state = []
row_text (Some stage) state = flat_map hex_byte state
