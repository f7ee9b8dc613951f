-- What a text gains: words, each after a space.
use Rattle.std.specs.Prelude.{ℕ, zero, suc, ◌≡◌, List, [], ◌∷◌, ◌++◌}
use Rattle.std.specs.List.{flat_map}
use Rattle.pr_lang.specs.declared.tokens.Symbol.TheVariants.{OpenCurly, CloseCurly, Dots, Comma}
use Rattle.pr_lang.specs.declared.trees.Fixed.{Fixed}
use Rattle.pr_lang.specs.Word.{Word, symbol}
use Rattle.pr_lang.specs.Shape.{fixed_shape}
use Rattle.pr_lang.specs.Printed.{spelling, written}

unfoldable pub led : List Word → List ℕ
led ws = flat_map (λ w. 32 ∷ written w) ws

pub record IsPut (old : List ℕ) (ws : List Word) (new : List ℕ) : Type 0 where
  pub text : new ≡ old ++ led ws

-- the two ends of a slice
abbrev pub ends : Fixed → Fixed → List Word
ends high low = symbol OpenCurly ∷ (spelling (fixed_shape high) ++ symbol Dots ∷ (spelling (fixed_shape low) ++ symbol CloseCurly ∷ []))

-- the comma before the element with this number
abbrev pub comma_before : ℕ → List Word
comma_before zero = []
comma_before (suc i) = symbol Comma ∷ []
