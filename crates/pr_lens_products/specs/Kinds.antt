-- Kinds of tokens around products.
use Rattle.std.specs.Prelude.{◌||◌, Bool, true, false}
use Rattle.pr_lang.specs.declared.tokens.Keyword.TheVariants as keyword
use Rattle.pr_lang.specs.declared.tokens.Kind.{Kind}
use Rattle.pr_lang.specs.declared.tokens.Kind.TheVariants.{Name, Word, Mark}
use Rattle.pr_lang.specs.declared.tokens.Symbol.{Symbol}
use Rattle.pr_lang.specs.declared.tokens.Symbol.TheVariants as symbol
use Rattle.pr_lens_source.specs.Kinds.{is_star}

-- the name behind this word stands for an unsigned stream whose declared width follows
abbrev pub is_held : Kind → Bool
is_held (Word keyword.Input) = true
is_held (Word keyword.Rec) = true
is_held _ = false

-- a name that is assigned ends with this token where it has no declared width
abbrev pub is_bare : Kind → Bool
is_bare Name = true
is_bare (Mark symbol.CloseSquare) = true
is_bare _ = false

-- an operator that binds looser than a product, or a comma
abbrev pub joins_with : Symbol → Bool
joins_with symbol.Comma = true
joins_with symbol.Ask = true
joins_with symbol.Colon = true
joins_with symbol.Plus = true
joins_with symbol.Minus = true
joins_with symbol.ShiftLeft = true
joins_with symbol.ShiftRight = true
joins_with symbol.Amp = true
joins_with symbol.Bar = true
joins_with symbol.Caret = true
joins_with symbol.Equal = true
joins_with symbol.NotEqual = true
joins_with symbol.Less = true
joins_with symbol.LessEqual = true
joins_with symbol.Greater = true
joins_with symbol.GreaterEqual = true
joins_with _ = false

abbrev pub joins : Kind → Bool
joins (Mark sign) = joins_with sign
joins _ = false

-- an expression begins behind this token
abbrev pub opens : Kind → Bool
opens (Word keyword.By) = true
opens (Mark symbol.Assign) = true
opens (Mark symbol.OpenRound) = true
opens _ = false

-- an expression ends before this token
abbrev pub shuts : Kind → Bool
shuts (Mark symbol.Semi) = true
shuts (Mark symbol.CloseRound) = true
shuts _ = false

-- an expression goes on with this token behind one of its operands
abbrev pub goes_further : Kind → Bool
goes_further kind = joins kind || is_star kind
