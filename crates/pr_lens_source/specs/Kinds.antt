-- Kinds of tokens.
use Rattle.std.specs.Prelude.{Bool, true, false}
use Rattle.pr_lang.specs.declared.tokens.Keyword.TheVariants as keyword
use Rattle.pr_lang.specs.declared.tokens.Kind.{Kind}
use Rattle.pr_lang.specs.declared.tokens.Kind.TheVariants.{Name, Number, Word, Mark}
use Rattle.pr_lang.specs.declared.tokens.Symbol.{Symbol}
use Rattle.pr_lang.specs.declared.tokens.Symbol.TheVariants as symbol

-- ---- names and numbers
abbrev pub is_name : Kind → Bool
is_name Name = true
is_name _ = false

abbrev pub is_number : Kind → Bool
is_number (Number number) = true
is_number _ = false

-- ---- words
abbrev pub is_input : Kind → Bool
is_input (Word keyword.Input) = true
is_input _ = false

abbrev pub is_const : Kind → Bool
is_const (Word keyword.Const) = true
is_const _ = false

abbrev pub is_fn : Kind → Bool
is_fn (Word keyword.Fn) = true
is_fn _ = false

abbrev pub is_let : Kind → Bool
is_let (Word keyword.Let) = true
is_let _ = false

abbrev pub is_rec : Kind → Bool
is_rec (Word keyword.Rec) = true
is_rec _ = false

abbrev pub is_by : Kind → Bool
is_by (Word keyword.By) = true
is_by _ = false

abbrev pub is_for : Kind → Bool
is_for (Word keyword.For) = true
is_for _ = false

-- ---- words and what stands behind them
-- a word that introduces the name behind it
abbrev pub introduces : Kind → Bool
introduces (Word keyword.Input) = true
introduces (Word keyword.Output) = true
introduces (Word keyword.Const) = true
introduces (Word keyword.Fn) = true
introduces (Word keyword.Let) = true
introduces (Word keyword.Rec) = true
introduces (Word keyword.For) = true
introduces _ = false

-- the name behind this word is assigned, or read from a sample
abbrev pub assigns : Kind → Bool
assigns (Word keyword.Input) = true
assigns (Word keyword.Let) = true
assigns (Word keyword.Rec) = true
assigns _ = false

-- the name behind this word is assigned, and may have an index
abbrev pub is_assigning : Kind → Bool
is_assigning (Word keyword.Let) = true
is_assigning (Word keyword.Rec) = true
is_assigning _ = false

-- what is behind this word is a result: of the program, or of a function
abbrev pub yields : Kind → Bool
yields (Word keyword.Output) = true
yields (Word keyword.Return) = true
yields _ = false

-- ---- brackets
abbrev pub is_open_round : Kind → Bool
is_open_round (Mark symbol.OpenRound) = true
is_open_round _ = false

abbrev pub is_close_round : Kind → Bool
is_close_round (Mark symbol.CloseRound) = true
is_close_round _ = false

abbrev pub is_open_square : Kind → Bool
is_open_square (Mark symbol.OpenSquare) = true
is_open_square _ = false

abbrev pub is_close_square : Kind → Bool
is_close_square (Mark symbol.CloseSquare) = true
is_close_square _ = false

abbrev pub is_open_curly : Kind → Bool
is_open_curly (Mark symbol.OpenCurly) = true
is_open_curly _ = false

abbrev pub is_close_curly : Kind → Bool
is_close_curly (Mark symbol.CloseCurly) = true
is_close_curly _ = false

abbrev pub is_opening : Kind → Bool
is_opening (Mark symbol.OpenRound) = true
is_opening (Mark symbol.OpenSquare) = true
is_opening (Mark symbol.OpenCurly) = true
is_opening _ = false

abbrev pub is_closing : Kind → Bool
is_closing (Mark symbol.CloseRound) = true
is_closing (Mark symbol.CloseSquare) = true
is_closing (Mark symbol.CloseCurly) = true
is_closing _ = false

-- ---- other marks
abbrev pub is_comma : Kind → Bool
is_comma (Mark symbol.Comma) = true
is_comma _ = false

abbrev pub is_colon : Kind → Bool
is_colon (Mark symbol.Colon) = true
is_colon _ = false

abbrev pub is_semi : Kind → Bool
is_semi (Mark symbol.Semi) = true
is_semi _ = false

abbrev pub is_assign : Kind → Bool
is_assign (Mark symbol.Assign) = true
is_assign _ = false

abbrev pub is_at : Kind → Bool
is_at (Mark symbol.At) = true
is_at _ = false

abbrev pub is_star : Kind → Bool
is_star (Mark symbol.Star) = true
is_star _ = false

abbrev pub is_minus : Kind → Bool
is_minus (Mark symbol.Minus) = true
is_minus _ = false

abbrev pub is_shift : Kind → Bool
is_shift (Mark symbol.ShiftLeft) = true
is_shift (Mark symbol.ShiftRight) = true
is_shift _ = false

abbrev pub is_comparison : Kind → Bool
is_comparison (Mark symbol.Equal) = true
is_comparison (Mark symbol.NotEqual) = true
is_comparison (Mark symbol.Less) = true
is_comparison (Mark symbol.LessEqual) = true
is_comparison (Mark symbol.Greater) = true
is_comparison (Mark symbol.GreaterEqual) = true
is_comparison _ = false

-- ---- what stands around a token
-- what can stand among the parameters of a function: names, commas, and declared widths
abbrev pub is_of_parameters : Kind → Bool
is_of_parameters Name = true
is_of_parameters (Number number) = true
is_of_parameters (Mark symbol.Comma) = true
is_of_parameters (Mark symbol.Colon) = true
is_of_parameters _ = false

-- an expression can begin behind this symbol, and a difference that does so has no operand before
abbrev pub begins_behind : Symbol → Bool
begins_behind symbol.Assign = true
begins_behind symbol.OpenRound = true
begins_behind symbol.Comma = true
begins_behind symbol.Ask = true
begins_behind symbol.Colon = true
begins_behind symbol.Amp = true
begins_behind symbol.Bar = true
begins_behind symbol.Caret = true
begins_behind symbol.Equal = true
begins_behind symbol.NotEqual = true
begins_behind symbol.Less = true
begins_behind symbol.LessEqual = true
begins_behind symbol.Greater = true
begins_behind symbol.GreaterEqual = true
begins_behind _ = false

abbrev pub begins_sum : Kind → Bool
begins_sum (Word keyword.By) = true
begins_sum (Word keyword.Return) = true
begins_sum (Mark sign) = begins_behind sign
begins_sum _ = false

-- a name before this token is not the whole of an operand of a shift
abbrev pub goes_on : Kind → Bool
goes_on (Mark symbol.Plus) = true
goes_on (Mark symbol.Minus) = true
goes_on (Mark symbol.Star) = true
goes_on (Mark symbol.OpenRound) = true
goes_on (Mark symbol.OpenSquare) = true
goes_on (Mark symbol.OpenCurly) = true
goes_on (Mark symbol.At) = true
goes_on _ = false

-- what stands before this token is an operand of it, before one of a difference
abbrev pub binds_closer : Kind → Bool
binds_closer (Mark symbol.Star) = true
binds_closer (Mark symbol.OpenCurly) = true
binds_closer _ = false
