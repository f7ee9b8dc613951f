-- How words and symbols are written, and which bytes make a name, a number and a gap.
use Rattle.std.specs.Prelude.{ℕ, Bool, ◌&&◌, ◌||◌, nat_le, nat_eq, List, [], ◌∷◌, codes}
use Rattle.pr_lang.specs.declared.tokens.Keyword.{Keyword}
use Rattle.pr_lang.specs.declared.tokens.Keyword.TheVariants.{Input, Output, Const, Fn, Return, Let, Rec, By, For, Within, Cat}
use Rattle.pr_lang.specs.declared.tokens.Symbol.{Symbol}
use Rattle.pr_lang.specs.declared.tokens.Symbol.TheVariants.{Colon, Semi, Assign, OpenRound, CloseRound, OpenSquare, CloseSquare, OpenCurly, CloseCurly, Comma, Dots, At, Ask, Plus, Minus, Star, Slash, Percent, Amp, Bar, Caret, Tilde, ShiftLeft, ShiftRight, Equal, NotEqual, Less, LessEqual, Greater, GreaterEqual}

abbrev pub keyword_text : Keyword → List ℕ
keyword_text Input = codes "input"
keyword_text Output = codes "output"
keyword_text Const = codes "const"
keyword_text Fn = codes "fn"
keyword_text Return = codes "return"
keyword_text Let = codes "let"
keyword_text Rec = codes "rec"
keyword_text By = codes "by"
keyword_text For = codes "for"
keyword_text Within = codes "in"
keyword_text Cat = codes "cat"

abbrev pub keywords : List Keyword
keywords = Input ∷ Output ∷ Const ∷ Fn ∷ Return ∷ Let ∷ Rec ∷ By ∷ For ∷ Within ∷ Cat ∷ []

abbrev pub symbol_text : Symbol → List ℕ
symbol_text Colon = codes ":"
symbol_text Semi = codes ";"
symbol_text Assign = codes "="
symbol_text OpenRound = codes "("
symbol_text CloseRound = codes ")"
symbol_text OpenSquare = codes "["
symbol_text CloseSquare = codes "]"
symbol_text OpenCurly = codes "{"
symbol_text CloseCurly = codes "}"
symbol_text Comma = codes ","
symbol_text Dots = codes ".."
symbol_text At = codes "@"
symbol_text Ask = codes "?"
symbol_text Plus = codes "+"
symbol_text Minus = codes "-"
symbol_text Star = codes "*"
symbol_text Slash = codes "/"
symbol_text Percent = codes "%"
symbol_text Amp = codes "&"
symbol_text Bar = codes "|"
symbol_text Caret = codes "^"
symbol_text Tilde = codes "~"
symbol_text ShiftLeft = codes "<<"
symbol_text ShiftRight = codes ">>"
symbol_text Equal = codes "=="
symbol_text NotEqual = codes "!="
symbol_text Less = codes "<"
symbol_text LessEqual = codes "<="
symbol_text Greater = codes ">"
symbol_text GreaterEqual = codes ">="

-- all symbols, those of two bytes first, so that the first one that fits is the longest
abbrev pub symbols : List Symbol
symbols = Dots ∷ ShiftLeft ∷ ShiftRight ∷ Equal ∷ NotEqual ∷ LessEqual ∷ GreaterEqual ∷ Colon ∷ Semi ∷ Assign ∷ OpenRound ∷ CloseRound ∷ OpenSquare ∷ CloseSquare ∷ OpenCurly ∷ CloseCurly ∷ Comma ∷ At ∷ Ask ∷ Plus ∷ Minus ∷ Star ∷ Slash ∷ Percent ∷ Amp ∷ Bar ∷ Caret ∷ Tilde ∷ Less ∷ Greater ∷ []

-- space, tab, CR and LF
abbrev pub is_blank : ℕ → Bool
is_blank c = nat_eq c 32 || nat_eq c 9 || nat_eq c 13 || nat_eq c 10

abbrev pub is_line_feed : ℕ → Bool
is_line_feed c = nat_eq c 10

abbrev pub is_digit : ℕ → Bool
is_digit c = nat_le 48 c && nat_le c 57

abbrev pub is_hex_digit : ℕ → Bool
is_hex_digit c = is_digit c || (nat_le 65 c && nat_le c 70) || (nat_le 97 c && nat_le c 102)

-- a letter or `_`
abbrev pub is_letter : ℕ → Bool
is_letter c = (nat_le 65 c && nat_le c 90) || (nat_le 97 c && nat_le c 122) || nat_eq c 95

abbrev pub is_name_byte : ℕ → Bool
is_name_byte c = is_letter c || is_digit c
