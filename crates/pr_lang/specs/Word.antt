-- Tokens without their places: what the grammar sees of them.
use Rattle.std.specs.Prelude.{ℕ, Bool, false, ◌||◌, nat_eq, Option, Some, None, List, [], ◌∷◌, map, slice_range}
use Rattle.pr_lang.specs.declared.tokens.Keyword.{Keyword}
use Rattle.pr_lang.specs.declared.tokens.Keyword.TheVariants.{Input, Output, Const, Fn, Return, Let, Rec, By, For, Within, Cat}
use Rattle.pr_lang.specs.declared.tokens.Symbol.{Symbol}
use Rattle.pr_lang.specs.declared.tokens.Symbol.TheVariants.{Colon, Semi, Assign, OpenRound, CloseRound, OpenSquare, CloseSquare, OpenCurly, CloseCurly, Comma, Dots, At, Ask, Plus, Minus, Star, Slash, Percent, Amp, Bar, Caret, Tilde, ShiftLeft, ShiftRight, Equal, NotEqual, Less, LessEqual, Greater, GreaterEqual}
use Rattle.pr_lang.specs.declared.tokens.Kind.{Kind}
use Rattle.pr_lang.specs.declared.tokens.Kind.TheVariants as kind
use Rattle.pr_lang.specs.declared.tokens.Token.{Token}
use Rattle.pr_lang.specs.Tokens.{tokens_of}

pub data Word : Type 0 where
  named : List ℕ → Word
  numbered : ℕ → Word
  keyword : Keyword → Word
  symbol : Symbol → Word
  ending : Word
  broken : Word

abbrev pub word_by : List ℕ → Kind → Word
word_by bytes kind.Name = named bytes
word_by bytes (kind.Number n) = numbered n
word_by bytes (kind.Word k) = keyword k
word_by bytes (kind.Mark s) = symbol s
word_by bytes kind.End = ending
word_by bytes kind.Bad = broken

abbrev pub word_of : List ℕ → Token → Word
word_of text t = word_by (slice_range text t.start t.end) t.kind

abbrev pub words : List ℕ → List Token → List Word
words text tokens = map (word_of text) tokens

-- the words of a text
abbrev pub words_of : List ℕ → List Word
words_of text = words text (tokens_of text)

-- the number of a word; all names have one, and so have all numbers
abbrev pub keyword_tag : Keyword → ℕ
keyword_tag Input = 4
keyword_tag Output = 5
keyword_tag Const = 6
keyword_tag Fn = 7
keyword_tag Return = 8
keyword_tag Let = 9
keyword_tag Rec = 10
keyword_tag By = 11
keyword_tag For = 12
keyword_tag Within = 13
keyword_tag Cat = 14

abbrev pub symbol_tag : Symbol → ℕ
symbol_tag Colon = 15
symbol_tag Semi = 16
symbol_tag Assign = 17
symbol_tag OpenRound = 18
symbol_tag CloseRound = 19
symbol_tag OpenSquare = 20
symbol_tag CloseSquare = 21
symbol_tag OpenCurly = 22
symbol_tag CloseCurly = 23
symbol_tag Comma = 24
symbol_tag Dots = 25
symbol_tag At = 26
symbol_tag Ask = 27
symbol_tag Plus = 28
symbol_tag Minus = 29
symbol_tag Star = 30
symbol_tag Slash = 31
symbol_tag Percent = 32
symbol_tag Amp = 33
symbol_tag Bar = 34
symbol_tag Caret = 35
symbol_tag Tilde = 36
symbol_tag ShiftLeft = 37
symbol_tag ShiftRight = 38
symbol_tag Equal = 39
symbol_tag NotEqual = 40
symbol_tag Less = 41
symbol_tag LessEqual = 42
symbol_tag Greater = 43
symbol_tag GreaterEqual = 44

abbrev pub tag : Word → ℕ
tag (named bytes) = 0
tag (numbered n) = 1
tag ending = 2
tag broken = 3
tag (keyword k) = keyword_tag k
tag (symbol s) = symbol_tag s

-- which words a part of the grammar takes: any name, any number, End, this keyword, this symbol, or one of these symbols
pub data Pattern : Type 0 where
  any_name : Pattern
  any_number : Pattern
  the_end : Pattern
  this_keyword : Keyword → Pattern
  this_symbol : Symbol → Pattern
  one_of : List Symbol → Pattern

abbrev pub among : ℕ → List Symbol → Bool
among t [] = false
among t (s ∷ ss) = nat_eq t (symbol_tag s) || among t ss

abbrev pub fits : Pattern → Word → Bool
fits any_name w = nat_eq (tag w) 0
fits any_number w = nat_eq (tag w) 1
fits the_end w = nat_eq (tag w) (tag ending)
fits (this_keyword k) w = nat_eq (tag w) (keyword_tag k)
fits (this_symbol s) w = nat_eq (tag w) (symbol_tag s)
fits (one_of ss) w = among (tag w) ss

-- whether the next word, if there is one, is taken
abbrev pub takes : Pattern → Option Word → Bool
takes p None = false
takes p (Some w) = fits p w
