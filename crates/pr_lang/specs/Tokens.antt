-- The tokens of a text.
use Rattle.std.specs.Prelude.{ℕ, zero, suc, ◌+◌, ◌-◌, ◌*◌, ◌^◌, Bool, false, cond, not, ◌||◌, nat_eq, nat_le, Option, Some, None, List, [], ◌∷◌, take, drop, length, find, codes}
use Rattle.std.specs.Cmp.Lexicographic.{pointwise}
use Rattle.std.specs.List.{prefix_len, starts_with}
use Rattle.pr_lang.specs.declared.tokens.Keyword.{Keyword}
use Rattle.pr_lang.specs.declared.tokens.Symbol.{Symbol}
use Rattle.pr_lang.specs.declared.tokens.Kind.{Kind}
use Rattle.pr_lang.specs.declared.tokens.Kind.TheVariants.{Name, Number, Word, Mark, End, Bad}
use Rattle.pr_lang.specs.declared.tokens.Token.{Token}
use Rattle.pr_lang.specs.Spelling.{keyword_text, keywords, symbol_text, symbols, is_blank, is_line_feed, is_digit, is_hex_digit, is_letter, is_name_byte}

-- what stands at the front of a text, with the number of its bytes: a gap between tokens, a token, or bytes that are none
pub data Piece : Type 0 where
  Gap : ℕ → Piece
  Whole : Kind → ℕ → Piece
  Broken : ℕ → Piece

-- the keyword that these bytes are
abbrev pub keyword_of : List ℕ → Option Keyword
keyword_of bytes = find (λ k. pointwise nat_eq bytes (keyword_text k)) keywords

-- the longest symbol at the front
abbrev pub symbol_of : List ℕ → Option Symbol
symbol_of text = find (λ s. starts_with nat_eq text (symbol_text s)) symbols

-- the value of a digit of either case
abbrev pub digit_value : ℕ → ℕ
digit_value c = cond (is_digit c) (c - 48) (cond (nat_le 97 c) (c - 87) (c - 55))

-- the number of these digits, which go on after a number that is read already
abbrev pub number_after : ℕ → ℕ → List ℕ → ℕ
number_after base before [] = before
number_after base before (c ∷ cs) = number_after base (before * base + digit_value c) cs

-- whether a name could begin at the front
abbrev pub letter_first : List ℕ → Bool
letter_first [] = false
letter_first (c ∷ cs) = is_letter c

-- a number whose digits follow the first `skip` of `size` bytes: no letter may follow, and it has at most 64 bits
abbrev pub number_piece : ℕ → ℕ → ℕ → List ℕ → Piece
number_piece base skip size text = let n = number_after base 0 (take (size - skip) (drop skip text)) in
    cond (letter_first (drop size text) || nat_le (2 ^ 64) n) (Broken size) (Whole (Number n) size)

abbrev pub decimal_piece : List ℕ → Piece
decimal_piece text = number_piece 10 0 (prefix_len is_digit text) text

-- a number after `0x`, which has at least one digit
abbrev pub hex_piece : List ℕ → Piece
hex_piece text = let count = prefix_len is_hex_digit (drop 2 text) in
    cond (nat_eq count 0) (Broken 2) (number_piece 16 2 (2 + count) text)

abbrev pub word_kind : Option Keyword → Kind
word_kind None = Name
word_kind (Some k) = Word k

abbrev pub word_piece : List ℕ → Piece
word_piece text = let size = prefix_len is_name_byte text in Whole (word_kind (keyword_of (take size text))) size

abbrev pub symbol_piece : Option Symbol → Piece
symbol_piece None = Broken 1
symbol_piece (Some s) = Whole (Mark s) (length (symbol_text s))

-- the longest piece at the front of a text whose first byte is c; a comment goes on to the next line feed, and a blank is a gap of its own
abbrev pub piece_from : ℕ → List ℕ → Piece
piece_from c text = cond (is_blank c) (Gap 1)
    (cond (starts_with nat_eq text (codes "//")) (Gap (prefix_len (λ b. not (is_line_feed b)) text))
    (cond (is_letter c) (word_piece text)
    (cond (starts_with nat_eq text (codes "0x")) (hex_piece text)
    (cond (is_digit c) (decimal_piece text) (symbol_piece (symbol_of text))))))

abbrev pub token : Kind → ℕ → ℕ → Token
token kind start size = record { kind = kind; start = start; end = start + size }

-- the tokens from a place on, of which so many bytes belong to the piece before
unfoldable pub tokens_from : ℕ → ℕ → List ℕ → List Token
tokens_from place skip [] = token End place 0 ∷ []
tokens_from place (suc skip) (c ∷ cs) = tokens_from (suc place) skip cs
tokens_from place zero (c ∷ cs) = elim (piece_from c (c ∷ cs)) [
  | Gap size ↦ tokens_from (suc place) (size - 1) cs
  | Whole kind size ↦ token kind place size ∷ tokens_from (suc place) (size - 1) cs
  | Broken size ↦ token Bad place size ∷ []
]

-- the tokens of a text: one End stands last, or one Bad where the text stops being tokens
abbrev pub tokens_of : List ℕ → List Token
tokens_of text = tokens_from 0 0 text
