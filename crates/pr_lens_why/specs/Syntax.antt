-- What is told of a wrong token.
use Rattle.std.specs.Prelude.{ℕ, ◌==◌, ◌&&◌, ◌||◌, Bool, true, false, not, List, [], ◌∷◌, ◌++◌, Option, None, Some, codes, length, nat_eq, if◌then◌else◌}
use Rattle.std.specs.Cmp.Lexicographic.{pointwise}
use Rattle.std.specs.Option.{option_or}
use Rattle.std.specs.List.{flat_map, list_any, slice_get, starts_with}
use Rattle.pr_lang.specs.declared.tokens.Keyword.{Keyword}
use Rattle.pr_lang.specs.declared.tokens.Keyword.TheVariants as keyword
use Rattle.pr_lang.specs.declared.tokens.Kind.{Kind}
use Rattle.pr_lang.specs.declared.tokens.Kind.TheVariants.{Name, Number, Word, Mark, End, Bad}
use Rattle.pr_lang.specs.declared.tokens.Symbol.{Symbol}
use Rattle.pr_lang.specs.declared.tokens.Symbol.TheVariants.{Assign, OpenRound, Plus, Minus, Star, Slash, Percent, Amp, Bar, Caret, Tilde, ShiftLeft, ShiftRight, Equal, NotEqual, Less, LessEqual, Greater, GreaterEqual}
use Rattle.pr_lang.specs.declared.tokens.Token.{Token}
use Rattle.pr_lang.specs.Spelling.{is_digit, is_letter, keyword_text, symbol_text}
use Rattle.pr_lens_find.specs.declared.expected.Expected.{Expected}
use Rattle.pr_lens_names.specs.Pieces.{quoted, token_text}
use Rattle.pr_lens_source.specs.Tokens.{kind_of, end_of, bytes_of}
use Rattle.pr_lens_why.specs.declared.slips.Slip.{Slip}
use Rattle.pr_lens_why.specs.declared.slips.Slip.TheVariants as slip
use Rattle.pr_lens_why.specs.Slips.{advice_of, colon_slip, is_spelled, is_update, minus_slip, pair_slip, second_behind, word_before, word_behind, word_slip}

-- ---- symbols
-- one of these is spelled so
unfoldable pub has : List Symbol → List ℕ → Bool
has symbols spelling = list_any (λ (s : Symbol). pointwise nat_eq (symbol_text s) spelling) symbols

abbrev pub is_comparison : Symbol → Bool
is_comparison Equal = true
is_comparison NotEqual = true
is_comparison Less = true
is_comparison LessEqual = true
is_comparison Greater = true
is_comparison GreaterEqual = true
is_comparison _ = false

-- an operator between two operands
abbrev pub is_operator : Symbol → Bool
is_operator Plus = true
is_operator Minus = true
is_operator Star = true
is_operator Slash = true
is_operator Percent = true
is_operator Amp = true
is_operator Bar = true
is_operator Caret = true
is_operator ShiftLeft = true
is_operator ShiftRight = true
is_operator symbol = is_comparison symbol

-- with it an expression can begin
abbrev pub is_beginning : Symbol → Bool
is_beginning Tilde = true
is_beginning OpenRound = true
is_beginning _ = false

-- ---- what could stand there, piece by piece
unfoldable pub operator_text : List Symbol → List ℕ
operator_text symbols =
    if has symbols (codes "&") then (if has symbols (codes "<") then codes "an operator" else codes "an operator that is no comparison")
    else codes "an operator of `+ - * / %`"

unfoldable pub operand_text : List Symbol → List ℕ
operand_text symbols =
    if has symbols (codes "~") then codes "an expression" else (if has symbols (codes "(") then codes "a constant expression" else codes "a number")

abbrev pub piece_where : Bool → List ℕ → List (List ℕ)
piece_where told piece = if told then piece ∷ [] else []

-- an expression, a number or a name
unfoldable pub operand_pieces : Bool → Bool → List Symbol → List (List ℕ)
operand_pieces number name symbols = if number then operand_text symbols ∷ [] else piece_where name (codes "a name")

-- a symbol that is no operator, and begins no expression where one could stand there
abbrev pub symbol_piece : Bool → Symbol → List (List ℕ)
symbol_piece number symbol = piece_where (not (is_operator symbol) && not (is_beginning symbol && number)) (quoted (symbol_text symbol))

abbrev pub is_cat : Keyword → Bool
is_cat keyword.Cat = true
is_cat _ = false

-- a word that begins no expression where one could stand there
abbrev pub word_piece : Bool → Keyword → List (List ℕ)
word_piece number word = piece_where (not (number && is_cat word)) (quoted (keyword_text word))

-- all operators are told as one
unfoldable pub expected_pieces : Expected → List (List ℕ)
expected_pieces expected =
    operand_pieces expected.number expected.name expected.symbols.items
    ++ flat_map (symbol_piece expected.number) expected.symbols.items
    ++ piece_where (list_any is_operator expected.symbols.items) (operator_text expected.symbols.items)
    ++ flat_map (word_piece expected.number) expected.keywords.items
    ++ piece_where expected.end (codes "the end of the text")

abbrev pub comma_before : Bool → List ℕ
comma_before first = if first then [] else codes ", "

-- with commas between them
unfoldable pub joined : Bool → List (List ℕ) → List ℕ
joined first [] = []
joined first (piece ∷ pieces) = (comma_before first ++ piece) ++ joined false pieces

-- no piece came yet
unfoldable pub is_first_behind : Bool → List (List ℕ) → Bool
is_first_behind first [] = first
is_first_behind first (piece ∷ pieces) = false

-- nothing could stand there
abbrev pub is_nothing : Expected → Bool
is_nothing e = not e.name && (not e.number && (not e.end && ((length e.keywords.items == 0) && (length e.symbols.items == 0))))

unfoldable pub listed_text : Expected → List ℕ
listed_text expected = if is_nothing expected then [] else codes "What could: " ++ joined true (expected_pieces expected) ++ codes ".\n"

-- ---- what is wrong
abbrev pub is_letter_there : Option ℕ → Bool
is_letter_there None = false
is_letter_there (Some byte) = is_letter byte

abbrev pub follows_text : Bool → List ℕ
follows_text true = codes " is followed by a letter directly.\n"
follows_text false = codes " is above 18446744073709551615.\n"

-- digits that are no number
unfoldable pub bad_number_text : List ℕ → List Token → ℕ → List ℕ
bad_number_text text tokens token =
    if pointwise nat_eq (bytes_of text tokens token) (codes "0x") then codes "Behind `0x` a hexadecimal digit has to follow.\n"
    else codes "No number: " ++ token_text text tokens token ++ follows_text (is_letter_there (slice_get text (end_of text tokens token)))

abbrev pub is_digit_there : Option ℕ → Bool
is_digit_there None = false
is_digit_there (Some byte) = is_digit byte

unfoldable pub no_token_text : List ℕ
no_token_text = codes "No token begins with this byte. Beside blanks and comments, which begin with `//`, a text has names, numbers, words and symbols in ASCII alone.\n"

-- bytes that are no token
unfoldable pub bad_text : List ℕ → List Token → ℕ → List ℕ
bad_text text tokens token = if is_digit_there (slice_get (bytes_of text tokens token) 0) then bad_number_text text tokens token else no_token_text

abbrev pub is_bad : Kind → Bool
is_bad Bad = true
is_bad _ = false

unfoldable pub wrong_text : List ℕ → List Token → ℕ → List ℕ
wrong_text text tokens token =
    if is_bad (kind_of tokens token) then bad_text text tokens token else token_text text tokens token ++ codes " cannot stand here.\n"

-- ---- what to do
abbrev pub chain_text : Bool → List ℕ
chain_text true = codes "Comparisons do not chain: put brackets around one, as in `(a < b) == c`.\n"
chain_text false = []

-- about a symbol, in an expression
unfoldable pub in_expression_text : Symbol → List ℕ
in_expression_text Slash = codes "`/` and `%` are for constants: `x >> 3` divides a stream by 8, and `x{2..0}` is the remainder.\n"
in_expression_text Percent = codes "`/` and `%` are for constants: `x >> 3` divides a stream by 8, and `x{2..0}` is the remainder.\n"
in_expression_text Assign = codes "Two numbers are compared by `==`.\n"
in_expression_text symbol = chain_text (is_comparison symbol)

unfoldable pub symbol_text_for : List Symbol → Symbol → List ℕ
symbol_text_for symbols symbol = if has symbols (codes "&") then in_expression_text symbol else []

-- what is missing before a token that could begin an operand, or a statement
unfoldable pub missing_before : List Symbol → Bool → List ℕ
missing_before symbols operand =
    if has symbols (codes ";") then (if operand && has symbols (codes "+") then codes "Perhaps a `;` or an operator is missing before it.\n" else codes "Perhaps a `;` is missing before it.\n")
    else []

abbrev pub word_text_for : Bool → List Symbol → List ℕ
word_text_for name symbols = if name then codes "A word of the language is no name: choose another one.\n" else missing_before symbols false

-- by the kind of the token
unfoldable pub advice_text : Bool → List Symbol → Kind → List ℕ
advice_text name symbols Name = missing_before symbols true
advice_text name symbols (Number number) = missing_before symbols true
advice_text name symbols (Word keyword.Cat) = missing_before symbols true
advice_text name symbols (Mark OpenRound) = missing_before symbols true
advice_text name symbols (Mark Tilde) = missing_before symbols true
advice_text name symbols (Mark symbol) = symbol_text_for symbols symbol
advice_text name symbols (Word word) = word_text_for name symbols
advice_text name symbols End = missing_before symbols false
advice_text name symbols Bad = []

-- ---- what other languages write
-- `+=` or its like at the wrong token, behind it, or begun before it
unfoldable pub is_update_near : List ℕ → List ℕ → List ℕ → List ℕ → Bool
is_update_near before wrong behind second = is_update before wrong || (is_update wrong behind || is_update behind second)

-- by the words beside the wrong one
unfoldable pub near_slip : List ℕ → List ℕ → List ℕ → List ℕ → Option Slip
near_slip before wrong behind second =
    if is_update_near before wrong behind second then Some slip.Update
    else option_or (pair_slip before wrong) (word_slip before wrong behind)

-- by the wrong token alone, and what could stand in its place
unfoldable pub lone_slip : List ℕ → Bool → List Symbol → Option Slip
lone_slip wrong number symbols =
    if is_spelled wrong (codes "!") then Some slip.Not
    else if is_spelled wrong (codes "'") then Some slip.Based
    else if is_spelled wrong (codes "-") then minus_slip (has symbols (codes "~")) (number && has symbols (codes "("))
    else if is_spelled wrong (codes ":") then colon_slip (has symbols (codes "..")) (has symbols (codes "]") && not (has symbols (codes ",")))
    else None

unfoldable pub slip_at : List ℕ → List Token → Expected → ℕ → Option Slip
slip_at text tokens expected token =
    let wrong = bytes_of text tokens token in
    option_or (near_slip (word_before text tokens token) wrong (word_behind text tokens token) (second_behind text tokens token))
    (lone_slip wrong expected.number expected.symbols.items)

-- what this language has instead; otherwise what the token itself advises
unfoldable pub help_text : Option Slip → Expected → Kind → List ℕ
help_text (Some slip) expected kind = advice_of slip
help_text None expected kind = advice_text expected.name expected.symbols.items kind

-- ---- files that are no text of a program
unfoldable pub configuration_text : List ℕ
configuration_text = codes "The file is a configuration, and no text of a program: `piperench show FILE` tells what is in it, and `piperench exec FILE SAMPLES` runs it.\n"

unfoldable pub checkpoint_text : List ℕ
checkpoint_text = codes "The file is a checkpoint, and no text of a program: `piperench move FILE SAMPLES` goes on from it, and `piperench extend FILE SAMPLES` makes the next one.\n"

unfoldable pub byte_order_text : List ℕ
byte_order_text = codes "The file begins with a byte order mark (BOM): save it without one.\n"

-- both formats of a configuration, a checkpoint, and a byte order mark, by what they begin with
unfoldable pub file_text : List ℕ → List ℕ
file_text text =
    if starts_with nat_eq text (codes "PIP1") || starts_with nat_eq text (codes "PIP2") then configuration_text
    else if starts_with nat_eq text (codes "PICK") then checkpoint_text
    else if starts_with nat_eq text (239 ∷ 187 ∷ 191 ∷ []) then byte_order_text
    else []

-- the first token alone tells what the file is
unfoldable pub whole_file_text : List ℕ → ℕ → List ℕ
whole_file_text text token = if token == 0 then file_text text else []

-- ---- the whole
unfoldable pub syntax_text : List ℕ → List Token → Expected → ℕ → List ℕ
syntax_text text tokens expected token =
    wrong_text text tokens token ++ listed_text expected ++ help_text (slip_at text tokens expected token) expected (kind_of tokens token)
    ++ whole_file_text text token
