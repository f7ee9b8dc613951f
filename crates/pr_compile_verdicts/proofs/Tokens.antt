-- The words of a text: their numbers have 64 bits, and there are no more of them than the text has bytes, and one.
use Rattle.std.proofs.Common.{◌≡◌, ◌+◌, ◌-◌, ◌^◌, ◌<◌, ◌≤◌, ℕ, zero, suc, Bool, true, false, cond, not, ◌||◌, nat_eq, nat_le, Option, Some, None, List, [], ◌∷◌, length, take, drop, slice_range, codes, refl, arith}
use Rattle.std.specs.List.{AllByRecursion, prefix_len, starts_with}
use Rattle.std.proofs.lemmas.Bool.{leb-false}
use Rattle.std.proofs.lemmas.List.{length-map}
use Rattle.pr_lang.specs.declared.tokens.Keyword.{Keyword}
use Rattle.pr_lang.specs.declared.tokens.Symbol.{Symbol}
use Rattle.pr_lang.specs.declared.tokens.Kind.{Kind}
use Rattle.pr_lang.specs.declared.tokens.Kind.TheVariants.{Name, Number, Word, Mark, End, Bad}
use Rattle.pr_lang.specs.declared.tokens.Token.{Token}
use Rattle.pr_lang.specs.Spelling.{is_blank, is_line_feed, is_digit, is_hex_digit, is_letter, is_name_byte}
use Rattle.pr_lang.specs.Tokens.{Piece, Gap, Whole, Broken, keyword_of, symbol_of, letter_first, number_after, number_piece, decimal_piece, hex_piece, word_kind, word_piece, symbol_piece, piece_from, token, tokens_from, tokens_of}
use Rattle.pr_lang.specs.Word.{word_by, word_of, words, words_of}
use Rattle.pr_compile_verdicts.proofs.Programs.{ShortWord, Words}

-- ---- pieces
abbrev ShortKind : Kind → Type 0
ShortKind (Number n) = n < 2 ^ 64
ShortKind kind = Unit {0}

abbrev ShortPiece : Piece → Type 0
ShortPiece (Gap size) = Unit {0}
ShortPiece (Whole kind size) = ShortKind kind
ShortPiece (Broken size) = Unit {0}

either-piece : (b : Bool) (p q : Piece) → ShortPiece p → ShortPiece q → ShortPiece (cond b p q)
either-piece true p q one other = one
either-piece false p q one other = other

tested : (letter : Bool) (n size : ℕ) → ShortPiece (cond (letter || nat_le (2 ^ 64) n) (Broken size) (Whole (Number n) size))
tested true n size = tt
tested false n size = by_test (nat_le (2 ^ 64) n) refl where
  by_test : (b : Bool) → nat_le (2 ^ 64) n ≡ b → ShortPiece (cond b (Broken size) (Whole (Number n) size))
  by_test true is = tt
  by_test false is = leb-false (2 ^ 64) n is

number-piece : (base skip size : ℕ) (text : List ℕ) → ShortPiece (number_piece base skip size text)
number-piece base skip size text = tested (letter_first (drop size text)) (number_after base 0 (take (size - skip) (drop skip text))) size

hex-piece : (text : List ℕ) → ShortPiece (hex_piece text)
hex-piece text =
    let count = prefix_len is_hex_digit (drop 2 text) in
    either-piece (nat_eq count 0) (Broken 2) (number_piece 16 2 (2 + count) text) tt (number-piece 16 2 (2 + count) text)

word-kind : (o : Option Keyword) → ShortKind (word_kind o)
word-kind None = tt
word-kind (Some k) = tt

symbol-piece : (o : Option Symbol) → ShortPiece (symbol_piece o)
symbol-piece None = tt
symbol-piece (Some s) = tt

piece-from : (c : ℕ) (text : List ℕ) → ShortPiece (piece_from c text)
piece-from c text =
    let last = symbol_piece (symbol_of text) in
    let digits = cond (is_digit c) (decimal_piece text) last in
    let hex = cond (starts_with nat_eq text (codes "0x")) (hex_piece text) digits in
    let names = cond (is_letter c) (word_piece text) hex in
    let comment = Gap (prefix_len (λ b. not (is_line_feed b)) text) in
    either-piece (is_blank c) (Gap 1) (cond (starts_with nat_eq text (codes "//")) comment names) tt
    (either-piece (starts_with nat_eq text (codes "//")) comment names tt
    (either-piece (is_letter c) (word_piece text) hex (word-kind (keyword_of (take (prefix_len is_name_byte text) text)))
    (either-piece (starts_with nat_eq text (codes "0x")) (hex_piece text) digits (hex-piece text)
    (either-piece (is_digit c) (decimal_piece text) last (number-piece 10 0 (prefix_len is_digit text) text) (symbol-piece (symbol_of text))))))

-- ---- tokens and words
record Tokens (bytes : ℕ) (tokens : List Token) : Type 0 where
  short : AllByRecursion (λ (t : Token). ShortKind t.kind) tokens
  few : length tokens ≤ bytes + 1

past_byte : (bytes : ℕ) (tokens : List Token) → Tokens bytes tokens → Tokens (suc bytes) tokens
past_byte bytes tokens t = record { short = t.short; few = (let few = t.few in omega (arith, few)) }

tokens-from : (place skip : ℕ) (cs : List ℕ) → Tokens (length cs) (tokens_from place skip cs)
unfolding tokens_from
tokens-from place skip [] = record { short = (tt, tt); few = omega arith }
tokens-from place (suc skip) (c ∷ cs) = past_byte (length cs) (tokens_from (suc place) skip cs) (tokens-from (suc place) skip cs)
tokens-from place zero (c ∷ cs) = go (λ at more. tokens-from at more cs) (piece_from c (c ∷ cs)) (piece-from c (c ∷ cs))
  where
    go : ((at more : ℕ) → Tokens (length cs) (tokens_from at more cs)) → (p : Piece) → ShortPiece p → Tokens (suc (length cs)) (elim p [ Gap size ↦ tokens_from (suc place) (size - 1) cs | Whole kind size ↦ token kind place size ∷ tokens_from (suc place) (size - 1) cs | Broken size ↦ token Bad place size ∷ [] ])
    go rest (Gap size) short = past_byte (length cs) (tokens_from (suc place) (size - 1) cs) (rest (suc place) (size - 1))
    go rest (Whole kind size) short = (let t = rest (suc place) (size - 1) in record { short = (short, t.short); few = (let few = t.few in omega (arith, few)) })
    go rest (Broken size) short = record { short = (tt, tt); few = omega arith }

word-short : (bytes : List ℕ) (kind : Kind) → ShortKind kind → ShortWord (word_by bytes kind)
word-short bytes Name short = tt
word-short bytes (Number n) short = short
word-short bytes (Word k) short = tt
word-short bytes (Mark s) short = tt
word-short bytes End short = tt
word-short bytes Bad short = tt

words-short : (text : List ℕ) (tokens : List Token) → AllByRecursion (λ (t : Token). ShortKind t.kind) tokens → AllByRecursion ShortWord (words text tokens)
words-short text [] all = tt
words-short text (t ∷ tokens) all = (word-short (slice_range text t.start t.end) t.kind all.0, words-short text tokens all.1)

pub text-words : (text : List ℕ) → length text ≤ 1048576 → Words (words_of text)
text-words text short =
    let t = tokens-from 0 0 text in
    let few = t.few in
    let n = length-map (tokens_of text) (word_of text) in
    record { short = words-short text (tokens_of text) t.short; few = omega (arith, few, n, short) }
