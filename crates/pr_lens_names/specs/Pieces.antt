-- Pieces of messages.
use Rattle.std.specs.Prelude.{ℕ, ◌+◌, Bool, true, false, List, ◌++◌, codes, decimal, fold, take, if◌then◌else◌}
use Rattle.std.specs.List.{count_by}
use Rattle.pr_lang.specs.declared.tokens.Kind.{Kind}
use Rattle.pr_lang.specs.declared.tokens.Kind.TheVariants.{End}
use Rattle.pr_lang.specs.declared.tokens.Token.{Token}
use Rattle.pr_lang.specs.Spelling.{is_line_feed}
use Rattle.pr_lens_source.specs.Tokens.{kind_of, start_of, bytes_of}

abbrev pub is_end : Kind → Bool
is_end End = true
is_end _ = false

unfoldable pub quoted : List ℕ → List ℕ
quoted bytes = codes "`" ++ bytes ++ codes "`"

-- a token as it is written, in quotes; the end of the text as a sentence begins with it
unfoldable pub token_text : List ℕ → List Token → ℕ → List ℕ
token_text text tokens token = if is_end (kind_of tokens token) then codes "The end of the text" else quoted (bytes_of text tokens token)

-- ---- lines and columns, from 1
unfoldable pub line_of : List ℕ → ℕ → ℕ
line_of text offset = count_by is_line_feed (take offset text) + 1

-- a byte further to the right, and at a line's begin behind a line feed
abbrev pub column_behind : ℕ → ℕ → ℕ
column_behind column byte = if is_line_feed byte then 1 else column + 1

unfoldable pub column_of : List ℕ → ℕ → ℕ
column_of text offset = fold column_behind 1 (take offset text)

-- the line and the column of a token
unfoldable pub place_text : List ℕ → List Token → ℕ → List ℕ
place_text text tokens token =
    codes "line " ++ decimal (line_of text (start_of text tokens token)) ++ codes " column " ++ decimal (column_of text (start_of text tokens token))
