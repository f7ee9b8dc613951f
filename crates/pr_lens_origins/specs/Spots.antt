-- Where the names of the streams of a program stand in its text.
use Rattle.std.specs.Prelude.{ℕ, ◌+◌, ◌-◌, ◌&&◌, Bool, true, false, List, take, fold, filter, map, length, count_by, get_or, if◌then◌else◌}
use Rattle.std.specs.List.{range_with_len}
use Rattle.pr_lang.specs.declared.tokens.Keyword.TheVariants as keyword
use Rattle.pr_lang.specs.declared.tokens.Kind.{Kind}
use Rattle.pr_lang.specs.declared.tokens.Kind.TheVariants.{Word}
use Rattle.pr_lang.specs.declared.tokens.Token.{Token}
use Rattle.pr_lang.specs.declared.trees.Program.{Program}
use Rattle.pr_lang.specs.Spelling.{is_line_feed}
use Rattle.pr_lang.specs.Tokens.{tokens_of}
use Rattle.pr_lens_source.specs.Kinds.{is_name}
use Rattle.pr_lens_source.specs.Tokens.{end_of, kind_of, start_of}
use Rattle.pr_lens_origins.specs.declared.spots.Cursor.{Cursor}
use Rattle.pr_lens_origins.specs.declared.spots.Spot.{Spot}
use Rattle.pr_lens_origins.specs.Numbers.{numbers_of}

-- ---- names
-- the name behind this word is that of a stream
abbrev pub names_stream : Kind → Bool
names_stream (Word keyword.Input) = true
names_stream (Word keyword.Output) = true
names_stream (Word keyword.Let) = true
names_stream (Word keyword.Rec) = true
names_stream _ = false

-- a token is the name of a stream, where that is introduced
unfoldable pub is_stream_name : List Token → ℕ → Bool
is_stream_name tokens k = is_name (kind_of tokens k) && names_stream (kind_of tokens (k - 1))

-- all such tokens, in the order of the text
unfoldable pub name_tokens : List Token → List ℕ
name_tokens tokens = filter (is_stream_name tokens) (range_with_len 0 (length tokens))

-- ---- lines and columns, both from 1
-- the number of the line in which a byte stands that has these before it
unfoldable pub line_behind : List ℕ → ℕ
line_behind bytes = count_by is_line_feed bytes + 1

-- its place in the line: a line feed begins a new one
abbrev pub next_column : ℕ → ℕ → ℕ
next_column column byte = if is_line_feed byte then 1 else column + 1

unfoldable pub column_behind : List ℕ → ℕ
column_behind bytes = fold next_column 1 bytes

-- the place behind so many bytes of a text
abbrev pub cursor_at : List ℕ → ℕ → Cursor
cursor_at text offset = record { offset = offset; line = line_behind (take offset text); column = column_behind (take offset text) }

-- the place behind one byte more
abbrev pub cursor_behind : Cursor → ℕ → Cursor
cursor_behind cursor byte = record {
  offset = cursor.offset + 1;
  line = if is_line_feed byte then cursor.line + 1 else cursor.line;
  column = next_column cursor.column byte;
}

-- ---- places
-- the place of a token
abbrev pub spot_from : Cursor → ℕ → Spot
spot_from cursor end = record { line = cursor.line; column = cursor.column; end_column = cursor.column + (end - cursor.offset) }

unfoldable pub token_spot : List ℕ → List Token → ℕ → Spot
token_spot text tokens k = spot_from (cursor_at text (start_of text tokens k)) (end_of text tokens k)

-- the place of the name of this number among the names of streams in a text, and the text's end behind the last
unfoldable pub name_spot : List ℕ → ℕ → Spot
name_spot text number = token_spot text (tokens_of text) (get_or (name_tokens (tokens_of text)) number (length (tokens_of text)))

-- for each stream instance of a program the place of its name
abbrev pub spots_of : List ℕ → Program → List Spot
spots_of text program = map (name_spot text) (numbers_of program)
