-- The code's classes of bytes and pieces, as the definitions of tokens see them.
use Rattle.std.specs.Prelude.{ℕ, Bool, not}
use Rattle.pr_lang.specs.Spelling.{is_letter, is_name_byte, is_digit, is_hex_digit, is_line_feed}
use Rattle.pr_lang.specs.Tokens as lang
use Rattle.pr_parse_lex.specs.declared.numbers.ByteClass.{ByteClass}
use Rattle.pr_parse_lex.specs.declared.numbers.ByteClass.TheVariants.{Letter, NameByte, Digit, HexDigit, InComment}
use Rattle.pr_parse_lex.specs.declared.pieces.Piece.{Piece}
use Rattle.pr_parse_lex.specs.declared.pieces.Piece.TheVariants.{Gap, Whole, Broken}

abbrev pub passes : ByteClass → ℕ → Bool
passes Letter c = is_letter c
passes NameByte c = is_name_byte c
passes Digit c = is_digit c
passes HexDigit c = is_hex_digit c
passes InComment c = not (is_line_feed c)

abbrev pub piece_seen : Piece → lang.Piece
piece_seen (Gap size) = lang.Gap size
piece_seen (Whole kind size) = lang.Whole kind size
piece_seen (Broken size) = lang.Broken size
