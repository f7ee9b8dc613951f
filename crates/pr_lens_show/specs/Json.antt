-- Strings in JSON.
use Rattle.std.specs.Prelude.{ℕ, ◌==◌, nat_le, List, [], ◌∷◌, ◌++◌, codes, if◌then◌else◌}
use Rattle.std.specs.List.{flat_map}
use Rattle.pr_log.specs.Lines.{hex_byte}

-- what is below a blank is escaped by its number
abbrev pub other_byte : ℕ → List ℕ
other_byte byte = if nat_le 32 byte then byte ∷ [] else codes "\\u00" ++ hex_byte byte

-- a quotation mark, a backslash and a line feed have short escapes
abbrev pub json_byte : ℕ → List ℕ
json_byte byte =
    if byte == 34 then codes "\\\""
    else if byte == 92 then codes "\\\\"
    else if byte == 10 then codes "\\n"
    else other_byte byte

-- a string, in quotation marks
unfoldable pub json_string : List ℕ → List ℕ
json_string bytes = codes "\"" ++ flat_map json_byte bytes ++ codes "\""
