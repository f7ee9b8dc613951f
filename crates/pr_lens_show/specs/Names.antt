-- Names of files, as a line tells them and as a shell takes them.
use Rattle.std.specs.Prelude.{ℕ, ◌==◌, ◌&&◌, ◌||◌, Bool, false, nat_le, nat_lt, List, [], ◌∷◌, ◌++◌, codes, if◌then◌else◌}
use Rattle.std.specs.List.{flat_map, list_all}
use Rattle.pr_log.specs.Lines.{hex_byte}

-- ---- in a line
-- a terminal takes it as a command: it is below the blank, or the byte of the delete key
abbrev pub is_control : ℕ → Bool
is_control byte = nat_lt byte 32 || byte == 127

-- such a byte as an escape, any other one as it is
abbrev pub name_byte : ℕ → List ℕ
name_byte byte = if is_control byte then codes "\\x" ++ hex_byte byte else byte ∷ []

abbrev pub name_text : List ℕ → List ℕ
name_text name = flat_map name_byte name

-- ---- in a shell
-- a shell takes it as it is: one of  + , - . / 0 to 9 :  or of  @ A to Z,  a small letter,  _  or a byte of a letter beyond ASCII
abbrev pub is_bare : ℕ → Bool
is_bare byte = (nat_le 43 byte && nat_le byte 58) || (nat_le 64 byte && nat_le byte 90) || (nat_le 97 byte && nat_le byte 122) || byte == 95 || nat_le 128 byte

-- a quotation mark ends the quoted text, stands behind a backslash, and begins quoted text again
abbrev pub quoted_byte : ℕ → List ℕ
quoted_byte byte = if byte == 39 then codes "'\\''" else name_byte byte

-- a name, in quotation marks where it has another byte than these
unfoldable pub quoted : List ℕ → List ℕ
quoted name = if list_all is_bare name then name else codes "'" ++ flat_map quoted_byte name ++ codes "'"

-- a name that begins as an option does has its folder before it
abbrev pub begins_with_dash : List ℕ → Bool
begins_with_dash [] = false
begins_with_dash (byte ∷ bytes) = byte == 45

abbrev pub folder_before : List ℕ → List ℕ
folder_before name = if begins_with_dash name then codes "./" else []

abbrev pub word_of : List ℕ → List ℕ
word_of name = folder_before name ++ quoted name
