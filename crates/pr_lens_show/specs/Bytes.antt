-- Bytes, as a terminal can take them.
use Rattle.std.specs.Prelude.{ℕ, ◌==◌, ◌&&◌, ◌||◌, Bool, nat_le, List, [], ◌∷◌, ◌++◌, codes, if◌then◌else◌}
use Rattle.std.specs.List.{flat_map}
use Rattle.pr_log.specs.Lines.{hex_byte}

-- printable ASCII or a tab
abbrev pub is_plain : ℕ → Bool
is_plain byte = byte == 9 || (nat_le 32 byte && nat_le byte 126)

-- any other byte as an escape
abbrev pub shown_byte : ℕ → List ℕ
shown_byte byte = if is_plain byte then byte ∷ [] else codes "\\x" ++ hex_byte byte

abbrev pub shown : List ℕ → List ℕ
shown bytes = flat_map shown_byte bytes
