-- Findings about a text.
use Rattle.std.specs.Prelude.{◌≡◌, ℕ, Bool, true, false, ◌+◌, ◌-◌, min, nat_eq, List, ◌++◌, length, take, codes, decimal, if◌then◌else◌}
use Rattle.std.specs.List.{ends_with}
use Rattle.pr_lens_text.specs.declared.lines.Line.{Line}
use Rattle.pr_lens_text.specs.declared.places.Place.{Place}
use Rattle.pr_lens_text.specs.Places.{IsLine, IsPlace}
use Rattle.pr_lens_show.specs.declared.findings.Finding.{Finding}
use Rattle.pr_lens_show.specs.declared.findings.Severity.{Severity}
use Rattle.pr_lens_show.specs.Json.{json_string}
use Rattle.pr_lens_show.specs.Lines.{source_text}
use Rattle.pr_lens_show.specs.Names.{name_text}

-- ---- in a terminal
-- name, line and column
unfoldable pub place_text : List ℕ → Place → List ℕ
place_text name place = name_text name ++ codes ":" ++ decimal place.line ++ codes ":" ++ decimal place.column ++ codes ": "

-- the place with the heading, the line with marks, and the message
pub record IsFindingText (name text : List ℕ) (f : Finding) (old new : List ℕ) : Type 0 where
  pub place : Place
  pub is_place : IsPlace text f.start place
  pub line : Line
  pub is_line : IsLine text f.start line
  pub is : new ≡ old ++ place_text name place ++ f.heading.now ++ source_text text line f.start f.end ++ f.message.now

-- ---- as JSON
abbrev pub severity_text : Severity → List ℕ
severity_text Severity.Error = codes "error"
severity_text Severity.Warning = codes "warning"

-- without a line feed at the end
abbrev pub without_end : List ℕ → List ℕ
without_end message = if ends_with nat_eq message (codes "\n") then take (length message - 1) message else message

unfoldable pub where_text : List ℕ → Place → ℕ → List ℕ
where_text name place bytes =
    codes "{\"file\":" ++ json_string name ++ codes ",\"line\":" ++ decimal place.line ++ codes ",\"column\":" ++ decimal place.column
    ++ codes ",\"end_column\":" ++ decimal (min (place.column + bytes) 18446744073709551615)

unfoldable pub what_text : Finding → List ℕ
what_text f =
    codes ",\"severity\":\"" ++ severity_text f.severity ++ codes "\",\"code\":\"" ++ f.code.now ++ codes "\",\"message\":"
    ++ json_string (without_end f.message.now) ++ codes "}\n"

-- an object of JSON, in a line
pub record IsObject (name text : List ℕ) (f : Finding) (old new : List ℕ) : Type 0 where
  pub place : Place
  pub is_place : IsPlace text f.start place
  pub is : new ≡ old ++ where_text name place (f.end - f.start) ++ what_text f

-- ---- either
abbrev pub IsPut : Bool → List ℕ → List ℕ → Finding → List ℕ → List ℕ → Type 0
IsPut true name text f old new = IsObject name text f old new
IsPut false name text f old new = IsFindingText name text f old new
