-- A text without the lines of its log.
use Rattle.std.specs.Prelude.{◌≡◌, ◌==◌, ℕ, nat_le, Bool, true, false, List, [], ◌∷◌, take, if◌then◌else◌}
use Rattle.pr_edge.specs.Tape.{Tape, Appends}

-- a line of the log begins with a small letter, and one of results with none
abbrev pub is_logged : Bool → Bool → ℕ → Bool
is_logged begins logged byte = if begins then nat_le 97 byte else logged

abbrev pub unless : Bool → ℕ → List ℕ → List ℕ
unless logged byte text = if logged then text else byte ∷ text

-- the bytes of a text that stand in no line of the log: whether a line begins here, and else whether one of the log goes on
unfoldable pub unlogged_from : Bool → Bool → List ℕ → List ℕ
unlogged_from begins logged [] = []
unlogged_from begins logged (byte ∷ text) =
    unless (is_logged begins logged byte) byte (unlogged_from (byte == 10) (is_logged begins logged byte) text)

-- a text without the lines of its log, where it has one
abbrev pub without_log : Bool → List ℕ → List ℕ
without_log log text = if log then unlogged_from true false text else text

-- the output gained a text that is these lines without the log
pub record GainsLines (log : Bool) (old new : Tape) (lines : List ℕ) : Type 0 where
  pub text : List ℕ
  pub gained : Appends old new text
  pub are : without_log log text ≡ lines

-- the output gained a text that is some first bytes of these lines without the log
pub record GainsFirst (log : Bool) (old new : Tape) (lines : List ℕ) : Type 0 where
  pub text : List ℕ
  pub gained : Appends old new text
  pub count : ℕ
  pub are : without_log log text ≡ take count lines
