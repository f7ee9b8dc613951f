-- What is written of accepted programs.
use Rattle.std.specs.Prelude.{◌≡◌, ℕ, Bool, true, false, List, [], codes, if◌then◌else◌}
use Rattle.pr_lens_warn.specs.Findings.{WarnsOf}

-- nothing as JSON
abbrev pub accepted_text : Bool → List ℕ
accepted_text json = if json then [] else codes "accepted\n"

-- the warnings of a text follow, or nothing does where they are left out
abbrev pub WarnsWhere : Bool → Bool → List ℕ → List ℕ → List ℕ → List ℕ → Type 0
WarnsWhere true json name text old new = WarnsOf json name text old new
WarnsWhere false json name text old new = new ≡ old

abbrev pub TellsAccepted : (json warnings : Bool) → (name text written : List ℕ) → Type 0
TellsAccepted json warnings name text written = WarnsWhere warnings json name text (accepted_text json) written
