-- Numbers that are shown as two's complement.
use Rattle.std.specs.Prelude.{ℕ, ◌-◌, ◌*◌, ◌^◌, ◌&&◌, List, ◌∷◌, Option, Some, None, decimal, if◌then◌else◌, nat_le}
use Rattle.pr_lens_tracks.specs.declared.looks.Look.{Look}

-- the least number of so many bits whose highest bit is 1
abbrev pub half_of : ℕ → ℕ
half_of width = 2 ^ (width - 1)

-- how far below 0 a number stands, where it is shown as a negative one: 3 for 253 of eight bits
abbrev pub below_zero : Look → ℕ → Option ℕ
below_zero look number =
    if look.signed && nat_le (half_of look.width) number then Some (2 * half_of look.width - number) else None

abbrev pub signed_text : ℕ → Option ℕ → List ℕ
signed_text number None = decimal number
signed_text number (Some below) = 45 ∷ decimal below

-- a number in decimal digits, with a `-` before it where it is a negative one
abbrev pub number_text : Look → ℕ → List ℕ
number_text look number = signed_text number (below_zero look number)
