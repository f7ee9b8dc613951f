-- The turns of a stall text.
use Rattle.std.specs.Prelude.{ℕ, ◌==◌, ◌||◌, Bool, true, false, List, [], ◌∷◌, drop, Option, Some, None, if◌then◌else◌}
use Rattle.std.specs.List.{filter_map}
use Rattle.pr_samples.specs.declared.stall.Held.{Held}
use Rattle.pr_samples.specs.declared.stall.Stall.{Stall}

abbrev pub held : Bool → Bool → Held
held input output = record { input = input; output = output }

-- a turn in which both sides are free
abbrev pub free : Held
free = held false false

-- the turn of a byte: `.` is free, `i` holds the input side, `o` the output side, `b` both; other bytes are no turn
abbrev pub turn_of : ℕ → Option Held
turn_of b =
    if b == 46 then Some free else
    (if b == 105 then Some (held true false) else
    (if b == 111 then Some (held false true) else
    (if b == 98 then Some (held true true) else None)))

-- the bytes that a stall text may have: those of turns, CR and LF
abbrev pub is_stall_byte : ℕ → Bool
is_stall_byte b = b == 46 || b == 105 || b == 111 || b == 98 || b == 13 || b == 10

-- the turns of a text
unfoldable pub turns_of : List ℕ → List Held
turns_of text = filter_map turn_of text

-- the turns of a stall text that are left
abbrev pub turns_left : Stall → List Held
turns_left s = turns_of (drop s.at s.text.items)

-- the next turn, which is free where none is left
abbrev pub next_turn : List Held → Held
next_turn [] = free
next_turn (turn ∷ turns) = turn
