-- The definitions at work.
use Rattle.std.proofs.Common.{◌≡◌, Some, None, true, false, [], ◌∷◌, refl}
use Rattle.pr_control.specs.Time.{event, occupant, turn}
use Rattle.pr_control.specs.Counts.{cycles_of}
use Rattle.pr_control.specs.Drain.{drain}
use Rattle.pr_control.specs.StateRows.{rows_of, rows_in}

-- seven stages on three stripes
first_event : event 7 3 0 ≡ Some (0, 0)
first_event = refl

event_eight : event 7 3 8 ≡ Some (1, 2)
event_eight = refl

-- three stages on five stripes, and on three: no event follows the third
last_event : event 3 5 2 ≡ Some (2, 2)
last_event = refl

no_event : event 3 5 3 ≡ None
no_event = refl

no_event_either : event 3 3 3 ≡ None
no_event_either = refl

-- stripe 0 of three: stage 0 comes in cycle 0, and stage 3 in cycle 3
before_three : occupant 7 3 0 3 ≡ Some 0
unfolding occupant
before_three = refl

after_three : occupant 7 3 0 4 ≡ Some 3
unfolding occupant
after_three = refl

-- stage 0 of five on three stripes computes in cycles 1, 2, 6 and 7
turns_of_zero : turn 5 3 0 ∷ turn 5 3 1 ∷ turn 5 3 2 ∷ turn 5 3 3 ∷ turn 5 3 4 ∷ turn 5 3 5 ∷ turn 5 3 6 ∷ turn 5 3 7 ∷ turn 5 3 8 ∷ []
    ≡ false ∷ true ∷ true ∷ false ∷ false ∷ false ∷ true ∷ true ∷ false ∷ []
unfolding turn
turns_of_zero = refl

-- whole runs
three_on_two : cycles_of 5 2 3 ≡ 16
three_on_two = refl

four_on_three : cycles_of 5 3 4 ≡ 12
four_on_three = refl

four_on_five : cycles_of 5 5 4 ≡ 9
four_on_five = refl

long_line : cycles_of 2001 16 1000 ≡ 134077
long_line = refl

nothing : cycles_of 5 2 0 ≡ 0
nothing = refl

drains : drain 5 5 4 ∷ drain 5 3 4 ∷ drain 5 3 5 ∷ drain 5 2 0 ∷ [] ≡ 9 ∷ 15 ∷ 20 ∷ 5 ∷ []
drains = refl

-- three rows of two bytes, and a byte that makes no row
rows : rows_in 2 (1 ∷ 2 ∷ 3 ∷ 4 ∷ 5 ∷ 6 ∷ 7 ∷ []) ≡ (1 ∷ 2 ∷ []) ∷ (3 ∷ 4 ∷ []) ∷ (5 ∷ 6 ∷ []) ∷ []
unfolding rows_of
rows = refl
