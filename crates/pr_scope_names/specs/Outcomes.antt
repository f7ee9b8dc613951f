-- What comes of a step of the walk: a value, or the first offence; and how the steps follow one another.
use Rattle.std.specs.Prelude.{◌≡◌, ℕ, ◌+◌, Bool, cond, nat_le, List, [], ◌∷◌, Result, Ok, Err, Option, Some, None, MatchResult, ⊤}
use Rattle.pr_scope_names.specs.declared.rules.Rule.{Rule}
use Rattle.pr_scope_names.specs.declared.rules.Rule.TheVariants.{Introduced, Assigned, Kinds, Calls, Steps, Divisors, Entries, Bounds, Recurrences, Ends}
use Rattle.pr_scope_names.specs.declared.rules.Offence.{Offence}
use Rattle.pr_scope_names.specs.declared.rules.Offence.TheVariants.{Turns, Breaks}
use Rattle.pr_scope_names.specs.declared.rules.Stop.{Stop}
use Rattle.pr_scope_names.specs.declared.rules.Stop.TheVariants.{Offends, Memory}
use Rattle.pr_scope_names.specs.declared.counts.Count.{Count}

abbrev pub number_of : Rule → ℕ
number_of Introduced = 1
number_of Assigned = 2
number_of Kinds = 3
number_of Calls = 4
number_of Steps = 5
number_of Divisors = 6
number_of Entries = 7
number_of Bounds = 8
number_of Recurrences = 9
number_of Ends = 10

-- the second step is met only where the first one has a value
abbrev pub and_then : {A B : Type 0} → Result A Offence → (A → Result B Offence) → Result B Offence
and_then (Ok a) f = f a
and_then (Err o) f = Err o

-- the rule is looked at before the rest
abbrev pub provided : {A : Type 0} → Bool → Rule → Result A Offence → Result A Offence
provided test rule rest = cond test rest (Err (Breaks rule))

abbrev pub in_turn : {S : Type 0} → List (S → Result S Offence) → S → Result S Offence
in_turn [] s = Ok s
in_turn (f ∷ fs) s = and_then (f s) (in_turn fs)

abbrev pub optional : Option (Result ℕ Offence) → Result (Option ℕ) Offence
optional None = Ok None
optional (Some o) = and_then o (λ n. Ok (Some n))

-- all values, from left to right
abbrev pub all_of : List (Result ℕ Offence) → Result (List ℕ) Offence
all_of [] = Ok []
all_of (o ∷ os) = and_then o (λ n. and_then (all_of os) (λ ns. Ok (n ∷ ns)))

-- one more turn, and those of a function's body where it is a call
abbrev pub counted : ℕ → Count → Result Count Offence
counted body c =
    cond (nat_le (c.turns + 1 + body) 65536) (Ok (record { turns = c.turns + 1 + body; deepest = c.deepest }))
    (Err Turns)

abbrev pub IsOffence : {A : Type 0} → Stop → Result A Offence → Type 0
IsOffence (Offends o) outcome = outcome ≡ Err o
IsOffence (Memory e) outcome = ⊤

-- what a call answers is this outcome, `value` of what it gives being the outcome's value; or memory was wanting
abbrev pub Gives : {T A : Type 0} → Result T Stop → (T → A) → Result A Offence → Type 0
Gives result value outcome = MatchResult result (λ t. outcome ≡ Ok (value t)) (λ e. IsOffence e outcome)
