-- The places of a machine, as what they stand for.
use Rattle.std.specs.Prelude.{◌≡◌, ℕ, ◌<◌, ◌≤◌, Bool, true, false, List, [], length, slice_index_or, nat_lt, is_none}
use Rattle.pr_stripe.specs.declared.rows.Row.{Row}
use Rattle.pr_stripe.specs.Rows.{shown}
use Rattle.pr_machine_refines.specs.Spots.{Spot, Bare, Held, Gone, stage_in}
use Rattle.pr_machine.specs.declared.places.StripePlace.{StripePlace}
use Rattle.pr_machine.specs.declared.places.StripePlace.TheVariants as V

abbrev pub seen : {N P : ℕ} → StripePlace N P → Spot (List ℕ) (List ℕ)
seen (V.Blank stripe) = Bare (shown stripe.row)
seen (V.Live stripe) = Held stripe.mark.stage stripe.state.items (shown stripe.row)
seen V.Away = Gone

abbrev pub place_at : {N P : ℕ} → List (StripePlace N P) → ℕ → StripePlace N P
place_at places i = slice_index_or places i V.Away

-- what the stripes are, by their numbers
abbrev pub spots_of : {N P : ℕ} → List (StripePlace N P) → ℕ → Spot (List ℕ) (List ℕ)
spots_of places i = seen (place_at places i)

-- the state rows of a store, by the numbers of their stages
abbrev pub rows_of : List (List ℕ) → ℕ → List ℕ
rows_of store s = slice_index_or store s []

-- a stripe that is there, with a stage of these n if it has one
abbrev pub is_here : {N P : ℕ} → ℕ → StripePlace N P → Bool
is_here n (V.Blank stripe) = true
is_here n (V.Live stripe) = nat_lt stripe.mark.stage n
is_here n V.Away = false

abbrev pub IsHere : {N P : ℕ} → ℕ → StripePlace N P → Type 0
IsHere n place = is_here n place ≡ true

-- every place has its stripe
abbrev pub AreHere : {N P : ℕ} → ℕ → List (StripePlace N P) → Type 0
AreHere n places = (i : ℕ) → i < length places → IsHere n (place_at places i)

-- a blank stripe that shows a bubble
abbrev pub is_bare : {N P : ℕ} → StripePlace N P → Bool
is_bare (V.Blank stripe) = is_none (shown stripe.row)
is_bare (V.Live stripe) = false
is_bare V.Away = false

abbrev pub AreBare : {N P : ℕ} → List (StripePlace N P) → Type 0
AreBare places = (i : ℕ) → i < length places → is_bare (place_at places i) ≡ true

-- a place whose stripe is there
abbrev pub is_there : {N P : ℕ} → StripePlace N P → Bool
is_there (V.Blank stripe) = true
is_there (V.Live stripe) = true
is_there V.Away = false

-- the bytes of a row, whether it is valid or not
abbrev pub bytes_of : {N P : ℕ} → Row N P → List ℕ
bytes_of row = row.bytes.items

-- from this place on no stripe has a stage
abbrev pub AreIdle : ℕ → (ℕ → Spot (List ℕ) (List ℕ)) → Type 0
AreIdle live spots = (i : ℕ) → live ≤ i → is_none (stage_in (spots i)) ≡ true
