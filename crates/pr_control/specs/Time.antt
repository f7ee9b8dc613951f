-- The arithmetic of the cycles, for v stages on p stripes: which stage comes into which stripe, and which stages compute.
use Rattle.std.specs.Prelude.{◌≡◌, ℕ, zero, suc, true, false, ◌+◌, ◌-◌, ◌<◌, ◌≤◌, ◌%◌, Bool, ◌&&◌, ◌||◌, ◌==◌, nat_lt, nat_le, Option, Some, None, if◌then◌else◌}

-- ---- places that go round
-- the count after q, which goes round below n
unfoldable pub ahead : ℕ → ℕ → ℕ
ahead n q = (q + 1) % n

-- the place before place q of n: of the first place it is the last
abbrev pub before : ℕ → ℕ → ℕ
before n q = if q == 0 then n - 1 else q - 1

-- where a count that goes round below n stood d + 1 steps before it stood at q
unfoldable pub back : ℕ → ℕ → ℕ → ℕ
back n q d = (q + (n - 1 - d)) % n

-- ---- events
-- event t, as (stage, stripe): with more stages than stripes each cycle has one, and both numbers go round; with no more
-- stages than stripes stage t comes into stripe t while there is a stage t, and then no event follows
abbrev pub event : ℕ → ℕ → ℕ → Option (ℕ × ℕ)
event v p t = if nat_lt p v then Some (t % v, t % p) else (if nat_lt t v then Some (t, t) else None)

-- what stripe i holds after an event, where it held r before
abbrev pub held : Option (ℕ × ℕ) → ℕ → Option ℕ → Option ℕ
held None i r = r
held (Some e) i r = if i == e.1 then Some e.0 else r

-- the stage in stripe i at cycle t: the one that the last event before t on this stripe brought
unfoldable pub occupant : ℕ → ℕ → ℕ → ℕ → Option ℕ
occupant v p i zero = None
occupant v p i (suc t) = held (event v p t) i (occupant v p i t)

-- an event does not fall on stripe i
abbrev pub spares : Option (ℕ × ℕ) → ℕ → Type 0
spares None i = Unit {0}
spares (Some e) i = i ≡ e.1 → ⊥

-- ---- computing
-- Stage s computes in cycle t where this holds at t - s: it does in cycle t what stage 0 did s cycles before
unfoldable pub turn : ℕ → ℕ → ℕ → Bool
turn v p x = nat_lt 0 x && (nat_le v p || nat_lt ((x - 1) % v) (p - 1))

-- ---- what a plan answers
-- an event as the plan gives it: the stripe, and the stage
abbrev pub turned : Option (ℕ × ℕ) → Option (ℕ × ℕ)
turned None = None
turned (Some e) = Some (e.1, e.0)

-- the stripe in which stage s computes in cycle t; none where it does not compute
abbrev pub IsActive : ℕ → ℕ → ℕ → ℕ → Option ℕ → Type 0
IsActive v p t s None = turn v p (t - s) ≡ false
IsActive v p t s (Some i) = (i < p) × (occupant v p i t ≡ Some s) × spares (event v p t) i × (turn v p (t - s) ≡ true)

-- the stripe of this cycle's event, where every cycle has one
abbrev pub IsRing : ℕ → ℕ → ℕ → Option ℕ → Type 0
IsRing v p t None = v ≤ p
IsRing v p t (Some q) = (p < v) × (q ≡ t % p) × (q < p)

-- a stripe and a stage, where there are so many
abbrev pub IsInside : ℕ → ℕ → Option (ℕ × ℕ) → Type 0
IsInside v p None = Unit {0}
IsInside v p (Some e) = (e.0 < p) × (e.1 < v)

-- whether stage s is in a stripe at cycle t
abbrev pub IsResident : ℕ → ℕ → ℕ → ℕ → Bool → Type 0
IsResident v p t s true = (i : ℕ) × (i < p) × (occupant v p i t ≡ Some s)
IsResident v p t s false = (i : ℕ) → i < p → occupant v p i t ≡ Some s → ⊥
