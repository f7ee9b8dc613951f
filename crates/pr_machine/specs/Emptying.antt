-- What the store has once the stripes were emptied into it.
use Rattle.std.specs.Prelude.{◌≡◌, ℕ, ◌<◌, ◌⊎◌, Some}
use Rattle.pr_machine_refines.specs.Spots.{Spot, Held, shows, stage_in}

-- the store's row of a stage once p stripes were emptied into it: as it was where no stripe held the stage, and else the
-- state in which a stripe held it
abbrev pub IsEmptied : {S R : Type 0} → ℕ → (ℕ → Spot S R) → ℕ → S → S → Type 0
IsEmptied p spots s was now = ((now ≡ was) × ((i : ℕ) → i < p → stage_in (spots i) ≡ Some s → ⊥)) ⊎ ((i : ℕ) × (i < p) × (spots i ≡ Held s now (shows (spots i))))
