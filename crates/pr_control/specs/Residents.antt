-- Where a stage is and when it computes, said by events alone.
use Rattle.std.specs.Prelude.{◌≡◌, ℕ, ◌<◌, Some}
use Rattle.pr_control.specs.Time.{event, spares}

-- event u brought stage s into stripe i, and is the last event before cycle t that fell on it
pub record IsLast (v p t i s u : ℕ) : Type 0 where
  pub earlier : u < t
  pub brought : event v p u ≡ Some (s, i)
  pub last : (w m : ℕ) → u < w → w < t → event v p w ≡ Some (m, i) → ⊥

-- stage s is resident in stripe i at cycle t: the last event before t on this stripe brought it
abbrev pub Resides : ℕ → ℕ → ℕ → ℕ → ℕ → Type 0
Resides v p t s i = (u : ℕ) × IsLast v p t i s u

-- stage s computes in stripe i in cycle t: it is resident there, and event t does not fall on this stripe
pub record Computes (v p t s i : ℕ) : Type 0 where
  pub resides : Resides v p t s i
  pub spared : spares (event v p t) i

-- stage s computes in cycle t
abbrev pub Active : ℕ → ℕ → ℕ → ℕ → Type 0
Active v p t s = (i : ℕ) × Computes v p t s i
