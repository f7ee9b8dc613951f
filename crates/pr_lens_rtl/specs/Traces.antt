-- What stands in the vectors of a module, as the clocked pipeline.
use Rattle.std.specs.Prelude.{◌≡◌, ℕ, zero, suc, ◌-◌, ◌*◌, ◌==◌, ◌&&◌, ◌||◌, not, Bool, true, List, [], ◌∷◌, ◌++◌, length, if◌then◌else◌}
use Rattle.pr_conf.specs.Rules.{bytes_in}
use Rattle.pr_conf.specs.Shape.{Shape}
use Rattle.pr_lens_rtl.specs.Clocked.{Held, Pins}
use Rattle.pr_lens_rtl.specs.declared.vectors.Part.{Part}
use Rattle.pr_lens_rtl.specs.declared.vectors.Net.{Net}
use Rattle.pr_lens_rtl.specs.Verilog.{Values, Module, IsClock}
use Rattle.pr_lens_rtl.specs.Module.{taps_of}

-- the numbers at n places from a place on
abbrev pub at_places : (ℕ → ℕ) → ℕ → ℕ → List ℕ
at_places f from zero = []
at_places f from (suc n) = f from ∷ at_places f (suc from) n

abbrev pub is_one : ℕ → Bool
is_one n = n == 1

-- what stands at stage s
abbrev pub held : ℕ → ℕ → Values → ℕ → Held (List ℕ) (List ℕ)
held N P now s = record {
  state = at_places (λ k. now (Net.Of Part.State s k)) 0 N;
  valid = is_one (now (Net.Valid s));
  row = at_places (λ k. now (Net.Of Part.Row s k)) 0 ((P - 1) * N);
}

-- what stands at v stages from this number on
abbrev pub all_held : ℕ → ℕ → Values → ℕ → ℕ → List (Held (List ℕ) (List ℕ))
all_held N P now s zero = []
all_held N P now s (suc v) = held N P now s ∷ all_held N P now (suc s) v

-- the bytes of the sample at the inputs
abbrev pub sample_at : Shape → Values → List ℕ
sample_at c now = at_places (λ k. now (Net.In k)) 0 (bytes_in c.inputs)

abbrev pub pins : Shape → Values → Pins (List ℕ)
pins c now = record { valid = is_one (now Net.InValid); row = sample_at c now; ready = is_one (now Net.OutReady) }

-- the bytes of the result at the outputs
abbrev pub result_at : Shape → Values → List ℕ
result_at c now = at_places (λ k. now (Net.Out k)) 0 (length (taps_of c))

-- the module is ready where no result stands at its end, and where the reader is ready for it
abbrev pub IsReadyForMore : Values → Type 0
IsReadyForMore now = is_one (now Net.InReady) ≡ (not (is_one (now Net.OutValid)) || is_one (now Net.OutReady))

-- A run: what the vectors hold at first, and after each of its clocks.
-- the samples that enter in its clocks: those that are offered and that the module is ready for
abbrev pub samples_in : Shape → Values → List Values → List (List ℕ)
samples_in c now [] = []
samples_in c now (after ∷ rest) = (if is_one (now Net.InReady) && is_one (now Net.InValid) then sample_at c now ∷ [] else []) ++ samples_in c after rest

-- the results that leave in its clocks: those that are valid and that the reader is ready for
abbrev pub results_in : Shape → Values → List Values → List (List ℕ)
results_in c now [] = []
results_in c now (after ∷ rest) = (if is_one (now Net.OutReady) && is_one (now Net.OutValid) then result_at c now ∷ [] else []) ++ results_in c after rest

-- a run of a module without a reset, from what the vectors hold at first: a clock after each of these
abbrev pub IsRun : Module → Values → List Values → Type 0
IsRun m now [] = Unit {0}
IsRun m now (after ∷ rest) = IsClock m now after × (now Net.Reset ≡ 0) × IsRun m after rest

-- a run that begins with a reset; the reset itself is not among the clocks
pub record IsRunFromReset (m : Module) (first now : Values) (rest : List Values) : Type 0 where
  pub reset : first Net.Reset ≡ 1
  pub clock : IsClock m first now
  pub run : IsRun m now rest

-- what the vectors hold when a run ends
abbrev pub end_of : Values → List Values → Values
end_of now [] = now
end_of now (after ∷ rest) = end_of after rest

-- no sample is offered in the clocks of a run
abbrev pub offers_none : Values → List Values → Bool
offers_none now [] = true
offers_none now (after ∷ rest) = not (is_one (now Net.InValid)) && offers_none after rest

-- in how many of its clocks the module is ready for a sample
abbrev pub ready_clocks : Values → List Values → ℕ
ready_clocks now [] = 0
ready_clocks now (after ∷ rest) = if is_one (now Net.InReady) then suc (ready_clocks after rest) else ready_clocks after rest

-- the ports that are inputs hold the same
pub record AgreeAtInputs (first now : Values) : Type 0 where
  pub reset : now Net.Reset ≡ first Net.Reset
  pub in_valid : now Net.InValid ≡ first Net.InValid
  pub out_ready : now Net.OutReady ≡ first Net.OutReady
  pub bytes : (k : ℕ) → now (Net.In k) ≡ first (Net.In k)

-- so do the registers
pub record AgreeAtRegisters (first now : Values) : Type 0 where
  pub valid : (s : ℕ) → now (Net.Valid s) ≡ first (Net.Valid s)
  pub states : (s k : ℕ) → now (Net.Of Part.State s k) ≡ first (Net.Of Part.State s k)
  pub rows : (s k : ℕ) → now (Net.Of Part.Row s k) ≡ first (Net.Of Part.Row s k)
