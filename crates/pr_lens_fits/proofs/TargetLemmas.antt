-- Texts that end earlier, with an output more.
use Rattle.std.proofs.Common.{◌≡◌, ◌∙◌, ◌≢◌, ℕ, Bool, None, Some, List, sym, inr}
use Rattle.pr_base.specs.declared.caps.Cap.{Cap}
use Rattle.pr_flat.specs.declared.flat.Flat.{Flat}
use Rattle.pr_cut_units.specs.Flats.{flat_net}
use Rattle.pr_cut_units.specs.Nets.{limit_passed}
use Rattle.pr_lens_fits.specs.Targets.{HasFewUnits}
use Rattle.pr_lens_fits.specs.Unfits.{IsReadyOf}
use Rattle.pr_lens_fits.proofs.UnfitLemmas.{of_net}

-- a net that passes no limit, or another one
pub other_net : (narrowed : Bool) (text : List ℕ) (flat : Flat) (widths : List ℕ) → IsReadyOf narrowed text flat widths → limit_passed 64 (flat_net flat widths) ≢ Some Cap.Units → HasFewUnits narrowed text
other_net narrowed text flat widths r is = inr (inr (record {
  program = r.program;
  given = r.given;
  has = r.has;
  are = of_net (λ net. limit_passed 64 net ≢ Some Cap.Units) narrowed r.program r.given flat widths r.are is;
}))

pub within_limits : (narrowed : Bool) (text : List ℕ) (flat : Flat) (widths : List ℕ) → IsReadyOf narrowed text flat widths → limit_passed 64 (flat_net flat widths) ≡ None → HasFewUnits narrowed text
within_limits narrowed text flat widths r is = other_net narrowed text flat widths r (λ many. (let both = sym is ∙ many in cc))

pub other_limit : (narrowed : Bool) (text : List ℕ) (flat : Flat) (widths : List ℕ) (which : Cap) → IsReadyOf narrowed text flat widths → limit_passed 64 (flat_net flat widths) ≡ Some which → which ≢ Cap.Units → HasFewUnits narrowed text
other_limit narrowed text flat widths which r is other = other_net narrowed text flat widths r (λ many. other (let both = sym is ∙ many in cc))
