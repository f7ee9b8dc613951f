-- The streams of a program with their units, by the passes.
use Rattle.std.proofs.Common.{◌≡◌, ◌≤◌, ℕ, Bool, List, Some, length, subst, inl, inr}
use Rattle.std.specs.Prelude.{IsTrue, IsFalse}
use Rattle.pr_base.specs.declared.caps.Cap.{Cap}
use Rattle.pr_lang.specs.declared.trees.Program.{Program}
use Rattle.pr_flat.specs.declared.flat.Flat.{Flat}
use Rattle.pr_flat.specs.Flats as flats
use Rattle.pr_flat.specs.Shape.{EquationShape}
use Rattle.pr_flat.specs.Facts.{IsFlat}
use Rattle.pr_flat.specs.Widths.{AreWidths}
use Rattle.pr_narrow.specs.Narrowed.{AreNarrowed}
use Rattle.pr_expand_spec.specs.Programs.{equations_of}
use Rattle.pr_cut_units.specs.Equations.{plan_of}
use Rattle.pr_cut_units.specs.Flats.{flat_net, flat_plan}
use Rattle.pr_cut_units.specs.Nets.{limit_passed, net_of}
use Rattle.pr_compile_front.specs.Passed.{HasEquations}
use Rattle.pr_compile.specs.Configured.{OfReadyBy}
use Rattle.pr_lens_fits.specs.Unfits.{AreTold}
use Rattle.pr_lens_fits.proofs.UnfitLemmas.{of_told, ready_told}
use Rattle.pr_lens_probe.specs.declared.probing.Probed.{Probed}
use Rattle.pr_lens_probe.specs.Shown.{Shows}
use Rattle.pr_lens_shares.specs.declared.tallies.Tally.{Tally}
use Rattle.pr_lens_shares.specs.declared.tallies.ShareFault.{ShareFault}
use Rattle.pr_lens_shares.specs.Tallies.{HasNoShares, IsTally, IsTallyIn, IsUncounted, IsUnshown, AreUntold}

pub few_equations : (program : Program) (flat : Flat) → HasEquations program flat → IsFlat (flats.equations_of flat) flat.outputs.items → length (equations_of program).equations ≤ 16384
few_equations program flat has lawful = subst (λ (es : List EquationShape). length es ≤ 16384) has.equations lawful.few

-- the equations of which the net is made
module _ (narrowed : Bool) (program : Program) (flat : Flat) (widths : List ℕ) (ready : Flat) (news : List ℕ) (h : HasEquations program flat) (all : AreWidths (equations_of program).equations widths)
    (narrow : IsTrue narrowed → AreNarrowed (flats.equations_of flat) flat.outputs.items widths (flats.equations_of ready) news)
    (whole : IsFalse narrowed → (ready ≡ flat) × (news ≡ widths)) (outputs : ready.outputs.items ≡ flat.outputs.items) where
  told : OfReadyBy narrowed program widths (λ es ws. AreTold ready news es ws (equations_of program).outputs)
  told = ready_told narrowed program flat widths ready news h all narrow whole outputs

  pub tally_told : (probed : Probed) (tally : Tally) → Shows program probed → IsTallyIn probed tally (flat_plan ready news) → IsTally narrowed program widths tally
  tally_told probed tally shows is = record {
    probed = probed;
    shows = shows;
    are = of_told (λ es ws qs. IsTallyIn probed tally (plan_of es ws qs)) narrowed program widths ready news told is;
  }

  pub limit_told : (columns : ℕ) (fault : ShareFault) → IsUncounted columns (flat_net ready news) fault → HasNoShares columns narrowed program widths fault
  limit_told columns ShareFault.Turns none = absurd none
  limit_told columns (ShareFault.Limit which) passed = of_told (λ es ws qs. limit_passed columns (net_of es ws qs) ≡ Some which) narrowed program widths ready news told passed
  limit_told columns (ShareFault.Memory error) any = tt

pub unshown_told : (columns : ℕ) (narrowed : Bool) (program : Program) (widths : List ℕ) (fault : ShareFault) → IsUnshown program fault → HasNoShares columns narrowed program widths fault
unshown_told columns narrowed program widths ShareFault.Turns long = long
unshown_told columns narrowed program widths (ShareFault.Limit which) none = absurd none
unshown_told columns narrowed program widths (ShareFault.Memory error) any = tt

-- ---- none
pub turns_untold : (columns : ℕ) (narrowed : Bool) (program : Program) (widths : List ℕ) (fault : ShareFault) → fault ≡ ShareFault.Turns → HasNoShares columns narrowed program widths fault → AreUntold columns narrowed program widths
turns_untold columns narrowed program widths fault is not = inl (subst (HasNoShares columns narrowed program widths) is not)

pub limit_untold : (columns : ℕ) (narrowed : Bool) (program : Program) (widths : List ℕ) (fault : ShareFault) (which : Cap) → fault ≡ ShareFault.Limit which → HasNoShares columns narrowed program widths fault
    → AreUntold columns narrowed program widths
limit_untold columns narrowed program widths fault which is not = inr (which, subst (HasNoShares columns narrowed program widths) is not)
