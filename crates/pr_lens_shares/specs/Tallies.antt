-- The streams of a program, with their units.
use Rattle.std.specs.Prelude.{ℕ, ◌≡◌, ◌-◌, ◌⊎◌, ⊤, Bool, List, Some, drop, vec_len}
use Rattle.pr_base.specs.declared.caps.Cap.{Cap}
use Rattle.pr_lang.specs.declared.trees.Program.{Program}
use Rattle.pr_flat.specs.declared.equations.Operand.{Operand}
use Rattle.pr_expand_spec.specs.Programs.{equations_of}
use Rattle.pr_net.specs.Shape.{NetShape}
use Rattle.pr_cut_units.specs.Equations.{UnitPlan, plan_of}
use Rattle.pr_cut_units.specs.Nets.{limit_passed}
use Rattle.pr_compile.specs.Configured.{OfReadyBy, net_by}
use Rattle.pr_lens_probe.specs.declared.probing.Probed.{Probed}
use Rattle.pr_lens_probe.specs.declared.probing.ProbeFault.TheVariants as probe
use Rattle.pr_lens_probe.specs.Shown.{IsTooLong, Shows}
use Rattle.pr_lens_shares.specs.declared.tallies.Tally.{Tally}
use Rattle.pr_lens_shares.specs.declared.tallies.ShareFault.{ShareFault}
use Rattle.pr_lens_shares.specs.declared.tallies.ShareFault.TheVariants.{Turns, Limit, Memory}
use Rattle.pr_lens_shares.specs.Counts.{unit_counts}
use Rattle.pr_lens_shares.specs.Owners.{owners_of}

-- what the last outputs give of a program that shows its instances: one for each
abbrev pub shown_operands : Probed → List Operand
shown_operands p = drop (vec_len p.flat.outputs - vec_len p.instances) p.flat.outputs.items

-- the instances with their units, by the units of a plan
pub record IsTallyIn (probed : Probed) (tally : Tally) (plan : UnitPlan) : Type 0 where
  pub instances : tally.instances ≡ probed.instances
  pub counts : tally.counts.items ≡ unit_counts plan 0 (shown_operands probed)
  pub owners : tally.owners.items ≡ owners_of plan (shown_operands probed)

-- all instances of a program with their units; its equations are narrowed or as they are
pub record IsTally (narrowed : Bool) (program : Program) (widths : List ℕ) (tally : Tally) : Type 0 where
  pub probed : Probed
  pub shows : Shows program probed
  pub are : OfReadyBy narrowed program widths (λ ready news. IsTallyIn probed tally (plan_of ready news (equations_of program).outputs))

-- ---- none
-- its streams are not shown: it leaves no turn of the walk
abbrev pub IsUnshown : Program → ShareFault → Type 0
IsUnshown program Turns = IsTooLong program probe.Turns
IsUnshown program (Limit which) = ⊥
IsUnshown program (Memory error) = ⊤

-- its net passes a limit
abbrev pub IsUncounted : ℕ → NetShape → ShareFault → Type 0
IsUncounted columns net Turns = ⊥
IsUncounted columns net (Limit which) = limit_passed columns net ≡ Some which
IsUncounted columns net (Memory error) = ⊤

-- either
abbrev pub HasNoShares : ℕ → Bool → Program → List ℕ → ShareFault → Type 0
HasNoShares columns narrowed program widths Turns = IsTooLong program probe.Turns
HasNoShares columns narrowed program widths (Limit which) = OfReadyBy narrowed program widths (λ ready news. limit_passed columns (net_by program ready news) ≡ Some which)
HasNoShares columns narrowed program widths (Memory error) = ⊤

-- either, and not want of memory
abbrev pub AreUntold : ℕ → Bool → Program → List ℕ → Type 0
AreUntold columns narrowed program widths = HasNoShares columns narrowed program widths Turns ⊎ ((which : Cap) × HasNoShares columns narrowed program widths (Limit which))
