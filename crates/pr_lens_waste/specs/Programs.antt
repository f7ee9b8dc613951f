-- The lines of the program of a text.
use Rattle.std.specs.Prelude.{◌≡◌, ◌⊎◌, ℕ, List, Some, ⊤}
use Rattle.pr_base.specs.declared.caps.Cap.{Cap}
use Rattle.pr_lang.specs.declared.trees.Program.{Program}
use Rattle.pr_expand_spec.specs.Programs.{equations_of}
use Rattle.pr_cut_plan.specs.declared.faults.CutFault.{CutFault}
use Rattle.pr_cut_plan.specs.declared.faults.CutFault.TheVariants as cut
use Rattle.pr_cut_units.specs.Nets.{limit_passed, net_of}
use Rattle.pr_cut_units.specs.Reached.{reached}
use Rattle.pr_compile_front.specs.declared.faults.FrontFault.{FrontFault}
use Rattle.pr_compile_front.specs.declared.faults.FrontFault.TheVariants as front
use Rattle.pr_compile_front.specs.Refusals.{HasWidths, IsRefusal}
use Rattle.pr_lens_probe.specs.declared.probing.Probed.{Probed}
use Rattle.pr_lens_probe.specs.declared.probing.ProbeFault.{ProbeFault}
use Rattle.pr_lens_probe.specs.declared.probing.ProbeFault.TheVariants as probe
use Rattle.pr_lens_probe.specs.Shown.{IsTooLong, Shows}
use Rattle.pr_lens_shares.specs.Tallies.{shown_operands}
use Rattle.pr_lens_waste.specs.declared.faults.LineFault.{LineFault}
use Rattle.pr_lens_waste.specs.declared.faults.LineFault.TheVariants.{Memory, Untold}
use Rattle.pr_lens_waste.specs.Lines.{Tails, lines_over, no_lines}

-- the columns of the wide fabric
abbrev pub most_columns : ℕ
most_columns = 32

-- the lines of a program whose last outputs show its instances
abbrev pub program_lines : Program → Probed → Tails
program_lines program probed =
    lines_over (equations_of program).equations (reached (equations_of program).equations (equations_of program).outputs) probed.instances.items (shown_operands probed) no_lines

-- of the program of a text
pub record HasLines (text : List ℕ) (tails : Tails) : Type 0 where
  pub program : Program
  pub widths : List ℕ
  pub has : HasWidths text program widths
  pub probed : Probed
  pub shows : Shows program probed
  pub are : tails ≡ program_lines program probed

-- ---- none
-- the equations of a program make a net that passes a limit, whatever the fabric
abbrev pub PassesLimit : Program → List ℕ → Cap → Type 0
PassesLimit program widths cap = limit_passed most_columns (net_of (equations_of program).equations widths (equations_of program).outputs) ≡ Some cap

-- nothing is told of a text that is refused, of one that leaves no turn of the walk, and of one whose net passes a limit
pub data IsUntold (text : List ℕ) : Type 0 where
  Refused : (fault : FrontFault) → IsRefusal text fault → IsUntold text
  Long : (program : Program) (widths : List ℕ) → HasWidths text program widths → IsTooLong program probe.Turns → IsUntold text
  Large : (program : Program) (widths : List ℕ) (cap : Cap) → HasWidths text program widths → PassesLimit program widths cap → IsUntold text

pub record AreNone (text : List ℕ) (tails : Tails) : Type 0 where
  pub none : tails ≡ no_lines
  pub why : IsUntold text

-- the lines of a text, or none
abbrev pub AreLines : List ℕ → Tails → Type 0
AreLines text tails = HasLines text tails ⊎ AreNone text tails

-- ---- faults
abbrev pub IsWhy : List ℕ → LineFault → Type 0
IsWhy text Untold = IsUntold text
IsWhy text (Memory error) = ⊤

abbrev pub front_fault : FrontFault → LineFault
front_fault (front.Memory error) = Memory error
front_fault fault = Untold

abbrev pub cut_fault : CutFault → LineFault
cut_fault (cut.Limit cap) = Untold
cut_fault (cut.Memory error) = Memory error

abbrev pub probe_fault : ProbeFault → LineFault
probe_fault probe.Turns = Untold
probe_fault (probe.Memory error) = Memory error
