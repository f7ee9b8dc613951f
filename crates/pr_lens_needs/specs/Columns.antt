-- How many columns a recurrence needs.
use Rattle.std.specs.Prelude.{ℕ, ◌≡◌, ◌<◌, Bool, true, false, nat_eq, if◌then◌else◌, Option, Some, None, List, length}
use Rattle.std.specs.List.{slice_get}
use Rattle.std.specs.Option.{option_map_or}
use Rattle.pr_base.specs.declared.caps.Cap.{Cap}
use Rattle.pr_lang.specs.declared.trees.Program.{Program}
use Rattle.pr_flat.specs.Shape.{EquationShape}
use Rattle.pr_net.specs.Shape.{NetShape}
use Rattle.pr_cut_units.specs.Equations.{UnitPlan, plan_of}
use Rattle.pr_expand_spec.specs.Programs.{equations_of}
use Rattle.pr_compile_front.specs.Refusals.{HasWidths}
use Rattle.pr_compile.specs.Configured.{OfReadyBy, net_by}
use Rattle.pr_lens_fits.specs.Unfits.{HasRefusal, PassesLimit, cell_count, group_ending}
use Rattle.pr_lens_needs.specs.Recurrences.{is_held, last_unit}

-- the columns of the group of a recurrence, where an output can be reached from it
abbrev pub held_columns : UnitPlan → NetShape → ℕ → Option ℕ
held_columns plan net rec = if is_held plan rec then Some (cell_count net (group_ending net (last_unit plan rec))) else None

-- ---- the width that an equation declares
abbrev pub is_declared : ℕ → Option ℕ → Bool
is_declared width declared = option_map_or (nat_eq width) declared false

-- it is this one, where one is asked for
abbrev pub declares : List EquationShape → ℕ → Option ℕ → Bool
declares equations rec None = true
declares equations rec (Some width) = option_map_or (λ (e : EquationShape). is_declared width e.declared) (slice_get equations rec) false

-- ---- a text
-- the equation of its program declares the width that is asked for, and these are the columns in the net of its program
pub record HasColumns (narrowed : Bool) (text : List ℕ) (rec : ℕ) (width : Option ℕ) (found : Option ℕ) : Type 0 where
  pub program : Program
  pub given : List ℕ
  pub has : HasWidths text program given
  pub declared : declares (equations_of program).equations rec width ≡ true
  pub are : OfReadyBy narrowed program given (λ ready news. found ≡ held_columns (plan_of ready news (equations_of program).outputs) (net_by program ready news) rec)

-- it does not declare it
pub record DeclaresOther (text : List ℕ) (rec : ℕ) (width : Option ℕ) : Type 0 where
  pub program : Program
  pub given : List ℕ
  pub has : HasWidths text program given
  pub other : declares (equations_of program).equations rec width ≡ false

-- the equation of its program declares this width
pub record HasDeclared (text : List ℕ) (rec width : ℕ) : Type 0 where
  pub program : Program
  pub given : List ℕ
  pub has : HasWidths text program given
  pub this : declares (equations_of program).equations rec (Some width) ≡ true

-- it does not, or the text is longer than a program may be, or refused
pub data HasNotDeclared (text : List ℕ) (rec width : ℕ) : Type 0 where
  IsTooLong : 1048576 < length text → HasNotDeclared text rec width
  IsRefused : HasRefusal text → HasNotDeclared text rec width
  IsOther : DeclaresOther text rec (Some width) → HasNotDeclared text rec width

-- how many columns a recurrence needs, narrowed or as it is, where it declares the width that is asked for; none where
-- the text is longer than a program may be, or has no net on so many columns
pub data NeedsColumns (columns : ℕ) (narrowed : Bool) (text : List ℕ) (rec : ℕ) (width : Option ℕ) (found : Option ℕ) : Type 0 where
  Told : HasColumns narrowed text rec width found → NeedsColumns columns narrowed text rec width found
  TooLong : 1048576 < length text → found ≡ None → NeedsColumns columns narrowed text rec width found
  Other : DeclaresOther text rec width → found ≡ None → NeedsColumns columns narrowed text rec width found
  Refused : HasRefusal text → found ≡ None → NeedsColumns columns narrowed text rec width found
  NoNet : (which : Cap) → PassesLimit columns narrowed text which → found ≡ None → NeedsColumns columns narrowed text rec width found
