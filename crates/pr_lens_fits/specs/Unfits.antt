-- What is told of a group of units that fits in no stripe.
use Rattle.std.specs.Prelude.{ℕ, ◌≡◌, ◌-◌, ◌^◌, ◌==◌, ◌⊎◌, Bool, false, List, [], Some, length, min, find, sum_by, unwrap_or}
use Rattle.std.specs.List.{slice_get}
use Rattle.std.specs.Option.{option_map_or}
use Rattle.pr_base.specs.declared.caps.Cap.{Cap}
use Rattle.pr_lang.specs.declared.trees.Program.{Program}
use Rattle.pr_flat.specs.declared.equations.Operand.{Operand}
use Rattle.pr_flat.specs.declared.flat.Flat.{Flat}
use Rattle.pr_flat.specs.Flats as flats
use Rattle.pr_flat.specs.Shape.{EquationShape}
use Rattle.pr_net.specs.Shape.{NetShape, cells_of}
use Rattle.pr_cut_units.specs.Nets.{limit_passed}
use Rattle.pr_expand_spec.specs.Programs.{equations_of}
use Rattle.pr_compile_front.specs.declared.faults.FrontFault.{FrontFault}
use Rattle.pr_compile_front.specs.Refusals.{HasWidths, IsRefusal}
use Rattle.pr_compile.specs.Configured.{OfReadyBy, net_by}
use Rattle.pr_lens_fits.specs.declared.groups.Unfit.{Unfit}
use Rattle.pr_lens_fits.specs.Needed.{kept_before}

-- ---- a net
abbrev pub ends_with : ℕ → List ℕ → Bool
ends_with unit units = option_map_or (λ (last : ℕ). last == unit) (slice_get units (length units - 1)) false

-- the units of the first group whose last unit is this one, and none where there is none
abbrev pub group_ending : NetShape → ℕ → List ℕ
group_ending net unit = unwrap_or (find (ends_with unit) net.groups) []

-- how many cells units have, as far as 64 bits count
abbrev pub cell_count : NetShape → List ℕ → ℕ
cell_count net units = min (sum_by (λ u. length (cells_of net u)) units) (2 ^ 64 - 1)

-- the columns of that group, and the bytes that are kept before its last unit
pub record IsUnfit (net : NetShape) (unit : ℕ) (found : Unfit) : Type 0 where
  pub columns : found.columns ≡ cell_count net (group_ending net unit)
  pub kept : found.kept ≡ kept_before net unit

-- ---- the equations of which a text's net is made
-- these equations with these widths, and their outputs
pub record AreTold (flat : Flat) (widths : List ℕ) (ready : List EquationShape) (news : List ℕ) (outputs : List Operand) : Type 0 where
  pub equations : flats.equations_of flat ≡ ready
  pub widths_are : widths ≡ news
  pub outputs_are : flat.outputs.items ≡ outputs

-- they are those of the text's program, narrowed or as they are
pub record IsReadyOf (narrowed : Bool) (text : List ℕ) (flat : Flat) (widths : List ℕ) : Type 0 where
  pub program : Program
  pub given : List ℕ
  pub has : HasWidths text program given
  pub are : OfReadyBy narrowed program given (λ ready news. AreTold flat widths ready news (equations_of program).outputs)

-- no net is made of the text: it is refused
pub record HasRefusal (text : List ℕ) : Type 0 where
  pub fault : FrontFault
  pub refused : IsRefusal text fault

-- ---- a text
-- what is told is of the net of its program
pub record HasUnfit (narrowed : Bool) (text : List ℕ) (unit : ℕ) (found : Unfit) : Type 0 where
  pub program : Program
  pub given : List ℕ
  pub has : HasWidths text program given
  pub are : OfReadyBy narrowed program given (λ ready news. IsUnfit (net_by program ready news) unit found)

-- the net of its program passes a limit
pub record PassesLimit (columns : ℕ) (narrowed : Bool) (text : List ℕ) (which : Cap) : Type 0 where
  pub program : Program
  pub given : List ℕ
  pub has : HasWidths text program given
  pub are : OfReadyBy narrowed program given (λ ready news. limit_passed columns (net_by program ready news) ≡ Some which)

-- nothing is told, as the text has no net on so many columns
pub record IsNothing (columns : ℕ) (narrowed : Bool) (text : List ℕ) (found : Unfit) : Type 0 where
  pub item : found.item ≡ 0
  pub columns_are : found.columns ≡ 0
  pub kept : found.kept ≡ 0
  pub why : HasRefusal text ⊎ ((which : Cap) × PassesLimit columns narrowed text which)

abbrev pub IsFound : ℕ → Bool → List ℕ → ℕ → Unfit → Type 0
IsFound columns narrowed text unit found = HasUnfit narrowed text unit found ⊎ IsNothing columns narrowed text found
