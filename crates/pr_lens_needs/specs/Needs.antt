-- What is told of a recurrence that fits in no stage.
use Rattle.std.specs.Prelude.{ℕ, ◌≡◌, ◌<◌, ◌+◌, Bool, true, false, Option, None, List, length, slice_index}
use Rattle.pr_base.specs.declared.caps.Cap.{Cap}
use Rattle.pr_lang.specs.declared.tokens.Token.{Token}
use Rattle.pr_lang.specs.declared.trees.Program.{Program}
use Rattle.pr_net.specs.Shape.{NetShape}
use Rattle.pr_cut_units.specs.Equations.{UnitPlan, first_unit, plan_of}
use Rattle.pr_expand_spec.specs.Programs.{equations_of}
use Rattle.pr_compile_front.specs.Refusals.{HasWidths}
use Rattle.pr_compile.specs.Configured.{OfReadyBy, net_by}
use Rattle.pr_lens_source.specs.declared.sources.Span.{Span}
use Rattle.pr_lens_fits.specs.Unfits.{HasRefusal, PassesLimit, group_ending}
use Rattle.pr_lens_needs.specs.declared.needs.Needs.{Needs}
use Rattle.pr_lens_needs.specs.declared.needs.Parts.{Parts}
use Rattle.pr_lens_needs.specs.Columns.{NeedsColumns}
use Rattle.pr_lens_needs.specs.Recurrences.{IsLastOf}
use Rattle.pr_lens_needs.specs.Smaller.{AreNarrowerIn}
use Rattle.pr_lens_needs.specs.Takes.{columns_between, most_takes}

-- ---- a net
-- the recurrence whose last unit this is, its width, and which columns its operators take and the units that hold it
pub record AreParts (plan : UnitPlan) (net : NetShape) (unit : ℕ) (parts : Parts) : Type 0 where
  pub rec : IsLastOf plan unit parts.rec
  pub width : parts.width ≡ slice_index plan.widths parts.rec
  pub takes : parts.takes.items ≡ most_takes plan net (group_ending net unit) parts.rec
  pub keeps : parts.keeps ≡ columns_between net (group_ending net unit) (first_unit plan parts.rec) (unit + 1)

-- it is that of no recurrence
abbrev pub IsLastOfNone : UnitPlan → ℕ → Type 0
IsLastOfNone plan unit = (rec : ℕ) → rec < length plan.equations → IsLastOf plan unit rec → ⊥

-- ---- a text
-- what holds of the plan and the net of its program, narrowed or as they are
pub record OfText (narrowed : Bool) (text : List ℕ) (Holds : UnitPlan → NetShape → Type 0) : Type 0 where
  pub program : Program
  pub given : List ℕ
  pub has : HasWidths text program given
  pub are : OfReadyBy narrowed program given (λ ready news. Holds (plan_of ready news (equations_of program).outputs) (net_by program ready news))

-- why nothing is told: it has no net on so many columns, or the unit is that of no recurrence
pub data HasNoParts (columns : ℕ) (narrowed : Bool) (text : List ℕ) (unit : ℕ) : Type 0 where
  Refused : HasRefusal text → HasNoParts columns narrowed text unit
  NoNet : (which : Cap) → PassesLimit columns narrowed text which → HasNoParts columns narrowed text unit
  NoRecurrence : OfText narrowed text (λ plan net. IsLastOfNone plan unit) → HasNoParts columns narrowed text unit

-- how many columns it needs with narrowed equations; that is not asked where they are narrowed
abbrev pub IsNarrow : ℕ → Bool → List ℕ → ℕ → Option ℕ → Type 0
IsNarrow columns true text rec found = found ≡ None
IsNarrow columns false text rec found = NeedsColumns columns true text rec None found

-- what a recurrence needs, which this item makes
pub record HasNeeds (columns : ℕ) (narrowed : Bool) (text : List ℕ) (tokens : List Token) (spans : List Span) (item unit : ℕ) (needs : Needs) : Type 0 where
  pub are : OfText narrowed text (λ plan net. AreParts plan net unit needs.parts)
  pub narrower : AreNarrowerIn columns narrowed text tokens spans item needs.parts.rec needs.parts.width needs.narrower.items
  pub narrow : IsNarrow columns narrowed text needs.parts.rec needs.narrow
