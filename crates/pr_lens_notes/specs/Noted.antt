-- The comments of the module of a program.
use Rattle.std.specs.Prelude.{◌≡◌, ◌<◌, ℕ, ◌+◌, ◌*◌, Bool, List, Option, Some, None, length, map, slice_index_or}
use Rattle.std.specs.Global.{Vec}
use Rattle.pr_lang.specs.declared.trees.Program.{Program}
use Rattle.pr_place.specs.Placements.{PlacementShape, shape_of}
use Rattle.pr_compile_front.specs.Refusals.{HasWidths}
use Rattle.pr_lens_graph.specs.declared.layouts.Placed.{Placed}
use Rattle.pr_lens_graph.specs.Layouts.{IsLayoutBy}
use Rattle.pr_lens_origins.specs.declared.streams.Origins.{Origins}
use Rattle.pr_lens_origins.specs.Origins.{AreOriginsOrNone}
use Rattle.pr_lens_rtl_text.specs.declared.notes.Notes.{Notes}
use Rattle.pr_lens_rtl_text.specs.Notes.{AreBare}
use Rattle.pr_lens_notes.specs.Labels.{label_of}
use Rattle.pr_lens_notes.specs.Tables.{owner_of}

-- a label for each stream, and at the place of each column of each stage the owner of the unit that stands there
pub record AreNotesFor (N : ℕ) (placement : PlacementShape) (origins : Origins) (notes : Notes) : Type 0 where
  pub labels : map (λ (label : Vec ℕ). label.items) notes.labels.items ≡ map label_of origins.streams.items
  pub columns : notes.columns ≡ N
  pub long : length notes.owners.items ≡ placement.stages * N
  pub owned : (stage col : ℕ) → stage < placement.stages → col < N
      → slice_index_or notes.owners.items (stage * N + col) None ≡ owner_of placement origins.owners.items (length placement.homes) stage col

-- none where the streams are not told
abbrev pub AreNotesBy : ℕ → PlacementShape → Option Origins → Notes → Type 0
AreNotesBy N placement None notes = AreBare notes
AreNotesBy N placement (Some origins) notes = AreNotesFor N placement origins notes

-- those of the units of a text's program, which stand where the greedy rule places them, and come from its streams
pub record AreNotes (N P : ℕ) (narrowed : Bool) (text : List ℕ) (notes : Notes) : Type 0 where
  pub program : Program
  pub widths : List ℕ
  pub has : HasWidths text program widths
  pub placed : Placed
  pub laid_out : IsLayoutBy N P narrowed program widths placed.net (shape_of placed.placement) placed.stages.items
  pub origins : Option Origins
  pub told : AreOriginsOrNone N narrowed text program widths origins
  pub are : AreNotesBy N (shape_of placed.placement) origins notes
