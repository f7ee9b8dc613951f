-- The labels of columns, by the streams of the units that stand there.
use Rattle.std.proofs.Common.{◌≡◌, ◌<◌, ◌∙◌, ℕ, ◌+◌, ◌*◌, List, Option, None, Some, length, map, slice_index_or, refl, sym, ap, inl, inr}
use Rattle.std.specs.Global.{Vec}
use Rattle.std.specs.List.{slice_get}
use Rattle.std.specs.Option.{option_map}
use Rattle.std.proofs.lemmas.Bool.{cases_lt}
use Rattle.std.proofs.lemmas.List.{get_or_past}
use Rattle.std.proofs.lemmas.Option.{slice_get-get_or, slice_get-map, slice_get_past}
use Rattle.pr_net.specs.Shape.{NetShape}
use Rattle.pr_place.specs.Placements.{PlacementShape, column_of, stage_of}
use Rattle.pr_place.specs.Greedy.{IsGreedy}
use Rattle.pr_place.specs.Sound.{IsCell, IsSound}
use Rattle.pr_lens_origins.specs.declared.streams.Origins.{Origins}
use Rattle.pr_lens_origins.specs.declared.streams.Stream.{Stream}
use Rattle.pr_lens_origins.specs.Origins.{owned_stream, stream_of}
use Rattle.pr_lens_rtl_text.specs.declared.notes.Notes.{Notes}
use Rattle.pr_lens_rtl_text.specs.Notes.{label_at, label_of}
use Rattle.pr_lens_notes.specs.Labels.{label_of as stream_label}
use Rattle.pr_lens_notes.specs.Tables.{owner_of}
use Rattle.pr_lens_notes.specs.Noted.{AreNotesFor}
use Rattle.pr_lens_notes.proofs.OwnerLaws.{none, own}

-- ---- labels and owners
label_is : (notes : Notes) (streams : List Stream) → map (λ (label : Vec ℕ). label.items) notes.labels.items ≡ map stream_label streams → (place : Option ℕ)
    → label_at notes place ≡ option_map stream_label (owned_stream streams (Some place))
label_is notes streams same None = refl
label_is notes streams same (Some place) =
    sym (slice_get-map (λ (label : Vec ℕ). label.items) notes.labels.items place)
    ∙ (ap (λ (labels : List (List ℕ)). slice_get labels place) same ∙ slice_get-map stream_label streams place)

owner_is : (streams : List Stream) (owners : List (Option ℕ)) (u : ℕ) → owned_stream streams (Some (slice_index_or owners u None)) ≡ owned_stream streams (slice_get owners u)
owner_is streams owners u = elim (cases_lt u (length owners)) [
  | inl lt ↦ ap (owned_stream streams) (sym (slice_get-get_or owners u None lt))
  | inr le ↦ ap (λ (owner : Option ℕ). owned_stream streams (Some owner)) (get_or_past owners u None le) ∙ ap (owned_stream streams) (sym (slice_get_past owners u le))
]

-- ---- columns
module _ (N P : ℕ) (net : NetShape) (p : PlacementShape) (origins : Origins) (notes : Notes) (greedy : IsGreedy N P net p) (sound : IsSound N P net p) (are : AreNotesFor N p origins notes) where
  at_column : (stage col : ℕ) → stage < p.stages → col < N → label_of notes stage col ≡ label_at notes (owner_of p origins.owners.items (length p.homes) stage col)
  at_column stage col below low =
      ap (λ (columns : ℕ). label_at notes (slice_index_or notes.owners.items (stage * columns + col) None)) are.columns ∙ ap (label_at notes) (are.owned stage col below low)

  pub named : (u i : ℕ) → IsCell net u i → label_of notes (stage_of p u) (column_of p u i) ≡ option_map stream_label (stream_of origins u)
  named u i cell =
      at_column (stage_of p u) (column_of p u i) (sound.stage u cell.unit) (sound.column u i cell)
      ∙ (ap (label_at notes) (own N P net p origins.owners.items greedy sound u i cell)
      ∙ (label_is notes origins.streams.items are.labels (slice_index_or origins.owners.items u None)
      ∙ ap (option_map stream_label) (owner_is origins.streams.items origins.owners.items u)))

  pub bare : (stage col : ℕ) → stage < p.stages → col < N → ((u i : ℕ) → IsCell net u i → stage_of p u ≡ stage → column_of p u i ≡ col → ⊥) → label_of notes stage col ≡ None
  bare stage col below low empty = at_column stage col below low ∙ ap (label_at notes) (none N P net p origins.owners.items greedy sound stage col empty)
