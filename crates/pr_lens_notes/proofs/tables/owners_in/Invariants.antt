use Rattle.std.proofs.Common.{◌≡◌, ◌<◌, ℕ, ◌+◌, ◌*◌, None, length, slice_index_or}
use Rattle.pr_place.specs.Placements.{shape_of}
use Rattle.pr_lens_notes.specs.Tables.{owner_of}
use Rattle.pr_lens_notes.proofs.tables.owners_in.Given as goal

abbrev pub invariant-loop-unit : goal.invariant-loop-unit
invariant-loop-unit l = record {
  long : length l.table.items ≡ l.placement.stages * l.columns;
  owned : (stage col : ℕ) → stage < l.placement.stages → col < l.columns →
      slice_index_or l.table.items (stage * l.columns + col) None ≡ owner_of (shape_of l.placement) l.owners l.unit stage col;
}
