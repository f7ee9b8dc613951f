-- The text of a cost.
use Rattle.std.specs.Prelude.{ℕ, ◌≡◌, ◌+◌, ◌-◌, ◌*◌, ◌/◌, ◌%◌, ◌<◌, ◌≤◌, Bool, true, false, nat_le, nat_lt, List, [], ◌∷◌, ◌++◌, length, map, replicate, Option, Some, None, codes, decimal, slice_index, if◌then◌else◌}
use Rattle.std.specs.List.{flat_map}
use Rattle.pr_lens_tracks.specs.Tables.{index_text}
use Rattle.pr_lens_shares.specs.declared.shares.Share.{Share}
use Rattle.pr_lens_cost.specs.declared.amounts.Cost.{Cost}
use Rattle.pr_lens_cost.specs.declared.counts.StageCost.{StageCost}
use Rattle.pr_lens_cost.specs.declared.cycles.Row.{Row}
use Rattle.pr_lens_cost.specs.declared.tables.Savings.{Savings}
use Rattle.pr_lens_cost.specs.Rates.{row_of, told_stripes}

-- words and a number, on a line of their own
abbrev pub line_text : List ℕ → ℕ → List ℕ
line_text words number = words ++ decimal number ++ codes "\n"

-- a number that ends in a column of so many bytes, or is longer
unfoldable pub right_text : ℕ → ℕ → List ℕ
right_text width number = replicate (width - length (decimal number)) 32 ++ decimal number

-- ---- amounts
abbrev pub way_text : Bool → List ℕ
way_text true = codes "with --narrow: units "
way_text false = codes "without --narrow: units "

-- units and stages of the program, compiled the other way, where that is accepted
abbrev pub savings_text : Option Savings → List ℕ
savings_text None = []
savings_text (Some other) = way_text other.narrowed ++ decimal other.units ++ line_text (codes " stages ") other.stages

unfoldable pub amounts_text : ℕ → ℕ → ℕ → Option Savings → List ℕ
amounts_text equations units stages savings =
    line_text (codes "equations ") equations ++ line_text (codes "units ") units ++ line_text (codes "stages ") stages ++ savings_text savings

-- ---- streams
-- the units of a stream, and its name with its index
unfoldable pub share_text : Share → List ℕ
share_text share = right_text 8 share.units ++ codes "  " ++ share.name ++ index_text share.index ++ codes "\n"

-- a line for each stream, under a heading, and nothing where there are none
unfoldable pub streams_text : List Share → List ℕ
streams_text shares = if nat_lt 0 (length shares) then codes "\n   units  stream\n" ++ flat_map share_text shares else []

-- ---- stages
abbrev pub cells_of : List StageCost → List ℕ
cells_of stages = map (λ (s : StageCost). s.cells) stages

-- the stage of this number is the first of those that have most in use, and it has so much; where there are none, it is 0, and has nothing
pub record IsFullest (stages : List StageCost) (number cells : ℕ) : Type 0 where
  pub has : slice_index (cells_of stages) number ≡ cells
  pub most : (k : ℕ) → k < length stages → slice_index (cells_of stages) k ≤ cells
  pub first : (k : ℕ) → k < number → slice_index (cells_of stages) k < cells

unfoldable pub fullest_text : ℕ → ℕ → ℕ → List ℕ
fullest_text number cells columns =
    codes "fullest stage " ++ decimal number ++ codes ", with " ++ decimal cells ++ codes " of " ++ decimal columns ++ codes " columns in use\n"

unfoldable pub stage_text : ℕ → StageCost → List ℕ
stage_text number stage = right_text 8 number ++ right_text 9 stage.cells ++ right_text 11 stage.writes ++ right_text 8 stage.states ++ codes "\n"

-- a line for each stage, the first of this number
unfoldable pub stage_lines : ℕ → List StageCost → List ℕ
stage_lines number [] = []
stage_lines number (stage ∷ stages) = stage_text number stage ++ stage_lines (number + 1) stages

abbrev pub stages_text : List StageCost → List ℕ
stages_text stages = codes "\n   stage  columns  registers  states\n" ++ stage_lines 0 stages

-- ---- runs
abbrev pub digit_text : ℕ → List ℕ
digit_text number = (48 + number % 10) ∷ []

-- so many thousandths
abbrev pub thousandths_text : ℕ → List ℕ
thousandths_text number = codes "   0." ++ digit_text (number / 100) ++ digit_text (number / 10) ++ digit_text number

-- the thousandths of a part of a whole, or 1
unfoldable pub part_text : ℕ → ℕ → List ℕ
part_text part whole = if nat_le whole part then codes "   1.000" else thousandths_text (part * 1000 / whole)

-- so many samples in so many cycles
abbrev pub rate_text : ℕ → ℕ → List ℕ
rate_text samples cycles = part_text samples cycles ++ right_text 6 samples ++ codes " in " ++ right_text 5 cycles

unfoldable pub row_text : Row → List ℕ
row_text row = right_text 10 row.stripes ++ rate_text row.rate.samples row.rate.cycles ++ right_text 18 row.cycles ++ codes "\n"

unfoldable pub runs_text : ℕ → List Row → List ℕ
runs_text samples rows =
    line_text (codes "\nsamples of a run ") samples ++ codes "   stripes   samples per cycle      cycles of a run\n" ++ flat_map row_text rows

-- ---- the whole text
abbrev pub rows_for : ℕ → ℕ → List Row
rows_for stages samples = map (row_of stages samples) told_stripes

-- the text of a cost on so many columns, with what the other way saves, and for runs of so many samples
pub record IsCostText (cost : Cost) (savings : Option Savings) (columns samples : ℕ) (text : List ℕ) : Type 0 where
  pub number : ℕ
  pub cells : ℕ
  pub fullest : IsFullest cost.stages.items number cells
  pub is : text
      ≡ amounts_text cost.equations cost.units (length cost.stages.items) savings
      ++ fullest_text number cells columns
      ++ streams_text cost.shares.items
      ++ stages_text cost.stages.items
      ++ runs_text samples (rows_for (length cost.stages.items) samples)
