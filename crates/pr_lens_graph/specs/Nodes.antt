-- The text of the stages of a graph, with the nodes of their units.
use Rattle.std.specs.Prelude.{ℕ, ◌≡◌, ◌+◌, ◌<◌, ◌==◌, ◌&&◌, Bool, nat_lt, max, List, [], ◌∷◌, ◌++◌, fold, length, map, filter, Option, Some, None, codes, decimal, slice_index, slice_index_or, if◌then◌else◌}
use Rattle.std.specs.Global.{Vec}
use Rattle.std.specs.List.{enumerate_from, flat_map, range_with_len}
use Rattle.pr_base.specs.declared.choices.Mode.{Mode}
use Rattle.pr_base.specs.declared.choices.Next.{Next}
use Rattle.pr_net.specs.declared.cells.Cell.{Cell}
use Rattle.pr_lens_origins.specs.declared.streams.Stream.{Stream}
use Rattle.pr_lens_origins.specs.Origins.{stream_of, stream_text}
use Rattle.pr_lens_graph.specs.declared.naming.Names.{Names}

-- ---- a unit
-- what a cell mainly does
abbrev pub work_by : Next → Mode → List ℕ
work_by Next.Keep Mode.Plain = codes "looks up"
work_by Next.Keep Mode.Sum = codes "adds"
work_by Next.Keep Mode.Zero = codes "compares"
work_by Next.Output mode = codes "keeps"
work_by Next.A mode = codes "keeps"

-- what a unit does: what its first cell does
abbrev pub work_of : List Cell → List ℕ
work_of [] = codes "nothing"
work_of (cell ∷ cells) = work_by cell.next cell.mode

-- the word behind a number of cells, and the end of a node
abbrev pub cells_word : ℕ → List ℕ
cells_word count = if count == 1 then codes " cell\"];\n" else codes " cells\"];\n"

-- the line for the stream that a unit is made for, where it is told
unfoldable pub stream_line : Stream → List ℕ
stream_line stream = codes "\\n" ++ stream_text stream ++ codes ", line " ++ decimal stream.spot.line ++ codes ", column " ++ decimal stream.spot.column

abbrev pub line_for : Option Stream → List ℕ
line_for None = []
line_for (Some stream) = stream_line stream

-- the node of a unit of this number: what it does, its stream, and its cells
unfoldable pub node_head : ℕ → List Cell → List ℕ
node_head number cells = codes "    u" ++ decimal number ++ codes " [label=\"" ++ decimal number ++ codes " " ++ work_of cells

unfoldable pub node_end : ℕ → List ℕ
node_end count = codes "\\n" ++ decimal count ++ cells_word count

unfoldable pub node_text : Names → ℕ → List Cell → List ℕ
node_text names number cells = node_head number cells ++ line_for (stream_of names.origins number) ++ node_end (length cells)

-- ---- a stage
-- whether a unit has a stage, and it is this one
abbrev pub stands_in : List ℕ → ℕ → ℕ → Bool
stands_in stages stage unit = nat_lt unit (length stages) && (slice_index stages unit == stage)

-- the node of a unit, where it stands in a stage
abbrev pub node_in : Names → List ℕ → ℕ → List Cell → ℕ → List ℕ
node_in names stages number cells stage = if stands_in stages stage number then node_text names number cells else []

abbrev pub node_of : Names → ℕ × List Cell → List ℕ
node_of names unit = node_text names unit.0 unit.1

-- the nodes of those units that stand in a stage, in the order of units, of which the first has this number
unfoldable pub nodes_from : Names → ℕ → List (List Cell) → List ℕ → ℕ → List ℕ
nodes_from names number units stages stage =
    flat_map (node_of names) (filter (λ (unit : ℕ × List Cell). stands_in stages stage unit.0) (enumerate_from number units))

-- a stage round its nodes
unfoldable pub stage_text : ℕ → List ℕ → List ℕ
stage_text stage nodes =
    codes "  subgraph cluster_" ++ decimal stage ++ codes " {\n    label=\"stage " ++ decimal stage ++ codes "\";\n"
    ++ nodes ++ codes "  }\n"

-- ---- all stages
abbrev pub last_of : List ℕ → ℕ
last_of stages = fold max 0 stages

-- the nodes of each stage, from 0 to the last one
abbrev pub nodes_by_stage : Names → List (List Cell) → List ℕ → List (List ℕ)
nodes_by_stage names units stages = map (nodes_from names 0 units stages) (range_with_len 0 (last_of stages + 1))

abbrev pub numbered_stage : ℕ × List ℕ → List ℕ
numbered_stage stage = stage_text stage.0 stage.1

-- stages with these nodes, of which the first has this number
abbrev pub stages_with : ℕ → List (List ℕ) → List ℕ
stages_with number nodes = flat_map numbered_stage (enumerate_from number nodes)

-- ---- texts in memory
abbrev pub texts_of : List (Vec ℕ) → List (List ℕ)
texts_of texts = map (λ (text : Vec ℕ). text.items) texts

-- the text of each stage gained what f tells of the stage
pub record Gain (f : ℕ → List ℕ) (old new : List (Vec ℕ)) : Type 0 where
  pub size : length new ≡ length old
  pub gained : (stage : ℕ) → stage < length old → slice_index_or (texts_of new) stage [] ≡ slice_index_or (texts_of old) stage [] ++ f stage
