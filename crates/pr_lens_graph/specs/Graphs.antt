-- The text of a graph.
use Rattle.std.specs.Prelude.{ℕ, List, ◌++◌, codes}
use Rattle.pr_net.specs.Shape.{NetShape}
use Rattle.pr_net.specs.Whole.{shape_of}
use Rattle.pr_lens_graph.specs.declared.layouts.Layout.{Layout}
use Rattle.pr_lens_graph.specs.declared.naming.Names.{Names}
use Rattle.pr_lens_graph.specs.Arrows.{outputs_text, units_arrows}
use Rattle.pr_lens_graph.specs.Nodes.{nodes_by_stage, stages_with}

unfoldable pub head_text : List ℕ
head_text = codes "digraph units {\n  rankdir=LR;\n  node [shape=box, fontname=\"sans-serif\"];\n"

-- the graph of a net whose units stand in these stages: the stages with their units, the arrows between units, and the outputs, with
-- names where they are told. A unit without a stage has no node
unfoldable pub graph_text : Names → NetShape → List ℕ → List ℕ
graph_text names net stages =
    head_text ++ stages_with 0 (nodes_by_stage names net.units stages) ++ units_arrows 0 net.units ++ outputs_text names 0 net.outputs ++ codes "}\n"

abbrev pub graph_of : Layout → List ℕ
graph_of layout = graph_text layout.names (shape_of layout.net) layout.stages.items
