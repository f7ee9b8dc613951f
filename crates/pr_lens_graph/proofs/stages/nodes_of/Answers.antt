use Rattle.std.proofs.Common.{ℕ, ◌+◌, ◌∙◌, List, ap, subst, arith}
use Rattle.std.specs.Global.{Vec}
use Rattle.pr_lens_graph.specs.Nodes.{Gain, nodes_from, texts_of}
use Rattle.pr_lens_graph.proofs.NodeLaws.{kept_whole, stages_filled}
use Rattle.pr_lens_graph.proofs.stages.nodes_of.Goals as goal

pub returns : goal.returns
returns c =
    let names = c.args.names.now in
    let units = c.args.units.now in
    let stages = c.args.stages.now in
    let nodes = c.in_ok-nodes.nodes in
    let now = c.put_units.new.texts in
    let gain = subst (λ (old : List (Vec ℕ)). Gain (nodes_from names 0 units stages) old now) c.deref_mut.ensures.value c.in_ok-put_units.ensures in
    ap texts_of (kept_whole nodes.items now nodes.len (omega arith) gain.size)
    ∙ stages_filled names units stages (c.last_of.result + 1) nodes.items now (ap (λ (n : ℕ). n + 1) c.last_of.ensures) c.in_ok-nodes.ensures gain
