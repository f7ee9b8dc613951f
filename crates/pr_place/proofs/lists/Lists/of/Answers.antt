use Rattle.std.proofs.Common.{◌≡◌, ◌≤◌, ◌+◌, ◌∙◌, get_or, length, arith}
use Rattle.std.proofs.lemmas.List.{get_or_default}
use Rattle.pr_place.proofs.ListLemmas.{taken_at}
use Rattle.pr_place.proofs.lists.Lists.of.Goals as goal

pub returns : goal.returns
returns c = taken_at c.args.self.now.starts.items c.args.self.now.items.items c.deref.result.now c.args.list c.index-from.result.now c.index-to.result.now c.index-from.ensures c.index-to.ensures c.deref.ensures.value c.requires

pub slice_bounds-result-count : goal.slice_bounds-result-count
slice_bounds-result-count c =
    let starts = c.args.self.now.starts.items in
    let from : c.index-from.result.now ≡ get_or starts c.args.list 0 = c.index-from.ensures ∙ get_or_default starts c.args.list c.index-from.result.now 0 (omega (arith, c.requires)) in
    let to : c.index-to.result.now ≡ get_or starts (c.args.list + 1) 0 = c.index-to.ensures ∙ get_or_default starts (c.args.list + 1) c.index-to.result.now 0 c.requires in
    let order : get_or starts c.args.list 0 ≤ get_or starts (c.args.list + 1) 0 = c.args.self.now.order c.args.list c.requires in
    omega (arith, from, to, order)

pub slice_bounds-result-end : goal.slice_bounds-result-end
slice_bounds-result-end c =
    let starts = c.args.self.now.starts.items in
    let to : c.index-to.result.now ≡ get_or starts (c.args.list + 1) 0 = c.index-to.ensures ∙ get_or_default starts (c.args.list + 1) c.index-to.result.now 0 c.requires in
    let inside : get_or starts (c.args.list + 1) 0 ≤ length c.args.self.now.items.items = c.args.self.now.inside (c.args.list + 1) c.requires in
    omega (arith, to, inside, c.deref.ensures.len)
