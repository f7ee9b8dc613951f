use Rattle.std.proofs.Common.{◌≡◌, arith, Some, replicate}
use Rattle.pr_edge.proofs.FirstFile.{reach_in-none}
use Rattle.pr_edge.proofs.mem_shelf.MemShelf.make.Goals as goal

pub returns-clause-unread : goal.returns-clause-unread
returns-clause-unread c = λ name.
    let zeros : c.in_ok-reached.reached.items ≡ replicate c.len.result (Some 0) = c.in_ok-reached.ensures.items_if_clones_equal (λ y h. grind (arith, h)) in
    rw zeros (reach_in-none _ _ name)
