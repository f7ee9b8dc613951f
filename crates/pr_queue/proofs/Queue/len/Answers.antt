use Rattle.std.proofs.Common.{length, sym, ap, ◌∙◌, ◌+◌}
use Rattle.pr_queue.specs.Pieces.{Pieces}
use Rattle.pr_queue.proofs.PiecesLemmas.{how_many}
use Rattle.pr_queue.proofs.Queue.len.Goals as goal

pub returns-clause-count : goal.returns-clause-count
returns-clause-count c =
    let q = c.self.inside in
    ap (λ n. n + q.count) c.len.ensures.len ∙ sym (how_many q.size q.words.items q.count q.bytes.items) ∙ ap (λ (p : Pieces). length p.waiting) c.self.view_is
