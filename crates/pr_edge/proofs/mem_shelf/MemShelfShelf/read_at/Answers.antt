use Rattle.std.proofs.Common.{◌≡◌, ◌∙◌, ap, arith, Option, length, List, ℕ}
use Rattle.pr_edge.specs.Named.{reach_in}
use Rattle.pr_edge.proofs.FirstFile.{reach_in-raised, reach_in-set_other}
use Rattle.pr_edge.proofs.mem_shelf.MemShelfShelf.read_at.Goals as goal

pub returns-clause-reached : goal.returns-clause-reached
returns-clause-reached c =
    let s = c.args.self.now in
    let same : length s.reached.items ≡ length s.files.items = omega (arith, s.same_len, s.reached.ok.0, s.files.ok.0) in
    ap (λ (rs : List (Option ℕ)). reach_in s.files.items rs c.args.name.now) c.raise.ensures ∙ reach_in-raised s.files.items s.reached.items c.args.name.now c.in-Some.i c.args.place c.copy_part-count.result (rw c.deref.ensures.value at c.in-Some.ensures.place) same

pub returns-clause-others : goal.returns-clause-others
returns-clause-others c = λ q ne.
    let s = c.args.self.now in
    ap (λ (rs : List (Option ℕ)). reach_in s.files.items rs q) c.raise.ensures ∙ reach_in-set_other s.files.items s.reached.items c.args.name.now q c.in-Some.i _ (rw c.deref.ensures.value at c.in-Some.ensures.place) ne
