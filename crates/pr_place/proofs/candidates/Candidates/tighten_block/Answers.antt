use Rattle.std.proofs.Common.{arith, subst, set, sym, ◌≡◌, ℕ, List, get_or, ◌<◌}
use Rattle.std.specs.Int.{bit_at}
use Rattle.pr_place.specs.Candidates.{IsCovered}
use Rattle.pr_place.proofs.Sets.{block_tightened}
use Rattle.pr_place.proofs.candidates.Candidates.tighten_block.Goals as goal

pub returns-clause-covered : goal.returns-clause-covered
returns-clause-covered c = subst (λ (k : ℕ). IsCovered c.args.self.now.ready.items (set c.args.self.now.summary.items k c.classes_of.result)) (sym c.block_of.ensures) (block_tightened c.args.self.now.ready.items c.args.self.now.summary.items c.args.group c.classes_of.result c.requires.sets c.requires.inside c.requires.covered (λ g lo hi l small.
    let end = c.min-end.ensures in
    let len = c.len.ensures in
    subst (λ (xs : List ℕ). get_or xs g 0 < 64 → bit_at c.classes_of.result (get_or xs g 0) ≡ 1) c.deref.ensures.value (c.classes_of.ensures g lo (omega (arith, end, len, hi, l))) small))
