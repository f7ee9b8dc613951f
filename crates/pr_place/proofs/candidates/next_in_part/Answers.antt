use Rattle.std.proofs.Common.{◌≤◌, ◌∙◌, ℕ, get_or, bit_and, sym, ap, arith}
use Rattle.pr_place.proofs.Sets.{part_none}
use Rattle.pr_place.proofs.candidates.next_in_part.Goals as goal

pub returns-then-set-allowed-eq0 : goal.returns-then-set-allowed-eq0
returns-then-set-allowed-eq0 c =
    let at = ap (λ (k : ℕ). bit_and (get_or c.args.summary.now k 0) c.args.allowed) (sym c.part_of.ensures) in
    let low : c.args.from ≤ c.args.to = omega (arith, c.requires.order) in
    sym (part_none c.args.ready.now c.args.summary.now c.args.from c.args.to c.args.allowed c.requires.covered low c.requires.inside c.requires.part (at ∙ c.if-set-allowed-eq0.true))
