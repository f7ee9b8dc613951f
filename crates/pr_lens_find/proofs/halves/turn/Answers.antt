use Rattle.std.proofs.Common.{◌≡◌, ◌-◌, ℕ, subst, arith}
use Rattle.pr_lens_find.proofs.halves.turn.Goals as goal

pub returns : goal.returns
returns g c =
    let held = c.halves.invariant in
    let same : c.halves.below ≡ c.halves.above - 1 = omega arith in
    record {
      above = omega arith;
      within = held.to;
      yes = held.yes;
      no = subst (λ (k : ℕ). g.Q.Question.no c.args.question.now k) same held.no;
    }
