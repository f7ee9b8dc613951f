use Rattle.std.proofs.Common.{ℕ, ◌+◌, ◌++◌, List, [], ◌∷◌, ap, sym, ◌∙◌, append_assoc}
use Rattle.pr_cut_units.specs.Parts.{each}
use Rattle.pr_cut_units.proofs.EachLemmas.{each_more}
use Rattle.pr_cut_plan.proofs.groups.with_holds.Goals as goal

pub loop-j-preserved : goal.loop-j-preserved
loop-j-preserved c =
    let f = λ (j : ℕ). c.args.holds.now.first + j in
    let tied = c.args.tied.items in
    let j = c.loop-j.j in
    c.in_ok-push.ensures.items
    ∙ ap (λ (n : ℕ). c.loop-j.units.items ++ (n + j) ∷ []) c.first.ensures
    ∙ ap (λ (xs : List ℕ). xs ++ f j ∷ []) c.loop-j.invariant
    ∙ append_assoc tied (each j f) (f j ∷ [])
    ∙ ap (λ (xs : List ℕ). tied ++ xs) (sym (each_more f j))
