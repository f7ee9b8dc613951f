use Rattle.std.proofs.Common.{ℕ, ◌+◌, ◌++◌, List, ap, ◌∙◌}
use Rattle.std.proofs.lemmas.Result.{IfOk-from_err}
use Rattle.pr_cut_units.specs.Parts.{each}
use Rattle.pr_cut_plan.proofs.GroupLemmas.{part_whole}
use Rattle.pr_cut_plan.proofs.groups.push_part.Goals as goal

pub returns-clause-groups : goal.returns-clause-groups
returns-clause-groups c =
    let holds = c.args.holds.now in
    part_whole c.args.units.now holds c.args.from c.args.groups.now.items c.push_untied.new.groups.items c.push.new.self.items c.in_ok-group.group c.requires.part c.in_ok-tied.ensures.groups
    (c.in_ok-group.ensures ∙ ap (λ (xs : List ℕ). xs ++ each holds.count (λ (j : ℕ). holds.first + j)) c.in_ok-tied.ensures.tied) c.in_ok-push.ensures.items

pub returns-in_err-tied : goal.returns-in_err-tied
returns-in_err-tied c = let h = c.from_residual.ensures.0 in record { next = IfOk-from_err _ _ h; groups = IfOk-from_err _ _ h }

pub returns-in_err-group : goal.returns-in_err-group
returns-in_err-group c = let h = c.from_residual-in_err-group.ensures.0 in record { next = IfOk-from_err _ _ h; groups = IfOk-from_err _ _ h }

pub returns-in_err-push : goal.returns-in_err-push
returns-in_err-push c = let h = c.from_residual-in_err-push.ensures.0 in record { next = IfOk-from_err _ _ h; groups = IfOk-from_err _ _ h }
