use Rattle.std.proofs.Common.{◌≡◌, ℕ, [], None, sym, ◌∙◌, subst}
use Rattle.pr_control.proofs.Residence.{some_same}
use Rattle.pr_machine.specs.Stands.{account_of, IsStored}
use Rattle.pr_run.proofs.CycleLines.{stored_none}
use Rattle.pr_run.proofs.cycling.saved_row.Goals as goal

pub returns-in-None-stored-clause-row : goal.returns-in-None-stored-clause-row
returns-in-None-stored-clause-row g c = λ k p h s st is inside away.
    let same : c.in-Some.stage ≡ s = some_same c.in-Some.stage s (sym c.in-Some.is ∙ is) in
    let none = subst (λ (n : ℕ). IsStored g.row.N g.row.P k p (account_of k p h) n None) same (c.in-None-stored.ensures.stored k p h st) in
    stored_none g.row.N g.row.P k p (account_of k p h) s [] none inside away
