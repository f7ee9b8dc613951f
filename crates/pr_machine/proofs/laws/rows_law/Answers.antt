use Rattle.std.proofs.Common.{length}
use Rattle.pr_control.proofs.ResidentLaws.{feeds}
use Rattle.pr_control.specs.Time.{before}
use Rattle.pr_conf.specs.Through.{steps_of, tapped}
use Rattle.pr_machine_refines.proofs.StandingLaws.{row_of}
use Rattle.pr_machine.specs.Places.{spots_of, rows_of}
use Rattle.pr_machine.specs.Stands.{account_of}
use Rattle.pr_machine.proofs.Events.{some_stages, some_stripes}
use Rattle.pr_machine.proofs.laws.rows_law.Goals as goal

pub returns-clause-shown : goal.returns-clause-shown
returns-clause-shown g c =
    let l = c.args._machine.now.parts in
    λ k p h st. row_of (steps_of g.row.N g.row.P k) (tapped g.row.N k) (length k.stages) p (spots_of l.places.items) (rows_of l.buffers.store) l.plan.time l.entered l.left l.buffers.input.waiting l.buffers.output.waiting (account_of k p h) (some_stages l.conf k st.conf) st.parts

pub returns-clause-read : goal.returns-clause-read
returns-clause-read g c =
    let l = c.args._machine.now.parts in
    λ k p h st s i j e computes entered when.
    st.parts.row s (before p i) j e (feeds (length k.stages) p (account_of k p h).time s i (some_stripes l p st.stripes) computes).1 entered when
