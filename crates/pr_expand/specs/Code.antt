-- What the code keeps.
use Rattle.std.specs.Prelude.{ℕ, ◌<◌, cond, nat_le, length, ⊤}
use Rattle.pr_scope_names.specs.Names.{ByInstance, instances_in, placed}
use Rattle.pr_flat.specs.Shape.{shapes_of}
use Rattle.pr_expand_spec.specs.declared.givens.Standing.{Standing}
use Rattle.pr_expand.specs.declared.stops.Stop.{Stop}
use Rattle.pr_expand.specs.declared.stops.Stop.TheVariants.{Limit, Memory}
use Rattle.pr_expand.specs.declared.ledgers.Ledger.{Ledger}
use Rattle.pr_expand.specs.declared.ledgers.Expanded as made
use Rattle.pr_expand.specs.declared.ledgers.AllExpanded as all
use Rattle.pr_expand.specs.declared.ledgers.Progress as progress
use Rattle.pr_expand.specs.declared.environment.Environment.{Environment}
use Rattle.pr_expand_spec.specs.Making.{Equations, Expanded}
use Rattle.pr_expand_spec.specs.Expressions.{Streams, AllExpanded}
use Rattle.pr_expand_spec.specs.Statements.{Progress}

abbrev pub shapes_in : Ledger → Equations
shapes_in l = shapes_of l.equations.items

abbrev pub made_of : made.Expanded → Expanded
made_of m = record { equations = shapes_in m.ledger; given = m.given }

abbrev pub streams_by : ByInstance Standing → Streams
streams_by s = λ name place. placed (s name) place

abbrev pub streams_in : Environment → Streams
streams_in e = streams_by (instances_in e.instances)

abbrev pub all_of : all.AllExpanded → AllExpanded
all_of a = record { equations = shapes_in a.ledger; given = a.given.items }

abbrev pub progress_of : progress.Progress → Progress
progress_of p = record { streams = streams_in p.env; equations = shapes_in p.ledger }

-- the limit comes where the equations are more than there may be
abbrev pub IsPast : Stop → Equations → Type 0
IsPast Limit es = 16384 < length es
IsPast (Memory e) es = ⊤

-- the body that is made, unless the counted one has more equations
abbrev pub longer : ℕ → Expanded → Expanded → Expanded
longer n counted body = cond (nat_le n (length body.equations)) body counted
