-- A parked configuration, as contracts see it.
use Rattle.std.specs.Prelude.{ℕ}
use Rattle.pr_conf.specs.Shape.{Shape}
use Rattle.pr_conf.specs.Configuration.{shape_of}
use Rattle.pr_machine.specs.declared.parking.Parked.{Parked}

-- the configuration that is parked
abbrev pub parked_conf : {N P : ℕ} → Parked N P → Shape
parked_conf parked = shape_of parked.conf
