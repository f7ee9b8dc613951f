-- What gives the streams of a program's instances in its equations.
use Rattle.std.specs.Prelude.{Option, Some, None}
use Rattle.pr_lang.specs.declared.trees.Program.{Program}
use Rattle.pr_scope_names.specs.declared.streams.Instance.{Instance}
use Rattle.pr_flat.specs.declared.equations.Operand.{Operand}
use Rattle.pr_flat.specs.declared.equations.Operand.TheVariants.{Const}
use Rattle.pr_expand_spec.specs.declared.givens.Standing.{Standing}
use Rattle.pr_expand_spec.specs.declared.givens.Standing.TheVariants.{Stream, Own}
use Rattle.pr_expand_spec.specs.Expressions.{Streams}
use Rattle.pr_expand_spec.specs.Programs.{World, items_change, start}
use Rattle.pr_probe.specs.Probes.{Probe}

-- the operand that a name stands for; 0 where it is no stream
abbrev pub operand_standing : Option Standing → Operand
operand_standing (Some (Stream g init)) = g.operand
operand_standing (Some (Own number)) = Const 0
operand_standing None = Const 0

-- where the equations of a program end
abbrev pub made_world : Program → World
made_world program = items_change 0 program.items.items start

-- the operand that an instance stands for then
abbrev pub operand_of : Program → Instance → Operand
operand_of program i = operand_standing ((made_world program).progress.streams i.name i.index)

-- the operand that a probe shows, where these streams are assigned
abbrev pub operand_at : Streams → Probe → Operand
operand_at env p = operand_standing (env p.name p.index)
