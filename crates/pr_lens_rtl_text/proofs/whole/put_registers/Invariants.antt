use Rattle.std.proofs.Common.{◌≡◌, ◌++◌, drop, map}
use Rattle.pr_conf.specs.Configuration.{pes_of}
use Rattle.pr_lens_rtl.specs.Module.{stages_registers}
use Rattle.pr_lens_rtl_text.specs.Notes.{note_of}
use Rattle.pr_lens_rtl_text.specs.Printed.{kept_text}
use Rattle.pr_lens_rtl_text.proofs.whole.put_registers.Given as goal

abbrev pub invariant-loop-number : goal.invariant-loop-number
invariant-loop-number g l = l.text.items ++ kept_text (note_of l.notes l.marks) l.way l.marks (stages_registers g.row.N g.row.P l.number (map pes_of (drop l.number l.stages))) ≡ l.fn.text.items ++ kept_text (note_of l.notes l.marks) l.way l.marks (stages_registers g.row.N g.row.P 0 (map pes_of l.stages))
