use Rattle.pr_conf.specs.Configuration.{shape_of}
use Rattle.pr_lens_tool.proofs.ModuleLemmas.{unwritten_is, written_is}
use Rattle.pr_lens_tool.proofs.rtl.module_text.Goals as goal

pub returns-in-Ok-clause-told : goal.returns-in-Ok-clause-told
returns-in-Ok-clause-told g c =
    let made = c.args.made.now in
    written_is g.row.N g.row.P c.args.notes.now c.args.name.now made.front.scoped.program (shape_of made.conf) c.in-Ok.text.items c.in-Ok.ensures.made c.in-Ok.ensures.short

pub returns-in-Err-Long-clause-told : goal.returns-in-Err-Long-clause-told
returns-in-Err-Long-clause-told g c =
    let made = c.args.made.now in
    unwritten_is g.row.N g.row.P c.args.notes.now c.args.name.now made.front.scoped.program (shape_of made.conf) c.new.result.items (rw c.in-Err-Long.field-0-is at c.in-Err-Long.ensures.refused) c.new.ensures.items
