use Rattle.std.proofs.lemmas.Result.{IfErr-weaker, IfOk-weaker}
use Rattle.pr_lens_tool.proofs.ModuleLemmas.{module_is}
use Rattle.pr_lens_tool.proofs.ProgramLemmas.{memory_wanting}
use Rattle.pr_lens_tool.proofs.rtl.rtl_of.Goals as goal

pub returns-clause-told : goal.returns-clause-told
returns-clause-told g c =
    IfOk-weaker c.module_text.result _ _ (λ o h. module_is g.row.N g.row.P c.args.narrowed c.args.text.now _ c.args.name.now _ _ o.outcome o.text.items c.in-Ok.ensures.compiled c.in-Ok-notes_of.ensures.notes h) c.module_text.ensures.told

pub returns-clause-refused : goal.returns-clause-refused
returns-clause-refused g c = IfErr-weaker c.module_text.result _ _ (λ o memory. memory_wanting g.row.N g.row.P c.args.narrowed c.args.text.now o memory) c.module_text.ensures.refused
