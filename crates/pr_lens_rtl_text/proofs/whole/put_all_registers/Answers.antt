use Rattle.std.proofs.lemmas.Result.{on_ok_weaker, IfErr-weaker}
use Rattle.pr_lens_rtl.specs.Module.{module_of}
use Rattle.pr_lens_rtl_text.proofs.whole.put_all_registers.Goals as goal

pub returns-clause-text : goal.returns-clause-text
unfolding module_of
returns-clause-text g c = on_ok_weaker c.put_registers.result (λ h. rw c.deref.ensures.value at h) c.put_registers.ensures.text

pub returns-clause-refused : goal.returns-clause-refused
unfolding module_of
returns-clause-refused g c = IfErr-weaker c.put_registers.result _ _ (λ y h. rw c.deref.ensures.value at h) c.put_registers.ensures.refused
