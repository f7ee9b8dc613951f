use Rattle.std.proofs.Common.{sym}
use Rattle.pr_lens_rtl.specs.Kept.{marked, reads}
use Rattle.pr_lens_rtl_terms.specs.Terms.{form_expr}
use Rattle.pr_lens_rtl_terms.proofs.MarkLemmas.{all_both}
use Rattle.pr_lens_rtl_terms.proofs.marks.mark_choice.Goals as goal

pub returns : goal.returns
returns c =
    rw (c.mark_form-2.ensures, c.mark_form.ensures, c.mark.ensures)
    (sym (all_both (marked c.args.marks.now c.args.condition) (reads (form_expr c.args.one)) (reads (form_expr c.args.other))))
