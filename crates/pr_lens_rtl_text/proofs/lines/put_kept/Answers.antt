use Rattle.std.proofs.Common.{◌++◌, ◌∙◌, ap, sym, append-nil}
use Rattle.std.proofs.lemmas.Result.{on_ok_weaker}
use Rattle.pr_lens_rtl_terms.specs.Terms.{assign_of}
use Rattle.pr_lens_rtl_text.specs.Notes.{note_of}
use Rattle.pr_lens_rtl_text.proofs.TextLemmas.{text_no, text_yes}
use Rattle.pr_lens_rtl_text.proofs.lines.put_kept.Goals as goal

pub returns : goal.returns
returns c =
    on_ok_weaker c.put_line.result (λ h. rw (text_yes (note_of c.args.notes.now c.args.marks.now) c.args.way c.args.marks.now (assign_of c.args.line.now) c.is_kept.result c.is_kept.ensures c.if-not-is_kept.false) h) c.put_line.ensures

pub returns-then-not-is_kept : goal.returns-then-not-is_kept
returns-then-not-is_kept c =
    sym (append-nil c.args.text.now.items)
    ∙ ap (λ z. c.args.text.now.items ++ z) (sym (text_no (note_of c.args.notes.now c.args.marks.now) c.args.way c.args.marks.now (assign_of c.args.line.now) c.is_kept.result c.is_kept.ensures c.if-not-is_kept.true))
