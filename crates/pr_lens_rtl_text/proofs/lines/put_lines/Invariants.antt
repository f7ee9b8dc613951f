use Rattle.std.proofs.Common.{◌≡◌, ◌++◌, take}
use Rattle.pr_lens_rtl_terms.specs.Terms.{assigns_of}
use Rattle.pr_lens_rtl_text.specs.Notes.{note_of}
use Rattle.pr_lens_rtl_text.specs.Printed.{kept_text}
use Rattle.pr_lens_rtl_text.proofs.lines.put_lines.Given as goal

abbrev pub invariant-loop-line : goal.invariant-loop-line
invariant-loop-line l = l.text.items ≡ l.fn.text.items ++ kept_text (note_of l.notes l.marks) l.way l.marks (assigns_of (take l.line-index l.lines))
