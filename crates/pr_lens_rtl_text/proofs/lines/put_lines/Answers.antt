use Rattle.std.proofs.Common.{arith}
use Rattle.pr_lens_rtl_text.specs.Notes.{note_of}
use Rattle.pr_lens_rtl_text.proofs.TextLemmas.{lines_begun, lines_done, lines_more}
use Rattle.pr_lens_rtl_text.proofs.lines.put_lines.Goals as goal

pub loop-line-init : goal.loop-line-init
loop-line-init c = lines_begun (note_of c.args.notes.now c.args.marks.now) c.args.way c.args.marks.now c.args.lines.now c.args.text.now.items

pub loop-line-preserved : goal.loop-line-preserved
loop-line-preserved c = rw c.in_ok-put_kept.ensures (lines_more (note_of c.args.notes.now c.args.marks.now) c.args.way c.args.marks.now c.args.lines.now c.loop-line.line-index _ c.args.text.now.items _ c.loop-line-test.true c.loop-line.invariant)

pub returns : goal.returns
returns c = lines_done (note_of c.args.notes.now c.args.marks.now) c.args.way c.args.marks.now c.args.lines.now c.loop-line.line-index c.args.text.now.items _ (omega arith) c.loop-line.invariant
