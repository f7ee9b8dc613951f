use Rattle.std.proofs.Common.{ap, arith}
use Rattle.pr_lens_origins.specs.declared.spots.Cursor.{Cursor}
use Rattle.pr_lens_origins.proofs.PlaceLaws.{columns_few, cursor_on, lines_few}
use Rattle.pr_lens_origins.proofs.spots.advanced.Goals as goal

pub cursor_behind-cursor-requires-clause-line : goal.cursor_behind-cursor-requires-clause-line
cursor_behind-cursor-requires-clause-line c =
    let few = lines_few c.args.text.now c.loop-at.at in
    let is = ap (λ (x : Cursor). x.line) c.loop-at.invariant in
    omega (arith, few, is, c.requires.short)

pub cursor_behind-cursor-requires-clause-column : goal.cursor_behind-cursor-requires-clause-column
cursor_behind-cursor-requires-clause-column c =
    let few = columns_few c.args.text.now c.loop-at.at in
    let is = ap (λ (x : Cursor). x.column) c.loop-at.invariant in
    omega (arith, few, is, c.requires.short)

pub loop-at-preserved : goal.loop-at-preserved
loop-at-preserved c = cursor_on c.args.text.now c.loop-at.at c.loop-at.cursor c.cursor_behind-cursor.result _ (omega arith) c.loop-at.invariant (cc) c.cursor_behind-cursor.ensures
