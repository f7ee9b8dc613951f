use Rattle.std.proofs.Common.{◌+◌, ℕ, ap, ◌∙◌}
use Rattle.pr_lens_tracks.proofs.RowLemmas.{pen-behind, pen-more}
use Rattle.pr_lens_tracks.proofs.pens.Pen.write.Goals as goal

pub returns-clause-line : goal.returns-clause-line
returns-clause-line c = λ rows has. c.in_ok-make_line.ensures.line ∙ pen-behind c.args.self.now rows c.args.row.now has

pub returns-clause-written : goal.returns-clause-written
returns-clause-written c = λ rows has. pen-more rows c.args.row.now c.args.self.now _ has (ap (λ (n : ℕ). n + 1) c.make_line.ensures.count) c.copy_from_slice.ensures.items
