use Rattle.std.proofs.Common.{Some, ap, sym, ◌∙◌}
use Rattle.pr_lang.specs.declared.trees.Fixed.TheFolds.{fold-roll-Fixed}
use Rattle.pr_lang.specs.declared.trees.Fixed.TheViews.{rolls-Refer}
use Rattle.pr_lang.specs.Tree as tree
use Rattle.pr_lang.specs.Is.{name_tree}
use Rattle.pr_lang.specs.Shape.{fixed_shape}
use Rattle.pr_parse.proofs.build.fixed_entry.Goals as goal

pub returns-clause-ok : goal.returns-clause-ok
returns-clause-ok c = ap fixed_shape (sym (rolls-Refer c.args.name (Some c.in_ok-index.index))) ∙ rw fold-roll-Fixed (ap (λ x. tree.refer (name_tree c.args.name) (tree.index (fixed_shape x))) c.in_ok-index.ensures.ok)
