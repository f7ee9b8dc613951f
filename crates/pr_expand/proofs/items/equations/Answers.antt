use Rattle.std.proofs.Common.{List, subst, sym}
use Rattle.pr_lang.specs.declared.trees.Item.{Item}
use Rattle.pr_scope.specs.Walk.{start}
use Rattle.pr_scope_facts.specs.Items.{AllItems}
use Rattle.pr_scope_facts.proofs.InvertedItems.{program-inverted}
use Rattle.pr_expand.proofs.items.equations.Goals as goal

pub all_items-requires-clause-walked : goal.all_items-requires-clause-walked
all_items-requires-clause-walked c =
    let w = program-inverted c.args.program.now c.requires.kept in
    (w.last, subst (λ (items : List Item). AllItems 0 items start w.last) (sym c.deref.ensures.value) w.all)
