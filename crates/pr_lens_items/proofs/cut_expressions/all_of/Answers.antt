use Rattle.pr_lang.specs.Shape.{expr_shape}
use Rattle.pr_lens_items.proofs.CutLemmas.{one_back}
use Rattle.pr_lens_items.proofs.cut_expressions.all_of.Goals as goal

pub loop-part-preserved : goal.loop-part-preserved
loop-part-preserved c =
    rw (c.in_ok-all-2.ensures, c.in_ok-part.ensures.ok)
    (one_back c.loop-part.parts.items c.pop.new.self.items c.in-Some.part (expr_shape c.loop-part.all.value) _ c.in-Some.ensures.items c.loop-part.invariant)
