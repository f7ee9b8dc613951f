use Rattle.std.proofs.Common.{◌∙◌}
use Rattle.pr_lens_extents.specs.Scenes.{seen_in}
use Rattle.pr_lens_extents.proofs.Layers.{call_is, cat_is}
use Rattle.pr_lens_extents.proofs.expressions.+extent.Goals as goal

pub extent_of-returns-in-Call : goal.extent_of-returns-in-Call
extent_of-returns-in-Call t c = c.called.ensures ∙ call_is c.args.value.now c.in-Call.name c.in-Call.args c.deref-in-Call.result.now (seen_in c.args.scene.now) c.in-Call.is c.deref-in-Call.ensures.value

pub extent_of-returns-in-Cat : goal.extent_of-returns-in-Cat
extent_of-returns-in-Cat t c = c.concatenated.ensures ∙ cat_is c.args.value.now c.in-Cat.parts c.deref-in-Cat.result.now (seen_in c.args.scene.now) c.in-Cat.is c.deref-in-Cat.ensures.value
