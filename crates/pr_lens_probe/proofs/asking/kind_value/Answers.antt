use Rattle.std.proofs.Common.{◌∙◌}
use Rattle.pr_lens_probe.proofs.KindValues.{tells}
use Rattle.pr_lens_probe.proofs.asking.kind_value.Goals as goal

pub returns : goal.returns
returns c =
    tells c.args.instance.now.name c.args.instance.now.index c.in_ok-top.top c.in_ok-nothing.nothing c.in_ok-shown.shown c.in_ok-amount.amount
    c.in_ok-top.ensures.ok c.in_ok-nothing.ensures.ok (c.in_ok-shown.ensures.ok ∙ c.in_ok-reference.ensures) c.in_ok-amount.ensures.ok
