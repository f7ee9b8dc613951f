use Rattle.pr_flat_ops.proofs.Values.{positive_bits, positive_whole, negative_bits, negative_whole}
use Rattle.std.proofs.Common.{sym, ◌∙◌}
use Rattle.pr_flat_ops.proofs.wholes.whole_of.Goals as goal

pub returns-then-not-is_negative-clause-bits : goal.returns-then-not-is_negative-clause-bits
returns-then-not-is_negative-clause-bits c n below is = positive_bits c.args.point.form c.args.point.number n (sym c.is_negative.ensures ∙ c.if-not-is_negative.true) below is

pub returns-then-not-is_negative-clause-value : goal.returns-then-not-is_negative-clause-value
returns-then-not-is_negative-clause-value c lawful = positive_whole c.args.point (sym c.is_negative.ensures ∙ c.if-not-is_negative.true) lawful

pub returns-clause-bits : goal.returns-clause-bits
returns-clause-bits c n below is = negative_bits c.args.point.form c.args.point.number n c.above.result (sym c.is_negative.ensures ∙ c.if-not-is_negative.false) below is c.above.ensures

pub returns-clause-value : goal.returns-clause-value
returns-clause-value c lawful = negative_whole c.args.point c.above.result (sym c.is_negative.ensures ∙ c.if-not-is_negative.false) c.above.ensures lawful
