use Rattle.std.proofs.Common.{◌∙◌, ◌-◌, ◌+◌, ℕ, sym, ap, arith}
use Rattle.pr_lens_source.proofs.RangeLemmas.{first_later}
use Rattle.pr_lens_names.specs.Instances.{differs_behind}
use Rattle.pr_lens_names.proofs.InstanceLemmas.{other_many, same_by, differs_here, differs_last}
use Rattle.pr_lens_names.proofs.instances.is_same_instance.Goals as goal

pub returns-then-saturating_sub-behind : goal.returns-then-saturating_sub-behind
returns-then-saturating_sub-behind c =
    let source = c.args.source.now in
    let is = c.saturating_sub-behind.ensures ∙ ap (λ (n : ℕ). n - c.args.one) c.last_of.ensures in
    let other = c.saturating_sub.ensures ∙ ap (λ (n : ℕ). n - c.args.other) c.last_of-2.ensures in
    other_many source.text.now source.tokens.now c.args.one c.args.other c.saturating_sub-behind.result is (λ same. c.if-saturating_sub-behind.true (other ∙ same))

pub returns-then-differs_behind : goal.returns-then-differs_behind
returns-then-differs_behind c =
    let source = c.args.source.now in
    let count = c.saturating_sub-behind.result in
    let is = c.saturating_sub-behind.ensures ∙ ap (λ (n : ℕ). n - c.args.one) c.last_of.ensures in
    let other = c.saturating_sub.ensures ∙ ap (λ (n : ℕ). n - c.args.other) c.last_of-2.ensures in
    same_by source.text.now source.tokens.now c.args.one c.args.other _ count is (sym other ∙ c.if-saturating_sub-behind.false)
    (differs_here source.text.now source.tokens.now c.args.one c.args.other c.loop-number.number count c.loop-number-test.true (sym c.differs_behind.ensures ∙ c.if-differs_behind.true) c.loop-number.invariant)

pub loop-number-preserved : goal.loop-number-preserved
loop-number-preserved c =
    let source = c.args.source.now in
    sym (first_later (differs_behind source.text.now source.tokens.now c.args.one c.args.other) c.loop-number.number (c.saturating_sub-behind.result + 1) (omega arith) (sym c.differs_behind.ensures ∙ c.if-differs_behind.false))
    ∙ c.loop-number.invariant

pub returns : goal.returns
returns c =
    let source = c.args.source.now in
    let count = c.saturating_sub-behind.result in
    let is = c.saturating_sub-behind.ensures ∙ ap (λ (n : ℕ). n - c.args.one) c.last_of.ensures in
    let other = c.saturating_sub.ensures ∙ ap (λ (n : ℕ). n - c.args.other) c.last_of-2.ensures in
    same_by source.text.now source.tokens.now c.args.one c.args.other _ count is (sym other ∙ c.if-saturating_sub-behind.false)
    (differs_last source.text.now source.tokens.now c.args.one c.args.other c.loop-number.number count c.differs_behind-2.result (omega arith) (sym c.differs_behind-2.ensures) c.loop-number.invariant)
