use Rattle.std.proofs.Common.{◌∙◌, ◌≤◌, ◌<◌, ◌^◌, ℕ, sym, subst, arith}
use Rattle.pr_base.specs.Numbers.{IsLeastWidth}
use Rattle.pr_flat.proofs.FormLemmas.{number_width-least}
use Rattle.pr_lens_warn.proofs.constants.width_of.Goals as goal

pub returns-clause-width : goal.returns-clause-width
returns-clause-width c =
    let least = subst (λ (n : ℕ). IsLeastWidth n c.bits_of.result.bits) c.from.ensures c.bits_of.ensures in
    c.get.ensures ∙ sym (number_width-least c.args.value c.bits_of.result.bits c.ranges.value.fits least)

pub returns-clause-most : goal.returns-clause-most
returns-clause-most c =
    let least = subst (λ (n : ℕ). IsLeastWidth n c.bits_of.result.bits) c.from.ensures c.bits_of.ensures in
    let low : c.bits_of.result.bits ≤ 64 = least.least 64 (omega arith) c.ranges.value.fits in
    omega (arith, low, c.get.ensures)

pub returns-clause-holds : goal.returns-clause-holds
returns-clause-holds c =
    let least = subst (λ (n : ℕ). IsLeastWidth n c.bits_of.result.bits) c.from.ensures c.bits_of.ensures in
    subst (λ (w : ℕ). c.args.value < 2 ^ w) (sym c.get.ensures) least.holds
