use Rattle.std.proofs.Common.{◌≡◌, ℕ, ap, ◌∙◌, arith}
use Rattle.pr_base.specs.Numbers.{byte_at, slices_of}
use Rattle.pr_flat.specs.Forms.{number_width}
use Rattle.pr_net.specs.declared.cells.Slice.{Slice}
use Rattle.pr_cut_units.specs.Parts.{each}
use Rattle.pr_cut.proofs.StepLemmas.{number_each}
use Rattle.pr_cut.proofs.operands.number_slices.Goals as goal

pub returns : goal.returns
returns c =
    let end : c.loop-i.i ≡ c.slices-count.result = omega (arith, c.loop-i.auto.i-end, c.loop-i-test.false) in
    let count : c.loop-i.i ≡ slices_of (number_width c.args.c) = end ∙ c.slices-count.ensures ∙ ap slices_of (c.get.ensures ∙ c.number_width.ensures.width) in
    c.loop-i.invariant ∙ ap (λ (k : ℕ). each k (λ i. Slice.Const (byte_at c.args.c i))) count ∙ number_each (slices_of (number_width c.args.c)) c.args.c
