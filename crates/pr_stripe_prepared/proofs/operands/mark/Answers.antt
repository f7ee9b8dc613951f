use mathlib.Core.Bool.{not}
use Rattle.std.proofs.Common.{◌≡◌, ◌==◌, ℕ, get_or, bit_or, Bool, true, false, refl, sym, ap, ◌∙◌, if◌then◌else◌}
use Rattle.std.proofs.lemmas.Bool.{ne_eqb}
use Rattle.std.proofs.lemmas.List.{get_or-replicate}
use Rattle.std.specs.Int.Bits.{or_zero_r, and_zero_l}
use Rattle.pr_lanes.specs.Rows.{ones_where}
use Rattle.pr_stripe_prepared.proofs.operands.mark.Goals as goal

-- whether carries are asked or not is the same where they are 0
either_way : (b : Bool) (x y bit : ℕ) → y ≡ 0 → x ≡ (if b then bit_or x (ones_where y bit) else x)
either_way true x y bit e =
    sym (ap (λ n. bit_or x (ones_where n bit)) e ∙ ap (λ n. bit_or x (if n == 0 then 0 else 255)) (and_zero_l bit) ∙ or_zero_r x)
either_way false x y bit e = refl

pub returns-then-this-ne0 : goal.returns-then-this-ne0
returns-then-this-ne0 g c =
    let zeros = c.requires.first (ap not (ne_eqb g.row.FIRST 0 c.if-this-ne0.true)) in
    record {
      long = c.requires.bits;
      each = λ k l. either_way c.args.q.now.has_carry _ (get_or c.args.carries k 0) _ (ap (λ xs. get_or xs k 0) zeros ∙ get_or-replicate 16 k 0 0 l);
    }
