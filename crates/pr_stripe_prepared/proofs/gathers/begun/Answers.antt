use mathlib.Core.Bool.{not}
use Rattle.std.proofs.Common.{◌≡◌, ℕ, get_or, bit_or, Bool, true, false, refl, sym, ap, ◌∙◌, if◌then◌else◌}
use Rattle.std.proofs.lemmas.Bool.{ne_eqb}
use Rattle.std.specs.Int.Bits.{or_zero_r}
use Rattle.pr_stripe_prepared.specs.Gather.{looked}
use Rattle.pr_stripe_prepared.proofs.TermLaws.{looked_zeros}
use Rattle.pr_stripe_prepared.proofs.gathers.begun.Goals as goal

-- whether outputs are looked up or not is the same where they are 0
either_way : (b : Bool) (x y : ℕ) → y ≡ 0 → x ≡ (if b then bit_or x y else x)
either_way true x y e = sym (ap (bit_or x) e ∙ or_zero_r x)
either_way false x y e = refl

pub returns-then-this-ne0 : goal.returns-then-this-ne0
returns-then-this-ne0 g c =
    let zeros = c.requires.first (ap not (ne_eqb g.row.FIRST 0 c.if-this-ne0.true)) in
    let here = λ (k : ℕ). looked (get_or c.args.g.now.heres k 0) 0 c.args.made in
    record {
      long = c.known-known.ensures.long;
      each = λ k l. c.known-known.ensures.each k l
          ∙ either_way c.args.g.now.has_here _ (here k) (ap (looked (get_or c.args.g.now.heres k 0) 0) zeros ∙ looked_zeros (get_or c.args.g.now.heres k 0) 16);
    }
