use Rattle.std.proofs.Common.{get_or, bit_or, rules, sym, ap, ◌∙◌}
use Rattle.std.specs.Int.Bits.{or_zero_r}
use Rattle.pr_stripe_prepared.proofs.TermLaws.{looked_none}
use Rattle.pr_stripe_prepared.proofs.gathers.known.Goals as goal

pub returns-then-not-g : goal.returns-then-not-g
returns-then-not-g c =
    let g = c.args.g.now in
    record {
      long = search rules;
      each = λ k l. sym (ap (bit_or (get_or g.known k 0)) (looked_none (get_or g.states k 0) 0 c.args.state (g.unread c.if-not-g.true k l)) ∙ or_zero_r (get_or g.known k 0));
    }
